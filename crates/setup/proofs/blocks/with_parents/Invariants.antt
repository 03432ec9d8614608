-- the parents of the blocks before i stand
use Rattle.setup.proofs.SetupTwinLaws.{ParentsTo}
use Rattle.setup.proofs.blocks.with_parents.Given as goal

abbrev pub invariant-loop-i : goal.invariant-loop-i
invariant-loop-i l = ParentsTo l.parents l.initial.r l.i l.r
