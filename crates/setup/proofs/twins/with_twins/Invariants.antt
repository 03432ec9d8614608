-- the twins of the blocks before i stand
use Rattle.setup.proofs.SetupTwinLaws.{TwinsTo}
use Rattle.setup.proofs.twins.with_twins.Given as goal

abbrev pub invariant-loop-i : goal.invariant-loop-i
invariant-loop-i l = TwinsTo l.blocks l.count l.i l.r
