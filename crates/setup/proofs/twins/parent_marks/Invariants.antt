-- the numbers named before j are marked
use Rattle.setup.proofs.SetupTwinLaws.{MarkedTo}
use Rattle.setup.proofs.twins.parent_marks.Given as goal

abbrev pub invariant-loop-j : goal.invariant-loop-j
invariant-loop-j l = MarkedTo l.blocks l.j l.marks
