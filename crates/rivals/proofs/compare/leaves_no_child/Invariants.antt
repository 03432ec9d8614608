use Rattle.rivals.specs.Tests.{Below, ChildFor}
use Rattle.rivals.proofs.compare.leaves_no_child.Given as goal

abbrev pub invariant-loop-j : goal.invariant-loop-j
invariant-loop-j l = Below (ChildFor l.blocks l.at l.set l.rival) l.j
