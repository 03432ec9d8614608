use Rattle.rivals.specs.Tests.{Below, ParentFor}
use Rattle.rivals.proofs.compare.holds_parents.Given as goal

abbrev pub invariant-loop-j : goal.invariant-loop-j
invariant-loop-j l = Below (ParentFor l.blocks l.rival) l.j
