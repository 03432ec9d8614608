use Rattle.rivals.specs.Tests.{Below, OutdoneFor}
use Rattle.rivals.proofs.compare.holds_outdone.Given as goal

abbrev pub invariant-loop-j : goal.invariant-loop-j
invariant-loop-j l = Below (OutdoneFor l.blocks l.at l.set l.rival) l.j
