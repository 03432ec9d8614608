-- the reach of the hours before this one
use Rattle.places.proofs.ReachLaws.{ReachTo}
use Rattle.places.proofs.reach.reach_of.Given as goal

abbrev pub invariant-loop-h : goal.invariant-loop-h
invariant-loop-h l = ReachTo l.first l.last l.least l.free l.h l.balances l.from l.to
