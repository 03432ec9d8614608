-- the first h places are moved
use Rattle.places.proofs.HourColumnLaws.{MovedTo}
use Rattle.places.proofs.added.moved.Given as goal

abbrev pub invariant-loop-h : goal.invariant-loop-h
invariant-loop-h l = MovedTo l.initial.r l.hours l.quantity l.h l.rest l.r
