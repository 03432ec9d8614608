-- the sum over the first h hours
use Rattle.places.proofs.HourColumnLaws.{SummedTo}
use Rattle.places.proofs.limits.price_sum.Given as goal

abbrev pub invariant-loop-h : goal.invariant-loop-h
invariant-loop-h l = SummedTo l.prices l.hours l.h l.rest l.sum
