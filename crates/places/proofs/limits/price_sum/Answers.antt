-- `places::limits::price_sum` meets its contract: the sum over the first h hours. Assumes nothing.
use Rattle.places.proofs.HourColumnLaws.{sum-start, sum-next, sum-all}
use Rattle.places.proofs.limits.price_sum.Goals as goal

pub loop-h-init : goal.loop-h-init
loop-h-init c = sum-start _ _

pub loop-h-preserved : goal.loop-h-preserved
loop-h-preserved c = sum-next _ _ _ _ _ c.requires.1 c.loop-h.invariant c.loop-h-test.true

pub returns : goal.returns
returns c = sum-all _ _ _ _ _ c.loop-h.invariant c.loop-h-test.false
