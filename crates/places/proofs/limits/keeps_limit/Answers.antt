-- `places::limits::keeps_limit` meets its contract: a side that is not 0 sells. Assumes nothing.
use Rattle.places.specs.Blocks.{keeps_at}
use Rattle.pricing.proofs.TotalsLaws.{side-sell}
use Rattle.places.proofs.limits.keeps_limit.Goals as goal

pub returns-then-side-eq0 : goal.returns-then-side-eq0
unfolding keeps_at
returns-then-side-eq0 c = rw (c.price_sum.ensures.0, c.if-side-eq0.true)

pub returns-else-side-eq0 : goal.returns-else-side-eq0
unfolding keeps_at
returns-else-side-eq0 c = rw (c.price_sum-else-side-eq0.ensures.0, side-sell _ c.if-side-eq0.false)
