-- `guess::trial::miss_of` meets its contract: a side that is not 0 sells. Assumes nothing.
use Rattle.pricing.proofs.TotalsLaws.{side-sell}
use Rattle.guess.specs.Urgency.{missed_by}
use Rattle.guess.proofs.trial.miss_of.Goals as goal

pub returns-then-side-eq0 : goal.returns-then-side-eq0
unfolding missed_by
returns-then-side-eq0 c = rw (c.saturating_sub.ensures, c.price_sum-sum.ensures.0, c.if-side-eq0.true)

pub returns-else-side-eq0 : goal.returns-else-side-eq0
unfolding missed_by
returns-else-side-eq0 c = rw (c.saturating_sub-else-side-eq0.ensures, c.price_sum-sum.ensures.0, side-sell _ c.if-side-eq0.false)
