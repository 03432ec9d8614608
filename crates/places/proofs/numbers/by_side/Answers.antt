-- `places::numbers::by_side` meets its contract: a side that is not 0 sells. Assumes nothing.
use Rattle.pricing.proofs.TotalsLaws.{side-sell}
use Rattle.places.proofs.numbers.by_side.Goals as goal

pub returns-else-side-eq0 : goal.returns-else-side-eq0
returns-else-side-eq0 c = rw (side-sell c.args.side c.if-side-eq0.false)
