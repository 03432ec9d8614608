-- `range::Entry::greatest_quantity` meets its contract: a buy's high, a sell's low. Assumes nothing.
use mathlib.Core.Path.{sym}
use Rattle.range.proofs.RangeLaws.{by-sell}
use Rattle.range.proofs.Entry.greatest_quantity.Goals as goal

pub returns-else-self-eq0 : goal.returns-else-self-eq0
returns-else-self-eq0 c = by-sell _ _ _ c.if-self-eq0.false
