-- `order::tested::stands_at` meets its contract: one law for each way out. Assumes nothing.
use Rattle.order.proofs.TestLaws.{order-out, place_out, both-in}
use Rattle.order.proofs.tested.stands_at.Goals as goal

pub returns-then-count-i : goal.returns-then-count-i
returns-then-count-i c = order-out _ _ _ _ _ c.if-count-i.true

pub returns-then-count-at : goal.returns-then-count-at
returns-then-count-at c = place_out _ _ _ _ _ c.if-count-i.false c.if-count-at.true

pub returns : goal.returns
returns c = both-in _ _ _ _ _ _ c.if-count-i.false c.if-count-at.false c.stands_before.ensures
