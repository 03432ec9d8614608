-- `order::tested::order_of` meets its contract: the chosen order is tested, and the numbers themselves are an order. Assumes nothing.
use Rattle.order.proofs.TestLaws.{itself-order}
use Rattle.order.proofs.tested.order_of.Goals as goal

pub returns-then-is_order : goal.returns-then-is_order
returns-then-is_order c = c.is_order.ensures.0 c.if-is_order.true

pub returns : goal.returns
returns c = itself-order _ _ _ _ c.requires.0 c.requires.1 c.by_themselves.ensures.0 c.by_themselves.ensures.1
