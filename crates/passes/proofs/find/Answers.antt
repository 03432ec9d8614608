-- `passes::find` meets its contract: the columns stand in an order, and what is found there is put back by number. Assumes nothing.
use Rattle.passes.proofs.ReorderedLaws.{found_back}
use Rattle.passes.proofs.find.Goals as goal

pub returns : goal.returns
returns c =
    found_back c.find_there-best.result c.requires.0.few c.order_of-order.ensures c.reordered-blocks.ensures.1
    (λ fits. c.by_number.ensures) c.find_there-best.ensures
