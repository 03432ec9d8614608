-- `order::columns::columns_in` meets its contract: the numbers before k of the six columns stand. Assumes nothing.
use Rattle.order.proofs.ColumnLaws.{columns-start}
use Rattle.order.proofs.columns.columns_in.Goals as goal

pub loop-k-init : goal.loop-k-init
loop-k-init c = columns-start _ _ _
