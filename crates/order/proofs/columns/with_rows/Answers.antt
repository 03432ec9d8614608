-- `order::columns::with_rows` meets its contract: the numbers before k of the rows stand. Assumes nothing.
use Rattle.order.proofs.ColumnLaws.{rows_all}
use Rattle.order.proofs.columns.with_rows.Goals as goal

pub returns : goal.returns
returns c = rows_all _ _ _ _ _ _ c.loop-k.invariant c.loop-k-test.false
