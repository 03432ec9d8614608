-- the numbers before k of the six columns stand
use Rattle.order.proofs.ColumnLaws.{ColumnsTo}
use Rattle.order.proofs.columns.columns_in.Given as goal

abbrev pub invariant-loop-k : goal.invariant-loop-k
invariant-loop-k l = ColumnsTo l.listed.count l.order.blocks l.listed.blocks.now l.k l.r
