-- the numbers before k of the rows stand
use Rattle.order.proofs.ColumnLaws.{RowsTo}
use Rattle.order.proofs.columns.with_rows.Given as goal

abbrev pub invariant-loop-k : goal.invariant-loop-k
invariant-loop-k l = RowsTo l.listed.count l.order.blocks l.listed.blocks.now l.initial.r l.k l.r
