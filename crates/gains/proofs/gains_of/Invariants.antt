use Rattle.orders.specs.Columns.{block_records}
use Rattle.orders.proofs.ColumnLaws.{Filled}
use Rattle.gains.specs.Gains.{gain_at}
use Rattle.gains.proofs.gains_of.Given as goal

abbrev pub invariant-loop-i : goal.invariant-loop-i
invariant-loop-i l = Filled 32 (gain_at l.book l.res) (block_records l.book) l.i l.gains
