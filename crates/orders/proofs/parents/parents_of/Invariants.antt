use Rattle.orders.specs.Columns.{parent_place_at}
use Rattle.orders.proofs.ColumnLaws.{Filled}
use Rattle.orders.proofs.parents.parents_of.Given as goal

abbrev pub invariant-loop-i : goal.invariant-loop-i
invariant-loop-i l = Filled 32 (parent_place_at l.book l.records) l.records l.i l.parents
