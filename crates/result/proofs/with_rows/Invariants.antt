-- the values from i on are at their records
use Rattle.result.proofs.RowLaws.{Filled}
use Rattle.result.proofs.with_rows.Given as goal

abbrev pub invariant-loop-i : goal.invariant-loop-i
invariant-loop-i l = Filled l.fn.rows l.records l.values l.filled l.i
