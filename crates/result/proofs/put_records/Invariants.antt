-- the rows of the records before k are written
use Rattle.std.proofs.Common.{◌≡◌, ◌-◌, length}
use Rattle.result.specs.Result.{record_rows}
use Rattle.result.specs.Rows.{row_at}
use Rattle.text.specs.Buffer.{splice}
use Rattle.result.proofs.put_records.Given as goal

abbrev pub invariant-loop-k : goal.invariant-loop-k
invariant-loop-k l = (length l.res ≡ length l.initial.res) × (l.res ≡ splice l.initial.res 200 (record_rows (row_at l.rows) (l.k - 1) 1))
