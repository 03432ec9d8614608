use Rattle.std.proofs.Common.{◌≡◌, ℕ, ◌+◌, ◌<◌, get_or, length}
use Rattle.records.specs.Bytes.{byte_at}
use Rattle.records.proofs.bytes.bytes_at.Given as goal

abbrev pub invariant-loop-k : goal.invariant-loop-k
invariant-loop-k g l = record { long : length l.b-items ≡ g.row.N; read : (k : ℕ) → k < l.k → get_or l.b-items k 0 ≡ byte_at l.book (l.at + k) }
