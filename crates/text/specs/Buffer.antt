-- BYTES IN A BUFFER. Definitions only. Assumes nothing.
use Rattle.std.specs.Prelude.{ℕ, ◌+◌, List, ◌++◌, length, take, drop}

-- The list with `bytes` in place of what stands from `at` on.
unfoldable pub splice : List ℕ → ℕ → List ℕ → List ℕ
splice l at bytes = take at l ++ (bytes ++ drop (at + length bytes) l)
