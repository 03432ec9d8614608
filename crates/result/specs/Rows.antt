-- The rows of the records before they are bytes. Definitions only. Assumes nothing.
use Rattle.std.specs.Prelude.{ℕ, List, get_or}

-- The row of record k in a list with a row for each record; past its end 0.
abbrev pub row_at : List ℕ → ℕ → ℕ
row_at rows k = get_or rows k 0
