-- THE LINES OF FAMILIES OUT OF COLUMNS: of each block its record, its parent and its gain. In these words the functions of src/lines.rt promise what they
-- write. Definitions only. Assumes nothing.
use Rattle.std.specs.Prelude.{ℕ, zero, suc, ◌-◌, ◌^◌, ◌<◌, cond, List, [], ◌++◌, ◌≡◌, eqb, length, get_or}
use Rattle.records.specs.Records.{number}
use Rattle.families.specs.Report.{family_line}
use Rattle.families.specs.Visit.{visit_gain}

-- The gain of block i and everything below it, of as many blocks as there are gains.
unfoldable pub gain_of : (parents gains : List ℕ) → ℕ → ℕ
gain_of parents gains i = visit_gain parents gains (length gains - suc i) i

-- The line of block i: one where it has no parent, else none.
unfoldable pub line_at : (b records parents gains : List ℕ) → ℕ → List ℕ
line_at b records parents gains i = cond (eqb (get_or parents i 0) 0) (family_line (number b (get_or records i 0)) (gain_of parents gains i)) []

-- The lines of the first n blocks.
unfoldable pub lines_to : (b records parents gains : List ℕ) → ℕ → List ℕ
lines_to b records parents gains zero = []
lines_to b records parents gains (suc n) = lines_to b records parents gains n ++ line_at b records parents gains n

-- The lines of all blocks.
abbrev pub all_lines : (b records parents gains : List ℕ) → List ℕ
all_lines b records parents gains = lines_to b records parents gains (length gains)

-- The columns are of one length, and each family's gain is a number of 64 bits.
pub record ColumnsHeld (records parents gains : List ℕ) : Type 0 where
  pub records_size : length records ≡ length gains
  pub parents_size : length parents ≡ length gains
  pub gains_fit : (i : ℕ) → i < length gains → gain_of parents gains i < 2 ^ 64
