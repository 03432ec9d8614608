-- THE FAMILY REPORT OUT OF A RESULT'S BYTES, in which the functions of src/ promise what they write. Definitions only. Assumes nothing.
use Rattle.std.specs.Prelude.{ℕ, List, ◌++◌, length, take}
use Rattle.orders.specs.Columns.{block_records, parent_column}
use Rattle.text.specs.Text.{text}
use Rattle.families.specs.Lines.{all_lines}
use Rattle.gains.specs.Gains.{gain_column}

-- The columns of a book's blocks: their parents, and what each gains.
abbrev pub parents_in : List ℕ → List ℕ
parents_in b = take (length (block_records b)) (parent_column b)

abbrev pub gains_in : List ℕ → List ℕ → List ℕ
gains_in b result = take (length (block_records b)) (gain_column b result)

-- The title, and the lines of the families.
unfoldable pub family_text_in : List ℕ → List ℕ → List ℕ
family_text_in b result = text "block;gain\n" ++ all_lines b (block_records b) (parents_in b) (gains_in b result)
