-- A SHEET OUT OF A RESULT'S BYTES, in which the functions of src/ promise what they write. Definitions only. Assumes nothing.
use Rattle.std.specs.Prelude.{ℕ, Bool, List, [], ◌∷◌, ◌++◌, eqb}
use Rattle.records.specs.Layout.{last_hour}
use Rattle.records.specs.Records.{number, block_at}
use Rattle.orders.specs.Columns.{block_records}
use Rattle.result.specs.Result.{welfare_in, price_in, traded_in, row_in}
use Rattle.text.specs.Text.{text, field, line_feed}
use Rattle.sheet.specs.Sheet.{hour_lines, block_line}

-- The lines of the hours, with the numbers in a result.
abbrev pub hour_lines_in : List ℕ → List ℕ
hour_lines_in result = hour_lines last_hour (price_in result) (traded_in result)

-- The block of record k is taken: its row holds its quantity.
unfoldable pub taken_at : List ℕ → List ℕ → ℕ → Bool
taken_at b result k = eqb (row_in result k) (block_at b k).quantity

-- A line for each of the blocks' records.
unfoldable pub block_lines_in : List ℕ → List ℕ → List ℕ → List ℕ
block_lines_in b result [] = []
block_lines_in b result (k ∷ records) = block_line (number b k) (taken_at b result k) ++ block_lines_in b result records

-- A line for each of the book's blocks.
abbrev pub all_block_lines : List ℕ → List ℕ → List ℕ
all_block_lines b result = block_lines_in b result (block_records b)

-- The lines of a book's result.
unfoldable pub lines_in : List ℕ → List ℕ → List ℕ
lines_in b result =
    text "hour;cents;tenths\n"
    ++ (hour_lines_in result ++ (text "block;taken\n" ++ (all_block_lines b result ++ (text "welfare;" ++ field (welfare_in result) line_feed))))
