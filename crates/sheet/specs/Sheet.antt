-- THE SHEET (document 01, S5, and "It writes `refused;` and the number, or the sheet of S5"), of every byte string. Definitions only.
-- Assumes nothing.
use Rattle.std.specs.Prelude.{ℕ, zero, suc, ◌-◌, Bool, cond, List, [], ◌∷◌, ◌++◌, eqb, get_or}
use Rattle.records.specs.Layout.{last_hour}
use Rattle.book.specs.Refusals.{refusal}
use Rattle.rules.specs.Orders.{Block}
use Rattle.rules.specs.Outcome.{PublishedOutcome, published}
use Rattle.orders.specs.Bridge.{orders_of, day_from}
use Rattle.text.specs.Text.{text, field, semicolon, line_feed}

-- The most bytes of a sheet.
abbrev pub most_sheet : ℕ
most_sheet = 781

-- A line of an hour: hour, price, traded quantity.
unfoldable pub hour_line : ℕ → ℕ → ℕ → List ℕ
hour_line h price traded = field h semicolon ++ (field price semicolon ++ field traded line_feed)

-- The lines of the hours 1 to n.
unfoldable pub hour_lines : ℕ → (ℕ → ℕ) → (ℕ → ℕ) → List ℕ
hour_lines zero price traded = []
hour_lines (suc n) price traded = hour_lines n price traded ++ hour_line (suc n) (price (suc n)) (traded (suc n))

-- The number of hour h in a list with a number for each hour.
unfoldable pub of_hour : List ℕ → ℕ → ℕ
of_hour numbers h = get_or numbers (h - 1) 0

-- A line of a block: its number, 1 if it is taken or 0.
unfoldable pub block_line : ℕ → Bool → List ℕ
block_line number taken = field number semicolon ++ field (cond taken 1 0) line_feed

-- A line for each block.
unfoldable pub block_lines : List Block → List Bool → List ℕ
block_lines [] chosen = []
block_lines (s ∷ blocks) [] = []
block_lines (s ∷ blocks) (taken ∷ chosen) = block_line s.number taken ++ block_lines blocks chosen

-- The sheet of an outcome: the hours, the blocks, the welfare.
unfoldable pub outcome_sheet : List Block → PublishedOutcome → List ℕ
outcome_sheet blocks outcome =
    text "hour;cents;tenths\n"
    ++ (hour_lines last_hour (of_hour outcome.prices) (of_hour outcome.traded)
    ++ (text "block;taken\n" ++ (block_lines blocks outcome.chosen ++ (text "welfare;" ++ field outcome.welfare line_feed))))

-- The line of a refusal.
unfoldable pub refused_line : ℕ → List ℕ
refused_line number = text "refused;" ++ field number line_feed

-- What is written of a book: the sheet of its published outcome, or the line of its refusal.
unfoldable pub sheet_of : List ℕ → List ℕ
sheet_of b = cond (eqb (refusal b) 0) (outcome_sheet (day_from b).blocks (published (orders_of b))) (refused_line (refusal b))
