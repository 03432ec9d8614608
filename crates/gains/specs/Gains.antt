-- WHAT EACH BLOCK GAINS, OUT OF A BOOK AND THE BYTES OF ITS RESULT. In these words the functions of src/ promise what they give; `proofs/GainLaws.antt`
-- proves that it is the gain of the rules. Definitions only. Assumes nothing.
use Rattle.std.specs.Prelude.{ℕ, ◌*◌, List, map, ◌≡◌}
use Rattle.rules.specs.Day.{change_hour, weight}
use Rattle.rules.specs.Outcome.{for_hours}
use Rattle.rules.specs.Families.{distance}
use Rattle.records.specs.Layout.{last_hour}
use Rattle.records.specs.Records.{day_hours}
use Rattle.fields.specs.Hours.{counted_hours}
use Rattle.book.specs.Refusals.{Accepted}
use Rattle.orders.specs.Layout.{block_places}
use Rattle.orders.specs.Columns.{block_records, block_hours_at, block_price_at, padded}
use Rattle.places.specs.Hours.{sum_of_hours, counted_column}
use Rattle.result.specs.Result.{price_in, row_in, result_bytes}

-- The price of each hour in a result.
unfoldable pub prices_in : List ℕ → List ℕ
prices_in result = for_hours last_hour (price_in result)

-- The same as they count on the book's day.
abbrev pub counted_prices_in : List ℕ → List ℕ → List ℕ
counted_prices_in b result = counted_column (weight (day_hours b) change_hour) (prices_in result)

-- What a block of so many hours, at such a price and with such an executed quantity, gains at counted prices.
abbrev pub gain_among : (day : ℕ) → (prices : List ℕ) → (hours price row : ℕ) → ℕ
gain_among day prices hours price row = row * distance (sum_of_hours prices hours) (price * counted_hours day hours)

-- What the block of record k gains: its row, which is 0 where it is left out, times the distance between the price sum and its price times its hour count.
unfoldable pub gain_at : List ℕ → List ℕ → ℕ → ℕ
gain_at b result k = gain_among (day_hours b) (counted_prices_in b result) (block_hours_at b k) (block_price_at b k) (row_in result k)

-- What each block gains, in their order, and then zeros.
unfoldable pub gain_column : List ℕ → List ℕ → List ℕ
gain_column b result = padded block_places (map (gain_at b result) (block_records b))

-- The bytes are the result of an accepted book.
abbrev pub IsResult : List ℕ → List ℕ → Type 0
IsResult b result = Accepted b × (result ≡ result_bytes b)
