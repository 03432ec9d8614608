-- A SET'S SHIFT BY COLUMNS (edition 4): the prices of the hours at a shift, the limits that a set's blocks keep there, and the shift that is chosen.
-- Definitions only. Assumes nothing.
use Rattle.std.specs.Prelude.{ℕ, zero, suc, ◌+◌, ◌/◌, ◌%◌, ◌^◌, ◌≤◌, ◌<◌, Bool, true, false, not, ◌&&◌, ◌||◌, List, [], ◌∷◌, ◌≡◌, eqb, leb, length}
use Rattle.std.specs.Prelude.{Some, None}
use Rattle.std.specs.Prelude as code
use Rattle.std.proofs.Math.Option.{Option, none, some}
use Rattle.rules.specs.Orders.{max_price}
use Rattle.rules.specs.Shift.{shifted, nearest_shift, all_shifts}
use Rattle.book.specs.Bounds.{most_blocks}
use Rattle.places.specs.Layout.{hour_places, block_list_size}
use Rattle.places.specs.Hours.{Small, HasRows, last_in, cell, of_hour, counted_column}
use Rattle.places.specs.Blocks.{side_at, hours_at, limit_at, keeps_at, all_keep}

-- A column of the hours 1 to n: the number of each.
unfoldable pub column_to : ℕ → (ℕ → ℕ) → List ℕ
column_to zero f = []
column_to (suc n) f = f 1 ∷ column_to n (λ h. f (suc h))

-- The price of an hour at shift t, out of L and H at its place.
abbrev pub shifted_at : (unit_prices places : List ℕ) (t h : ℕ) → ℕ
shifted_at unit_prices places t h = shifted t (cell unit_prices h (of_hour places h + 1)) (cell unit_prices h (of_hour places h))

-- The prices of all hours at shift t.
abbrev pub shifted_column : (unit_prices places : List ℕ) (t : ℕ) → List ℕ
shifted_column unit_prices places t = column_to hour_places (shifted_at unit_prices places t)

-- The same as they count, hour 3's so often.
abbrev pub column_at : (unit_prices places : List ℕ) (often t : ℕ) → List ℕ
column_at unit_prices places often t = counted_column often (shifted_column unit_prices places t)

-- A side is the one that sells, or the one that buys.
abbrev pub is_of_side : (sells : Bool) (side : ℕ) → Bool
is_of_side true side = not (eqb side 0)
is_of_side false side = eqb side 0

-- Block i is in a set given as bits, and of the side.
abbrev pub held_of_side : (sells : Bool) (blocks : List ℕ) (set i : ℕ) → Bool
held_of_side sells blocks set i = eqb (set / 2 ^ i % 2) 1 && is_of_side sells (side_at blocks i)

-- Each of the first n blocks that a set holds and that are of the side keeps its limit at these prices.
unfoldable pub side_keeps : (sells : Bool) (blocks : List ℕ) (set : ℕ) (prices : List ℕ) → ℕ → Bool
side_keeps sells blocks set prices zero = true
side_keeps sells blocks set prices (suc i) =
    (not (held_of_side sells blocks set i) || keeps_at (side_at blocks i) (hours_at blocks i) (limit_at blocks i) prices prices)
    && side_keeps sells blocks set prices i

module _ (unit_prices blocks : List ℕ) (count set : ℕ) (places : List ℕ) (often : ℕ) where
  -- The set's blocks keep their limits at shift t: all of them; those of a side.
  abbrev pub all_kept_at : ℕ → Bool
  all_kept_at t = all_keep blocks set (column_at unit_prices places often t) (column_at unit_prices places often t) count

  unfoldable pub side_kept_at : (sells : Bool) → ℕ → Bool
  side_kept_at sells t = side_keeps sells blocks set (column_at unit_prices places often t) count

  -- The shift nearest 500 at which all of them do, of two the smaller.
  unfoldable pub chosen_shift : Option ℕ
  chosen_shift = nearest_shift all_kept_at all_shifts

-- A shift as the code gives it.
abbrev pub shift_from : code.Option ℕ → Option ℕ
shift_from (Some t) = some t
shift_from None = none

-- A test turns behind r, from first on and before last: there it answers otherwise than before.
pub record TurnsBehind (test : ℕ → Bool) (after : Bool) (first last r : ℕ) : Type 0 where
  pub from : first ≤ r
  pub before : r < last
  pub here : test r ≡ not after
  pub behind : test (suc r) ≡ after

-- What is asked of the columns, for safe arithmetic and indexing.
pub record ShiftSized (unit_prices blocks : List ℕ) (count : ℕ) (places : List ℕ) (often : ℕ) : Type 0 where
  pub rows : HasRows unit_prices
  pub prices_fit : Small max_price unit_prices
  pub places_fit : Small (last_in unit_prices) places
  pub columns : length blocks ≡ block_list_size
  pub count_fits : count ≤ most_blocks
  pub often_fits : often ≤ 2
