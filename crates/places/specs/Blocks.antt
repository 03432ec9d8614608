-- THE BLOCKS: their columns and rows, their limits, and what a set of them trades in each hour. Definitions only. Assumes nothing.
use Rattle.std.specs.Prelude.{ℕ, zero, suc, ◌+◌, ◌-◌, ◌*◌, ◌/◌, ◌%◌, ◌^◌, ◌≤◌, ◌<◌, Bool, true, not, ◌&&◌, ◌||◌, List, ◌≡◌, eqb, leb, length, get_or}
use Rattle.rules.specs.Execution.{test_side}
use Rattle.orders.specs.Columns.{side_for}
use Rattle.rules.specs.Hour.{when}
use Rattle.book.specs.Bounds.{most_blocks}
use Rattle.places.specs.Layout.{hour_places, most_added, most_place, side_column, hours_column, quantity_column, limit_column, against_column, gain_column, parent_column, ahead_column, behind_column, rank_column, rows_column, block_list_size}
use Rattle.places.specs.Hours.{Small, sum_of_hours, of_hour}

-- THE BLOCKS: ten columns: side, hours, quantity, limit (price times hour count), loss if taken, loss if left out, parent, for twins the
-- earlier block that is taken before this one, and the one that is taken after it (0 for none, else its number and 1), and the rank by which ties are settled;
-- then a row of hours for each.
abbrev pub side_at : List ℕ → ℕ → ℕ
side_at blocks i = get_or blocks (side_column + i) 0

abbrev pub hours_at : List ℕ → ℕ → ℕ
hours_at blocks i = get_or blocks (hours_column + i) 0

abbrev pub quantity_at : List ℕ → ℕ → ℕ
quantity_at blocks i = get_or blocks (quantity_column + i) 0

abbrev pub limit_at : List ℕ → ℕ → ℕ
limit_at blocks i = get_or blocks (limit_column + i) 0

abbrev pub against_at : List ℕ → ℕ → ℕ
against_at blocks i = get_or blocks (against_column + i) 0

abbrev pub gain_at : List ℕ → ℕ → ℕ
gain_at blocks i = get_or blocks (gain_column + i) 0

abbrev pub parent_at : List ℕ → ℕ → ℕ
parent_at blocks i = get_or blocks (parent_column + i) 0

abbrev pub ahead_at : List ℕ → ℕ → ℕ
ahead_at blocks i = get_or blocks (ahead_column + i) 0

abbrev pub behind_at : List ℕ → ℕ → ℕ
behind_at blocks i = get_or blocks (behind_column + i) 0

abbrev pub rank_at : List ℕ → ℕ → ℕ
rank_at blocks i = get_or blocks (rank_column + i) 0

-- What block i trades in hour h.
abbrev pub row_quantity : List ℕ → ℕ → ℕ → ℕ
row_quantity blocks i h = get_or blocks (rows_column + hour_places * i + (h - 1)) 0

-- What is asked of them, for safe arithmetic and indexing.
pub record BlocksSized (blocks : List ℕ) : Type 0 where
  pub columns : length blocks ≡ block_list_size
  pub rows_fit : (i h : ℕ) → row_quantity blocks i h ≤ most_added
  pub parents_fit : (i : ℕ) → i < most_blocks → parent_at blocks i ≤ i
  pub twins_fit : (i : ℕ) → i < most_blocks → (ahead_at blocks i ≤ most_blocks) × (behind_at blocks i ≤ most_blocks)

-- A block keeps its limit, a buy at the low prices, a sell at the high ones.
unfoldable pub keeps_at : (side hours limit : ℕ) (high low : List ℕ) → Bool
keeps_at side hours limit high low = test_side (side_for side) (leb (sum_of_hours low hours) limit) (leb limit (sum_of_hours high hours))

-- Each of the first n blocks that a set of bits holds does.
unfoldable pub all_keep : (blocks : List ℕ) (set : ℕ) (high low : List ℕ) → ℕ → Bool
all_keep blocks set high low zero = true
all_keep blocks set high low (suc i) =
    (not (eqb (set / 2 ^ i % 2) 1)
    || keeps_at (side_at blocks i) (hours_at blocks i) (limit_at blocks i) high low)
    && all_keep blocks set high low i

-- The sum over the next n blocks from number i on, of those that move, of what each trades in hour h.
unfoldable pub added_in : (blocks : List ℕ) → (ℕ → Bool) → ℕ → ℕ → ℕ → ℕ
added_in blocks moves h zero i = 0
added_in blocks moves h (suc n) i = when (moves i) (row_quantity blocks i h) + added_in blocks moves h n (suc i)

-- WHAT A DECIDED SET TRADES
-- Block i of a set given as bits is in it and sells; is in it and buys.
abbrev pub sells_in : (blocks : List ℕ) (set i : ℕ) → Bool
sells_in blocks set i = eqb (set / 2 ^ i % 2) 1 && not (eqb (side_at blocks i) 0)

abbrev pub buys_in : (blocks : List ℕ) (set i : ℕ) → Bool
buys_in blocks set i = eqb (set / 2 ^ i % 2) 1 && eqb (side_at blocks i) 0

-- What the first count blocks of a set sell and buy in each hour.
pub record SetTrades (blocks : List ℕ) (count set : ℕ) (sales purchases : List ℕ) : Type 0 where
  pub sales_are : (h : ℕ) → 1 ≤ h → h ≤ hour_places → of_hour sales h ≡ added_in blocks (sells_in blocks set) h count 0
  pub purchases_are : (h : ℕ) → 1 ≤ h → h ≤ hour_places → of_hour purchases h ≡ added_in blocks (buys_in blocks set) h count 0
  pub purchases_fit : Small most_place purchases
