-- THE HOURS: the cells of their tables, their columns, and what stands at their places. Definitions only. Assumes nothing.
use Rattle.std.specs.Prelude.{ℕ, ◌+◌, ◌-◌, ◌*◌, ◌/◌, ◌≤◌, ◌<◌, min, max, Bool, cond, not, List, ◌≡◌, eqb, length, take, drop, get_or, set, Option, MatchOption}
use Rattle.rules.specs.Orders.{max_price}
use Rattle.rules.specs.Hour.{when}
use Rattle.rules.specs.Day.{change_hour, sum_to}
use Rattle.records.specs.Records.{holds_hour}
use Rattle.places.specs.Layout.{hour_places, last_place, last_and_above, most_counted, turn_column, change_place, shifts_place, change_row}

-- Every number of a list is at most m.
abbrev pub Small : ℕ → List ℕ → Type 0
Small m l = (i : ℕ) → get_or l i 0 ≤ m

-- A price for each hour, as it counts.
abbrev pub DayPrices : List ℕ → Type 0
DayPrices l = (length l ≡ hour_places) × Small most_counted l

-- Every one of the first n numbers of a list is at most m.
abbrev pub FirstSmall : ℕ → ℕ → List ℕ → Type 0
FirstSmall n m l = (i : ℕ) → i < n → get_or l i 0 ≤ m

-- The sum of a column of hours over the hours of a block, given as bits.
unfoldable pub sum_of_hours : List ℕ → ℕ → ℕ
sum_of_hours column hours = sum_to hour_places (λ h. when (holds_hour hours h) (get_or column (h - 1) 0))

-- THE HOURS AS THEY COUNT: hour 3 so often, the others once.
abbrev pub times_in : ℕ → ℕ → ℕ
times_in often h = cond (eqb h change_hour) often 1

-- The sum of a number of each hour.
unfoldable pub sum_over : ℕ → (ℕ → ℕ) → ℕ
sum_over often f = sum_to hour_places (λ h. times_in often h * f h)

-- A column of prices with each as it counts.
abbrev pub counted_column : ℕ → List ℕ → List ℕ
counted_column often column = set column change_row (often * get_or column change_row 0)

-- THE TABLES: a row of places for each hour, hour 1 first, as wide as the table has room for.
abbrev pub row_width : List ℕ → ℕ
row_width table = length table / hour_places

-- The last place of a row that has one above it.
abbrev pub last_in : List ℕ → ℕ
last_in table = row_width table - last_and_above

-- Its rows have such a place, and are no wider than the blocks of a book can reach.
abbrev pub HasRows : List ℕ → Type 0
HasRows table = (last_and_above ≤ row_width table) × (row_width table ≤ last_place + last_and_above)

-- The number at a place of hour h.
abbrev pub cell : List ℕ → ℕ → ℕ → ℕ
cell table h i = get_or table ((h - 1) * row_width table + i) 0

-- The number of hour h in a column.
abbrev pub of_hour : List ℕ → ℕ → ℕ
of_hour column h = get_or column (h - 1) 0

-- THE HOURS: three columns: the first and the last place at which each clears, and the place of its least gap, where its gaps turn; then how often hour 3
-- counts, and whether prices can give way (edition 4).
abbrev pub clears_first : List ℕ → List ℕ
clears_first hours = take hour_places hours

abbrev pub clears_last : List ℕ → List ℕ
clears_last hours = take hour_places (drop hour_places hours)

abbrev pub gaps_turn : List ℕ → List ℕ
gaps_turn hours = take hour_places (drop turn_column hours)

abbrev pub change_often : List ℕ → ℕ
change_often hours = get_or hours change_place 0

abbrev pub gives_way_in : List ℕ → Bool
gives_way_in hours = not (eqb (get_or hours shifts_place 0) 0)

-- Each hour clears at its place, the place lying from the hour's first to its last.
abbrev pub PlacesClear : List ℕ → List ℕ → List ℕ → Type 0
PlacesClear first last places = (h : ℕ) → 1 ≤ h → h ≤ hour_places → (of_hour first h ≤ of_hour places h) × (of_hour places h ≤ of_hour last h)

-- The gaps at the places, where every place is in range: their sum, by one way to add up or another.
pub record SumOf (sum_of : (ℕ → ℕ) → ℕ) (most : ℕ) (gap first last places : List ℕ) (sum : ℕ) : Type 0 where
  pub in_range : PlacesClear first last places
  pub sum_is : sum ≡ sum_of (λ h. cell gap h (of_hour places h))
  pub fits : sum ≤ most

-- That sum, or none where a place is not in range.
abbrev pub GapsOf : (sum_of : (ℕ → ℕ) → ℕ) (most : ℕ) (gap first last places : List ℕ) → Option ℕ → Type 0
GapsOf sum_of most gap first last places sum =
    MatchOption sum (PlacesClear first last places → ⊥) (SumOf sum_of most gap first last places)

-- A PRICE OF L AND H: either end; the middle and the shifted price are those of the rules.
abbrev pub low_end : (low high : ℕ) → ℕ
low_end low high = low

abbrev pub high_end : (low high : ℕ) → ℕ
high_end low high = high

-- It holds of any two prices.
abbrev pub OfPrices : ((low high : ℕ) → Type 0) → Type 0
OfPrices P = (low high : ℕ) → low ≤ max_price → high ≤ max_price → P low high

-- A number for each hour, one that is given for L and H at its place: a place has H, and the one above it L.
pub record PricesBy (gives : (low high price : ℕ) → Type 0) (unit_prices places prices : List ℕ) : Type 0 where
  pub are : (h : ℕ) → 1 ≤ h → h ≤ hour_places →
      gives (cell unit_prices h (of_hour places h + 1)) (cell unit_prices h (of_hour places h)) (of_hour prices h)
  pub size : length prices ≡ hour_places

-- The prices at the places, each made of L and H of its hour: a place has H, and the one above it L.
pub record PricesOf (price : (low high : ℕ) → ℕ) (unit_prices places prices : List ℕ) : Type 0 where
  pub are : (h : ℕ) → 1 ≤ h → h ≤ hour_places → of_hour prices h ≡ price (cell unit_prices h (of_hour places h + 1)) (cell unit_prices h (of_hour places h))
  pub size : length prices ≡ hour_places
  pub small : Small max_price prices

-- The larger and the smaller of two numbers; the number from a to b that is nearest to n.
abbrev pub larger : ℕ → ℕ → ℕ
larger a b = max a b

abbrev pub smaller : ℕ → ℕ → ℕ
smaller a b = min a b

abbrev pub nearest : ℕ → ℕ → ℕ → ℕ
nearest n a b = smaller (larger n a) b

-- The gap of each hour at the place from `from` to `to` that is nearest to where its gaps turn.
abbrev pub least_gap : (gap turn from to : List ℕ) → ℕ → ℕ
least_gap gap turn from to h = cell gap h (nearest (of_hour turn h) (of_hour from h) (of_hour to h))
