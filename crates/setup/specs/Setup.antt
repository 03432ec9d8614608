-- THE SETUP OF THE SEARCH: what its tables and columns hold, said of a book's decoded columns. Definitions only. Assumes nothing.
use Rattle.std.specs.Prelude.{ℕ, zero, suc, ◌+◌, ◌-◌, ◌*◌, ◌≤◌, ◌<◌, List, ◌≡◌, Bool, true, false, cond, leb, length, take, drop, get_or, set, Option, Some}
use Rattle.records.specs.Records.{edition, day_hours, holds_hour}
use Rattle.fields.specs.Hours.{counted_hours}
use Rattle.book.specs.Refusals.{Accepted}
use Rattle.orders.specs.Bridge.{day_from}
use Rattle.orders.specs.Columns.{StepColumns, BlockColumns, side_for}
use Rattle.orders.specs.declared.Blocks.{Blocks}
use Rattle.rules.specs.Hour.{by_side, when}
use Rattle.rules.specs.Execution.{test_side}
use Rattle.tables.specs.Tables.{PriceTable, AllOf, ClearRange, GapTable}
use Rattle.rules.specs.Orders.{max_price}
use Rattle.book.specs.Bounds.{most_blocks}
use Rattle.orders.specs.Layout.{step_places}
use Rattle.places.specs.Layout.{hour_places, most_quantity, last_place, last_and_above, side_column, hours_column, quantity_column, limit_column, against_column, gain_column, parent_column, ahead_column, rows_column, block_list_size}
use Rattle.places.specs.Hours.{Small, FirstSmall, sum_of_hours}
use Rattle.places.specs.Blocks.{side_at, hours_at, quantity_at, limit_at, against_at, gain_at, parent_at, ahead_at, behind_at, row_quantity}
use Rattle.rules.proofs.LinkLaws.{parent_place, Parents}
use Rattle.branches.specs.Tables.{Tables}
use Rattle.branches.specs.Meaning.{Known, Turning}

-- WHAT SAFETY ASKS of the columns
-- The steps' columns have one length, and are not too long; the hours' ends rise and stay within it.
pub record StepsHeld (sides prices quantities ends : List ℕ) : Type 0 where
  pub as_many_prices : length sides ≡ length prices
  pub as_many_quantities : length sides ≡ length quantities
  pub not_too_many : length sides ≤ step_places
  pub rising : (h : ℕ) → h < hour_places → get_or ends h 0 ≤ get_or ends (h + 1) 0
  pub inside : (h : ℕ) → h ≤ hour_places → get_or ends h 0 ≤ length sides

-- There are not too many blocks, and their prices and quantities are in their ranges.
pub record BlocksHeld (count : ℕ) (prices quantities : List ℕ) : Type 0 where
  pub few : count ≤ most_blocks
  pub prices_fit : FirstSmall count max_price prices
  pub quantities_fit : FirstSmall count most_quantity quantities

-- Each block's parent, given as its position and 1, stands before it; 0 for none.
abbrev pub ParentsHeld : List ℕ → Type 0
ParentsHeld parents = (i : ℕ) → i < most_blocks → get_or parents i 0 ≤ i

-- PARTS: the numbers of a column from a up to e; those of hour h + 1; and that hour's row of a table, as far as it is filled.
abbrev pub from_to : ℕ → ℕ → List ℕ → List ℕ
from_to a e column = take (e - a) (drop a column)

abbrev pub hour_part : List ℕ → ℕ → List ℕ → List ℕ
hour_part ends h column = from_to (get_or ends h 0) (get_or ends (h + 1) 0) column

-- The places of a row that are filled, where an hour's blocks reach the places 0 to most: these and the one above them.
abbrev pub row_places : ℕ → ℕ
row_places most = most + last_and_above

abbrev pub table_row : (width : ℕ) → List ℕ → (h most : ℕ) → List ℕ
table_row width table h most = take (row_places most) (drop (h * width) table)

-- No hour's blocks reach past a row of so many places.
abbrev pub RowsFit : ℕ → List ℕ → Type 0
RowsFit width most = (h : ℕ) → h < hour_places → row_places (get_or most h 0) ≤ width

-- THE TABLES
-- The row of hour h + 1 is its price table.
abbrev pub RowIs : (width : ℕ) (sides prices quantities ends off most unit_prices : List ℕ) → ℕ → Type 0
RowIs width sides prices quantities ends off most unit_prices h =
    PriceTable (hour_part ends h sides) (hour_part ends h prices) (hour_part ends h quantities) (get_or off h 0) (table_row width unit_prices h (get_or most h 0))

abbrev pub RowsAre : (width : ℕ) (sides prices quantities ends off most unit_prices : List ℕ) → Type 0
RowsAre width sides prices quantities ends off most unit_prices = (h : ℕ) → h < hour_places → RowIs width sides prices quantities ends off most unit_prices h

-- The places at which an hour clears, of those up to most, and its gaps there at a price, the least at turn.
pub record Ranged (sides prices quantities : List ℕ) (off most price first last turn : ℕ) (unit_prices gap : List ℕ) : Type 0 where
  pub bought : ℕ
  pub sold : ℕ
  pub all : AllOf sides prices quantities bought sold
  pub range : ClearRange bought sold off most first last
  pub gaps : GapTable unit_prices price first last turn gap

abbrev pub RangedAt : (width : ℕ) (sides prices quantities ends off most root unit_prices gap first last turn : List ℕ) → ℕ → Type 0
RangedAt width sides prices quantities ends off most root unit_prices gap first last turn h =
    Ranged (hour_part ends h sides) (hour_part ends h prices) (hour_part ends h quantities) (get_or off h 0) (get_or most h 0) (get_or root h 0) (get_or first h 0)
    (get_or last h 0) (get_or turn h 0) (table_row width unit_prices h (get_or most h 0)) (table_row width gap h (get_or most h 0))

abbrev pub RangesAre : (width : ℕ) (sides prices quantities ends off most root unit_prices gap first last turn : List ℕ) → Type 0
RangesAre width sides prices quantities ends off most root unit_prices gap first last turn =
    (h : ℕ) → h < hour_places → RangedAt width sides prices quantities ends off most root unit_prices gap first last turn h

-- THE BLOCKS
-- The sum of a number of each of the first n places.
unfoldable pub sum_below : ℕ → (ℕ → ℕ) → ℕ
sum_below zero f = 0
sum_below (suc n) f = sum_below n f + f n

-- What the buy blocks of the columns buy in hour h; where `all` is true, with what the sell blocks sell.
abbrev pub blocks_trade : (count : ℕ) (sides hours quantities : List ℕ) (all : Bool) (h : ℕ) → ℕ
blocks_trade count sides hours quantities all h =
    sum_below count (λ i. when (holds_hour (get_or hours i 0) h) (by_side (side_for (get_or sides i 0)) (get_or quantities i 0) (cond all (get_or quantities i 0) 0)))

-- No hour's blocks reach past a row of so many places.
abbrev pub BlocksFit : (width : ℕ) → Blocks → Type 0
BlocksFit width blocks =
    (h : ℕ) → 1 ≤ h → h ≤ hour_places → row_places (blocks_trade blocks.count blocks.sides blocks.hours blocks.quantities true h) ≤ width

-- A column has that sum for each hour; it is a place.
pub record TradedBy (count : ℕ) (sides hours quantities : List ℕ) (all : Bool) (column : List ℕ) : Type 0 where
  pub small : Small last_place column
  pub is : (h : ℕ) → 1 ≤ h → h ≤ hour_places → get_or column (h - 1) 0 ≡ blocks_trade count sides hours quantities all h

-- The columns with block i written.
unfoldable pub written : (columns : List ℕ) (i side hours quantity limit sum : ℕ) → List ℕ
written columns i side hours quantity limit sum =
    set (set (set (set (set (set columns (side_column + i) side) (hours_column + i) hours) (quantity_column + i) quantity) (limit_column + i) limit)
    (against_column + i) (quantity * by_side (side_for side) (sum - limit) (limit - sum)))
    (gain_column + i) (quantity * by_side (side_for side) (limit - sum) (sum - limit))

-- Block i of the six columns on a day of so many hours, at hourly prices root as they count.
pub record Written (day : ℕ) (sides hours prices quantities root columns : List ℕ) (i : ℕ) : Type 0 where
  pub side_is : side_at columns i ≡ get_or sides i 0
  pub hours_is : hours_at columns i ≡ get_or hours i 0
  pub quantity_is : quantity_at columns i ≡ get_or quantities i 0
  pub limit_is : limit_at columns i ≡ get_or prices i 0 * counted_hours day (get_or hours i 0)
  pub against_is : against_at columns i ≡ get_or quantities i 0
      * by_side (side_for (get_or sides i 0)) (sum_of_hours root (get_or hours i 0) - get_or prices i 0 * counted_hours day (get_or hours i 0))
      (get_or prices i 0 * counted_hours day (get_or hours i 0) - sum_of_hours root (get_or hours i 0))
  pub gain_is : gain_at columns i ≡ get_or quantities i 0
      * by_side (side_for (get_or sides i 0)) (get_or prices i 0 * counted_hours day (get_or hours i 0) - sum_of_hours root (get_or hours i 0))
      (sum_of_hours root (get_or hours i 0) - get_or prices i 0 * counted_hours day (get_or hours i 0))

-- THE WHOLE LIST OF THE BLOCKS
-- The six columns, and nothing behind them yet.
pub record Widened (columns blocks : List ℕ) : Type 0 where
  pub size : length blocks ≡ block_list_size
  pub same : (k : ℕ) → k < parent_column → get_or blocks k 0 ≡ get_or columns k 0
  pub none : (k : ℕ) → parent_column ≤ k → get_or blocks k 0 ≡ 0

-- The parents stand in their column, and all else is as it was.
pub record ParentsWritten (parents before blocks : List ℕ) : Type 0 where
  pub size : length blocks ≡ block_list_size
  pub parent_is : (i : ℕ) → i < most_blocks → parent_at blocks i ≡ get_or parents i 0
  pub columns : (k : ℕ) → k < parent_column → get_or blocks k 0 ≡ get_or before k 0
  pub rest : (k : ℕ) → ahead_column ≤ k → get_or blocks k 0 ≡ get_or before k 0

-- No row stands yet, and every quantity is in its range.
pub record RowsEmpty (blocks : List ℕ) : Type 0 where
  pub small : (i : ℕ) → i < most_blocks → quantity_at blocks i ≤ most_quantity
  pub none : (k : ℕ) → rows_column ≤ k → get_or blocks k 0 ≡ 0

-- The rows of the first count blocks stand.
pub record RowsWritten (count : ℕ) (before blocks : List ℕ) : Type 0 where
  pub size : length blocks ≡ block_list_size
  pub same : (k : ℕ) → k < rows_column → get_or blocks k 0 ≡ get_or before k 0
  pub row : (j h : ℕ) → j < count → 1 ≤ h → h ≤ hour_places → row_quantity blocks j h ≡ when (holds_hour (hours_at before j) h) (quantity_at before j)
  pub fits : (k : ℕ) → rows_column ≤ k → get_or blocks k 0 ≤ most_quantity

-- Blocks a and b are twins: of the same side, hours and quantity.
pub record TwinsAt (blocks : List ℕ) (a b : ℕ) : Type 0 where
  pub same_side : side_at blocks a ≡ side_at blocks b
  pub same_hours : hours_at blocks a ≡ hours_at blocks b
  pub same_quantity : quantity_at blocks a ≡ quantity_at blocks b

-- Each parent of the list stands before its child.
abbrev pub ParentsBefore : List ℕ → Type 0
ParentsBefore blocks = (i : ℕ) → i < most_blocks → parent_at blocks i ≤ i

-- What the parents' column may name: 0 for none, and of each block its number and 1.
abbrev pub parent_numbers : ℕ
parent_numbers = most_blocks + 1

-- Each that it names is marked with 1.
abbrev pub Marked : (blocks marks : List ℕ) → Type 0
Marked blocks marks = (j : ℕ) → j < most_blocks → get_or marks (parent_at blocks j) 0 ≡ 1

-- Block a may stand in for block b: it has no parent or b's, and b is nobody's parent.
pub record StandsIn (blocks : List ℕ) (a b : ℕ) : Type 0 where
  pub none_or_same : (k : ℕ) → parent_at blocks a ≡ suc k → parent_at blocks b ≡ suc k
  pub nobodys : (j : ℕ) → j < most_blocks → parent_at blocks j ≡ suc b → ⊥

-- A limit is kept wherever another is.
unfoldable pub no_worse : (side limit other : ℕ) → Bool
no_worse side limit other = test_side (side_for side) (leb other limit) (leb limit other)

-- Block a is an earlier twin of block i that is taken before it, or where `ahead` is false after it; the one taken before may stand in for the other.
pub record TwinAt (blocks : List ℕ) (i : ℕ) (ahead : Bool) (a : ℕ) : Type 0 where
  pub earlier : a < i
  pub twins : TwinsAt blocks a i
  pub better : no_worse (side_at blocks i) (limit_at blocks a) (limit_at blocks i) ≡ ahead
  pub trades : 1 ≤ quantity_at blocks i
  pub stands_in : StandsIn blocks (cond ahead a i) (cond ahead i a)

-- Such a twin, if one is found.
abbrev pub TwinFound : (blocks : List ℕ) (i : ℕ) (ahead : Bool) (found : Option ℕ) → Type 0
TwinFound blocks i ahead found = (a : ℕ) → found ≡ Some a → TwinAt blocks i ahead a

-- A number that is 0, or 1 and the number of such a twin.
abbrev pub TwinOf : (blocks : List ℕ) (i : ℕ) (ahead : Bool) (found : ℕ) → Type 0
TwinOf blocks i ahead found = (a : ℕ) → found ≡ suc a → TwinAt blocks i ahead a

-- No twin stands yet.
abbrev pub TwinsEmpty : List ℕ → Type 0
TwinsEmpty blocks = (k : ℕ) → ahead_column ≤ k → k < rows_column → get_or blocks k 0 ≡ 0

-- The twins of the first count blocks stand.
pub record TwinsWritten (count : ℕ) (before blocks : List ℕ) : Type 0 where
  pub size : length blocks ≡ block_list_size
  pub columns : (k : ℕ) → k < ahead_column → get_or blocks k 0 ≡ get_or before k 0
  pub rows : (k : ℕ) → rows_column ≤ k → get_or blocks k 0 ≡ get_or before k 0
  pub ahead : (i : ℕ) → i < count → TwinOf before i true (ahead_at blocks i)
  pub behind : (i : ℕ) → i < count → TwinOf before i false (behind_at blocks i)
  pub none : (i : ℕ) → count ≤ i → i < most_blocks → (ahead_at blocks i ≡ 0) × (behind_at blocks i ≡ 0)

-- WHAT IS READY: the day of an accepted book behind the tables, at some prices.
pub record Ready (b : List ℕ) (t : Tables) : Type 0 where
  pub p : ℕ → ℕ
  pub rest : ℕ → ℕ
  pub known : Known (day_from b) p rest t
  pub turning : Turning t

-- The parents are those of the book's blocks.
pub record ParentsOf (b : List ℕ) (count : ℕ) (parents : List ℕ) : Type 0 where
  pub are : (j : ℕ) → j < count → get_or parents j 0 ≡ parent_place (day_from b) j
  pub stand : Parents (day_from b) (parent_place (day_from b))

abbrev pub ReadyFor : (ed day : ℕ) (sides prices quantities ends : List ℕ) (records blockSides hours blockPrices blockQuantities parents : List ℕ) (t : Tables) → Type 0
ReadyFor ed day sides prices quantities ends records blockSides hours blockPrices blockQuantities parents t =
    (b step_records : List ℕ) → Accepted b → edition b ≡ ed → day_hours b ≡ day → StepColumns b ends step_records sides prices quantities →
    BlockColumns most_blocks b t.count records blockSides hours blockPrices blockQuantities → ParentsOf b t.count parents → Ready b t
