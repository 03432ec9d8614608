-- AN HOUR AS COLUMNS AND A NUMBER: what the price finder is given, neither the book, the set nor the blocks. Definitions only. Assumes nothing.
use Rattle.std.specs.Prelude.{ℕ, ◌+◌, ◌*◌, ◌^◌, ◌≤◌, ◌<◌, min, List, [], ◌∷◌, ◌≡◌, length, get_or}
use Rattle.fields.specs.Bounds.{most_step_quantity}
use Rattle.orders.specs.Layout.{step_places, block_places}
use Rattle.orders.specs.HourSteps as hour_steps
use Rattle.orders.specs.Columns.{steps_from, block_of}
use Rattle.rules.specs.Orders.{Block, max_price, most_block_quantity}
use Rattle.rules.specs.Hour.{Hour, buys_above, buys_from, sells_to}
use Rattle.rules.specs.Day.{taken, decisions, over_blocks, sells, buys as buys_in}

-- N is held as one number that is never negative: this, plus block sales, less block purchases.
abbrev pub bias : ℕ
bias = 2097152

-- The most that all blocks of a book sell, or buy, in an hour, in any edition; less than the bias.
abbrev pub most_traded : ℕ
most_traded = block_places * most_block_quantity

-- The hour of three columns (sides, prices, quantities) and N.
abbrev pub hour_with : ℕ → List ℕ → List ℕ → List ℕ → ℕ → Hour
hour_with h sides prices quantities n = record { steps = steps_from h sides prices quantities; block_sales = n; block_buys = bias }

-- At price q the buys above and the blocks' purchases, with a margin, are no more than the sells to q and the blocks' sales.
abbrev pub Covered : ℕ → Hour → ℕ → Type 0
Covered margin hour q = buys_above q hour.steps + hour.block_buys + margin ≤ sells_to q hour.steps + hour.block_sales

-- r is the least price at which that holds, or the highest price where it holds at none below.
pub record LeastCovered (margin : ℕ) (hour : Hour) (r : ℕ) : Type 0 where
  pub positive : 1 ≤ r
  pub in_range : r ≤ max_price
  pub below : (q : ℕ) → 1 ≤ q → q < r → sells_to q hour.steps + hour.block_sales < buys_above q hour.steps + hour.block_buys + margin
  pub holds : r < max_price → Covered margin hour r

-- No quantity is above a step's largest.
abbrev pub QuantitiesInRange : List ℕ → Type 0
QuantitiesInRange quantities = (i : ℕ) → get_or quantities i 0 ≤ most_step_quantity

-- What the columns' steps buy over one price and sell to another, whatever hour they are of.
pub record TotalsOf (sides prices quantities : List ℕ) (over to above upto : ℕ) : Type 0 where
  pub buys : (h : ℕ) → above ≡ buys_above over (steps_from h sides prices quantities)
  pub sells : (h : ℕ) → upto ≡ sells_to to (steps_from h sides prices quantities)
  pub above_fits : above ≤ step_places * 2 ^ 32
  pub upto_fits : upto ≤ step_places * 2 ^ 32
  pub above_small : QuantitiesInRange quantities → above ≤ step_places * most_step_quantity

-- The same with one price for both.
abbrev pub TotalsAt : List ℕ → List ℕ → List ℕ → ℕ → ℕ → ℕ → Type 0
TotalsAt sides prices quantities price above upto = TotalsOf sides prices quantities price price above upto

-- Columns of one length, at most 2,048.
abbrev pub Columns : (sides prices quantities : List ℕ) → Type 0
Columns = hour_steps.Columns

-- Blocks out of the columns that trades go by (sides, hours, quantities); their numbers and prices play no part in an hour's totals.
unfoldable pub traders_from : List ℕ → List ℕ → List ℕ → List Block
traders_from [] hours quantities = []
traders_from (s ∷ sides) [] quantities = []
traders_from (s ∷ sides) (x ∷ hours) [] = []
traders_from (s ∷ sides) (x ∷ hours) (q ∷ quantities) = block_of 0 0 s x 0 q ∷ traders_from sides hours quantities

-- What the blocks of a set given as bits sell and buy in hour h.
pub record TradesOf (sides hours quantities : List ℕ) (set h sales buys : ℕ) : Type 0 where
  pub sold : sales ≡ over_blocks (sells h) (taken (traders_from sides hours quantities) (decisions (length sides) set))
  pub bought : buys ≡ over_blocks (buys_in h) (taken (traders_from sides hours quantities) (decisions (length sides) set))

-- What is traded at a price, with what the blocks sell and buy: what is bought at or above it, or sold at or below it, the lesser.
abbrev pub TradedAt : List ℕ → List ℕ → List ℕ → (sales purchases price traded : ℕ) → Type 0
TradedAt sides prices quantities sales purchases price traded =
    (h : ℕ) → let l = steps_from h sides prices quantities in 1 ≤ price → traded ≡ min (buys_from price l + purchases) (sells_to price l + sales)
