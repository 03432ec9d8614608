-- THE TABLES OF AN HOUR: the unit price of each N of a range, the N at which the hour clears, and its gaps at a price. Definitions only.
-- Place i of a table stands for N = i − off: blocks that sell i and buy off. Assumes nothing.
use Rattle.std.specs.Prelude.{ℕ, zero, suc, ◌+◌, ◌*◌, ◌/◌, ◌%◌, ◌^◌, ◌≤◌, ◌<◌, max, min, List, ◌↔◌, ◌≡◌, ltb, length, get_or}
use Rattle.orders.specs.Layout.{step_places}
use Rattle.orders.specs.Columns.{steps_from}
use Rattle.rules.specs.Orders.{Step, max_price}
use Rattle.rules.specs.Hour.{when, buys_above, sells_to, all_buys, all_sells}
use Rattle.rules.specs.Contender.{PricesInRange}
use Rattle.rules.proofs.PricingLaws.{Clearable, net}
use Rattle.rules.proofs.TableLaws.{unit_price}

-- ROOM, for safe arithmetic: the most places of an hour's table, so that each gap is below 2 to the power 32, and the most that its blocks buy.
abbrev pub most_places : ℕ
most_places = 8192

abbrev pub most_off : ℕ
most_off = 1000000

-- THE PRICE TABLE
-- Each place has the unit price of the N before its own: H at its own, and L at that of the place before.
abbrev pub UnitPrices : List Step → ℕ → List ℕ → Type 0
UnitPrices l off table = (i : ℕ) → i < length table → get_or table i 0 ≡ unit_price (net l i (suc off))

-- The same for columns, whatever hour they are of.
abbrev pub PriceTable : List ℕ → List ℕ → List ℕ → ℕ → List ℕ → Type 0
PriceTable sides prices quantities off table = (h : ℕ) → UnitPrices (steps_from h sides prices quantities) off table

-- THE STEPS IN FALLING PRICE, buys and sells alike. A step's price and quantity are one number, its key: sorting keys sorts steps by price.
abbrev pub key_unit : ℕ
key_unit = 4294967296

abbrev pub key_of : ℕ → ℕ → ℕ
key_of price quantity = price * key_unit + quantity

abbrev pub key_price : ℕ → ℕ
key_price key = key / key_unit

abbrev pub key_quantity : ℕ → ℕ
key_quantity key = key % key_unit

-- What a key trades above price p.
abbrev pub key_above : ℕ → ℕ → ℕ
key_above p key = when (ltb p (key_price key)) (key_quantity key)

-- What the first n keys trade above price p, and what they trade at all.
unfoldable pub above_in : ℕ → List ℕ → ℕ → ℕ
above_in p keys zero = 0
above_in p keys (suc n) = above_in p keys n + key_above p (get_or keys n 0)

unfoldable pub amount_in : List ℕ → ℕ → ℕ
amount_in keys zero = 0
amount_in keys (suc n) = amount_in keys n + key_quantity (get_or keys n 0)

-- The first n keys do not rise.
abbrev pub Falling : List ℕ → ℕ → Type 0
Falling keys n = (a b : ℕ) → a < b → b < n → get_or keys b 0 ≤ get_or keys a 0

-- A key is put among the first n, which fall; those behind stay.
pub record InsertedTo (before : List ℕ) (n key : ℕ) (after : List ℕ) : Type 0 where
  pub same_length : length after ≡ length before
  pub falling : Falling after (n + 1)
  pub above_is : (p : ℕ) → above_in p after (n + 1) ≡ above_in p before n + key_above p key
  pub behind : (i : ℕ) → n < i → get_or after i 0 ≡ get_or before i 0

-- The first n keys in some order: they trade above each price what they did.
pub record Reordered (before : List ℕ) (n : ℕ) (after : List ℕ) : Type 0 where
  pub same_length : length after ≡ length before
  pub above_is : (p : ℕ) → above_in p after n ≡ above_in p before n

-- The keys of the columns' steps in any order, and what the sells sell together: what both sides trade above a price is what the buys buy above it and the
-- sells do not sell up to it, whatever hour the columns are of.
pub record Keyed (sides prices quantities keys : List ℕ) (sold : ℕ) : Type 0 where
  pub above_is : (h p : ℕ) → buys_above p (steps_from h sides prices quantities) + sold
      ≡ above_in p keys (length sides) + sells_to p (steps_from h sides prices quantities)
  pub sold_fits : sold ≤ step_places * 2 ^ 32

-- The same in falling order.
pub record KeysOf (sides prices quantities keys : List ℕ) (sold : ℕ) : Type 0 where
  pub falling : Falling keys (length sides)
  pub keyed : Keyed sides prices quantities keys sold

-- The price from 1 to the highest that is nearest to a number.
abbrev pub capped : ℕ → ℕ
capped price = max 1 (min price max_price)

-- A level of prices, what the keys down to it trade, and how many keys these are; the next level, which is the price 1 after the last key, and is left
-- at no place of a table.
pub record NextLevel (keys : List ℕ) (count traded taken price' traded' taken' : ℕ) : Type 0 where
  pub one_more : taken' ≡ taken + 1
  pub by_key : taken < count → (price' ≡ capped (key_price (get_or keys taken 0))) × (traded' ≡ traded + key_quantity (get_or keys taken 0))
  pub last_one : count ≤ taken → (price' ≡ 1) × (traded' ≡ 2 ^ 62)

-- The places from `from` up to `to` have the price, those before them are as they were.
pub record RunFilled (before : List ℕ) (from to price : ℕ) (after : List ℕ) : Type 0 where
  pub same_length : length after ≡ length before
  pub keeps : (j : ℕ) → j < from → get_or after j 0 ≡ get_or before j 0
  pub fills : (j : ℕ) → from ≤ j → j < to → get_or after j 0 ≡ price

-- WHERE AN HOUR CLEARS
-- All that the columns' steps buy and sell, whatever hour they are of, where their prices are in range.
pub record AllOf (sides prices quantities : List ℕ) (buys sells : ℕ) : Type 0 where
  pub all_bought : (h : ℕ) → PricesInRange (steps_from h sides prices quantities) → buys ≡ all_buys (steps_from h sides prices quantities)
  pub all_sold : (h : ℕ) → PricesInRange (steps_from h sides prices quantities) → sells ≡ all_sells (steps_from h sides prices quantities)
  pub buys_fit : buys ≤ step_places * 2 ^ 32
  pub sells_fit : sells ≤ step_places * 2 ^ 32

-- Of the places 0 to most, those from first to last are the ones at which steps that buy and sell so much clear; none where first is above last.
pub record ClearRange (buys sells off most first last : ℕ) : Type 0 where
  pub inside : last ≤ most
  pub clearing : (l : List Step) → buys ≡ all_buys l → sells ≡ all_sells l → (i : ℕ) → i ≤ most →
      ((first ≤ i) × (i ≤ last)) ↔ Clearable (net l i off)

-- THE GAP TABLE
-- A table that does not rise from one place to the next.
abbrev pub NotRising : List ℕ → Type 0
NotRising table = (i : ℕ) → i + 1 < length table → get_or table (i + 1) 0 ≤ get_or table i 0

-- A table of prices, none above the highest.
abbrev pub PricesFit : List ℕ → Type 0
PricesFit table = (i : ℕ) → i < length table → get_or table i 0 ≤ max_price

-- From one place to the next, first to last, the gap at a price changes by the price less the unit price.
abbrev pub Gaps : List ℕ → ℕ → ℕ → ℕ → List ℕ → Type 0
Gaps table price first last out = (i : ℕ) → first ≤ i → i < last → get_or out (i + 1) 0 + get_or table (i + 1) 0 ≡ get_or out i 0 + price

-- From the place after `from` to `to` the table is at or below the price, or above it.
abbrev pub AtOrBelow : List ℕ → ℕ → ℕ → ℕ → Type 0
AtOrBelow table price from to = (i : ℕ) → from ≤ i → i < to → get_or table (i + 1) 0 ≤ price

abbrev pub Above : List ℕ → ℕ → ℕ → ℕ → Type 0
Above table price from to = (i : ℕ) → from ≤ i → i < to → price < get_or table (i + 1) 0

-- The place of the least gap: up to it the unit prices are above the price, and the next one is not.
pub record BestPlace (table : List ℕ) (price first last m : ℕ) : Type 0 where
  pub from : first ≤ m
  pub to : m ≤ last
  pub above : Above table price first m
  pub turns : m < last → get_or table (m + 1) 0 ≤ price

-- A table of prices, a price, two places of it, and room for as many gaps.
pub record GapsFor (table : List ℕ) (price first last : ℕ) (out : List ℕ) : Type 0 where
  pub ordered : first ≤ last
  pub inside : last < length out
  pub as_many : length table ≡ length out
  pub few : length out ≤ most_places
  pub in_range : PricesFit table
  pub price_in_range : price ≤ max_price

-- Gaps from m, which has 0, upwards; and down from there, the places from m on left as they were.
pub record GapsUp (table : List ℕ) (price m last : ℕ) (before after : List ℕ) : Type 0 where
  pub same_length : length after ≡ length before
  pub zero_at : get_or after m 0 ≡ 0
  pub gaps : Gaps table price m last after

pub record GapsDown (table : List ℕ) (price first m : ℕ) (before after : List ℕ) : Type 0 where
  pub same_length : length after ≡ length before
  pub keeps : (j : ℕ) → m ≤ j → get_or after j 0 ≡ get_or before j 0
  pub gaps : Gaps table price first m after

-- The gaps of the places first to last, counted from the least of them, which stands at m.
pub record GapTable (table : List ℕ) (price first last m : ℕ) (out : List ℕ) : Type 0 where
  pub from : first ≤ m
  pub to : m ≤ last
  pub zero_at : get_or out m 0 ≡ 0
  pub gaps : Gaps table price first last out
