-- ONE HOUR under a set of blocks (document 01, "Price of one hour under a set of blocks"): the four totals, the prices that clear, L, H and the
-- price. Definitions only. Assumes nothing.
-- N, block sales less block purchases, may be negative: it is kept as its two parts, each written on the side where it is added.
use Rattle.std.specs.Prelude.{ℕ, zero, suc, ◌+◌, ◌/◌, Bool, true, false, ◌&&◌, List, [], ◌∷◌, ltb, leb}
use Rattle.std.proofs.Math.Option.{Option, none, some}
use Rattle.rules.specs.Orders.{Side, buy, sell, Step, max_price}

-- The first number for a buy, the second for a sell.
abbrev pub by_side : Side → ℕ → ℕ → ℕ
by_side buy b s = b
by_side sell b s = s

-- The number where the test passes, else 0.
abbrev pub when : Bool → ℕ → ℕ
when true n = n
when false n = 0

-- The sum of a number of each step.
abbrev pub total : (Step → ℕ) → List Step → ℕ
total f [] = 0
total f (s ∷ l) = f s + total f l

-- What a step buys, and sells, if executed in full.
abbrev pub buying : Step → ℕ
buying s = by_side s.side s.quantity 0

abbrev pub selling : Step → ℕ
selling s = by_side s.side 0 s.quantity

-- All buy steps together, and all sell steps.
abbrev pub all_buys : List Step → ℕ
all_buys = total buying

abbrev pub all_sells : List Step → ℕ
all_sells = total selling

-- Buys strictly above p.
unfoldable pub buys_above : ℕ → List Step → ℕ
buys_above p = total (λ s. when (ltb p s.price) (buying s))

-- Buys at or above p.
unfoldable pub buys_from : ℕ → List Step → ℕ
buys_from p = total (λ s. when (leb p s.price) (buying s))

-- Sells at or below p.
unfoldable pub sells_to : ℕ → List Step → ℕ
sells_to p = total (λ s. when (leb s.price p) (selling s))

-- Sells strictly below p.
unfoldable pub sells_below : ℕ → List Step → ℕ
sells_below p = total (λ s. when (ltb s.price p) (selling s))

-- An hour: its steps in rising order number, and what the blocks of the set sell and buy in it.
pub record Hour : Type 0 where
  pub steps : List Step
  pub block_sales : ℕ
  pub block_buys : ℕ

-- Price p clears the hour: buys strictly above it are no more than sells at or below it plus N,
-- and buys at or above it are no less than sells strictly below it plus N.
unfoldable pub clears : Hour → ℕ → Bool
clears h p =
    leb (buys_above p h.steps + h.block_buys) (sells_to p h.steps + h.block_sales)
    && leb (sells_below p h.steps + h.block_sales) (buys_from p h.steps + h.block_buys)

-- The number itself where the test passes, else nothing.
abbrev pub if_passes : Bool → ℕ → Option ℕ
if_passes true n = some n
if_passes false n = none

-- The first of two, where there is one.
abbrev pub or_else : Option ℕ → Option ℕ → Option ℕ
or_else none b = b
or_else (some a) b = some a

-- The least number of 1 to n that passes a test.
unfoldable pub least : (ℕ → Bool) → ℕ → Option ℕ
least t zero = none
least t (suc n) = or_else (least t n) (if_passes (t (suc n)) (suc n))

-- The greatest number of 1 to n that passes a test.
unfoldable pub greatest : (ℕ → Bool) → ℕ → Option ℕ
greatest t zero = none
greatest t (suc n) = or_else (if_passes (t (suc n)) (suc n)) (greatest t n)

-- What pricing an hour gives: L, H and the price; or "does not clear".
pub data Pricing : Type 0 where
  cleared : (low high price : ℕ) → Pricing
  does_not_clear : Pricing

-- The price: L and H added, divided by 2, rounded down.
abbrev pub middle : ℕ → ℕ → ℕ
middle low high = (low + high) / 2

abbrev pub between : Option ℕ → Option ℕ → Pricing
between none high = does_not_clear
between (some low) none = does_not_clear
between (some low) (some high) = cleared low high (middle low high)

-- L is the least price of 1 to 300000 that clears the hour, H the greatest.
unfoldable pub pricing : Hour → Pricing
pricing h = between (least (clears h) max_price) (greatest (clears h) max_price)

-- Whether the hour clears, and the price it then has.
abbrev pub is_cleared : Pricing → Bool
is_cleared (cleared low high price) = true
is_cleared does_not_clear = false

abbrev pub answered_price : Pricing → ℕ
answered_price (cleared low high price) = price
answered_price does_not_clear = 0
