-- HOW LARGE CASH GETS, for the code's number widths: on a day of at most 25 hours, at prices up to 300000, an order executed for at most 99,999 trades at
-- most 2,499,975 and its cash is at most 749,992,500,000; of at most 2,047 orders each quantity is at most 5,117,448,825 and each cash at most
-- 1,535,234,647,500,000, below 2 ^ 51, in all, of any portfolio, and of any first part of them. Assumes nothing.
use Prim.Native.Nat.{ℕ, zero, suc, ◌+◌, ◌-◌, ◌*◌, ◌^◌, ◌≤◌, ◌<◌}
use mathlib.Core.Bool.{Bool, true, false}
use mathlib.Core.List.{List, [], ◌∷◌, ◌++◌}
use native.Mathlib.Omega.{arith}
use native.Mathlib.Nat.{le_trans, mul-le-mul_left}
use lib.Dec.{eqb, lit<}
use lib.ListN.{length, take, get_or}
use Rattle.rules.specs.Orders.{Side, buy, sell, Order, Block, Orders, max_price, steps_of, canonical, executed_of}
use Rattle.rules.specs.Hour.{by_side, when}
use Rattle.rules.specs.Day.{Day, autumn_hours, is_counted, day_of, keep, taken, hour_of, set_prices, executed}
use Rattle.rules.specs.Outcome.{outcome, for_hours, published}
use Rattle.rules.specs.Contender.{Each, Within, PricesInRange}
use Rattle.rules.specs.OutcomeRules.{EachBlock}
use Rattle.rules.specs.Cash.{
  Executed,
  traded_by,
  cash_by,
  over_executed,
  cash_of,
  owned_by,
  executed_steps,
  executed_blocks,
  executed_orders,
  published_price,
}
use Rattle.rules.proofs.CashCases
use Rattle.rules.proofs.CurveLaws.{when-le}
use Rattle.rules.proofs.HourSums.{day_sum-le, day_sum-times}
use Rattle.rules.proofs.ExecutionLaws.{execution-within}
use Rattle.rules.proofs.ChainLaws.{each-in-order}
use Rattle.rules.proofs.BoundsLaws.{SmallSteps, SmallBlock, SmallDay, product_le, price-small}
use Rattle.rules.proofs.FamilyBounds.{counted-few}

-- The most that an order is executed for; so the most that it trades on a day, and the most of its cash.
abbrev pub most_executed : ℕ
most_executed = 99999

abbrev pub most_traded : ℕ
most_traded = 2499975

abbrev pub most_cash : ℕ
most_cash = 749992500000

-- The most orders; so the most of a quantity and of a cash of the sheet.
abbrev pub most_orders : ℕ
most_orders = 2047

abbrev pub most_quantity : ℕ
most_quantity = 5117448825

abbrev pub most_amount : ℕ
most_amount = 1535234647500000

-- A statement of each order.
abbrev pub EachExecuted : (Executed → Type 0) → List Executed → Type 0
EachExecuted P [] = Unit {0}
EachExecuted P (o ∷ l) = P o × EachExecuted P l

-- An order is executed for no more than that.
abbrev pub SmallExecuted : Executed → Type 0
SmallExecuted o = o.quantity ≤ most_executed

-- SUMS OVER ORDERS
-- of numbers that are each at most so much
pub over-most : (f : Executed → ℕ) (most : ℕ) (l : List Executed) → EachExecuted (λ o. f o ≤ most) l → over_executed f l ≤ most * length l
over-most f most [] e = omega arith
over-most f most (o ∷ l) e = omega (arith, e.0, over-most f most l e.1)

-- of the first n orders
pub over_first : (f : Executed → ℕ) (n : ℕ) (l : List Executed) → over_executed f (take n l) ≤ over_executed f l
over_first f zero l = omega arith
over_first f (suc n) [] = omega arith
over_first f (suc n) (o ∷ l) = omega (arith, over_first f n l)

-- of a portfolio's orders
pub over-owned : (f : Executed → ℕ) (portfolio : ℕ) (l : List Executed) → over_executed f (owned_by portfolio l) ≤ over_executed f l
unfolding owned_by
over-owned f portfolio [] = omega arith
over-owned f portfolio (o ∷ l) = at (eqb o.portfolio portfolio) (over-owned f portfolio l)
  where
    at : (t : Bool) → over_executed f (owned_by portfolio l) ≤ over_executed f l → over_executed f (keep t o (owned_by portfolio l)) ≤ f o + over_executed f l
    at true le = omega (arith, le)
    at false le = omega (arith, le)

-- so many of them at most are a portfolio's
pub owned-few : (portfolio : ℕ) (l : List Executed) → length (owned_by portfolio l) ≤ length l
unfolding owned_by
owned-few portfolio [] = omega arith
owned-few portfolio (o ∷ l) = at (eqb o.portfolio portfolio) (owned-few portfolio l)
  where
    at : (t : Bool) → length (owned_by portfolio l) ≤ length l → length (keep t o (owned_by portfolio l)) ≤ suc (length l)
    at true le = omega (arith, le)
    at false le = omega (arith, le)

-- what holds of each order holds of each of a portfolio's
pub each_owned : (P : Executed → Type 0) (portfolio : ℕ) (l : List Executed) → EachExecuted P l → EachExecuted P (owned_by portfolio l)
unfolding owned_by
each_owned P portfolio [] e = tt
each_owned P portfolio (o ∷ l) e = at (eqb o.portfolio portfolio) (each_owned P portfolio l e.1)
  where
    at : (t : Bool) → EachExecuted P (owned_by portfolio l) → EachExecuted P (keep t o (owned_by portfolio l))
    at true later = (e.0, later)
    at false later = later

pub each-executed : (P Q : Executed → Type 0) → ((o : Executed) → P o → Q o) → (l : List Executed) → EachExecuted P l → EachExecuted Q l
each-executed P Q f [] e = tt
each-executed P Q f (o ∷ l) e = (f o e.0, each-executed P Q f l e.1)

module _ (hours : ℕ) (few : hours ≤ autumn_hours) where
  -- ONE ORDER
  pub traded-small : (o : Executed) → o.quantity ≤ most_executed → traded_by hours o ≤ most_traded
  unfolding traded_by
  traded-small o small =
      let le = day_sum-le hours (λ h. when (o.runs h) o.quantity) (λ h. 99999 * 1) (λ h c. omega (arith, when-le (o.runs h) o.quantity, small)) in
      omega (arith, le, day_sum-times hours 99999 (λ h. 1), counted-few hours few)

  module _ (price : ℕ → ℕ) (low : (h : ℕ) → price h ≤ max_price) where
    pub cash-small : (o : Executed) → o.quantity ≤ most_executed → cash_by hours price o ≤ most_cash
    unfolding cash_by
    cash-small o small =
        let each : (h : ℕ) → when (o.runs h) (o.quantity * price h) ≤ 29999700000 = λ h.
        le_trans (when-le (o.runs h) (o.quantity * price h)) (product_le o.quantity (price h) 99999 300000 small (low h)) in
        let le = day_sum-le hours (λ h. when (o.runs h) (o.quantity * price h)) (λ h. 29999700000 * 1) (λ h c. omega (arith, each h)) in
        omega (arith, le, day_sum-times hours 29999700000 (λ h. 1), counted-few hours few)

    -- what it adds to a line
    side-small : (side : Side) (n most : ℕ) → n ≤ most → (by_side side n 0 ≤ most) × (by_side side 0 n ≤ most)
    side-small buy n most le = (le, omega arith)
    side-small sell n most le = (omega arith, le)

    -- ALL ORDERS
    module _ (l : List Executed) (small : EachExecuted SmallExecuted l) (most : length l ≤ most_orders) where
      -- any number of each order that is at most so much
      all_small : (f : Executed → ℕ) (each : ℕ) → ((o : Executed) → SmallExecuted o → f o ≤ each) → over_executed f l ≤ each * most_orders
      all_small f each le =
          le_trans (over-most f each l (each-executed SmallExecuted (λ o. f o ≤ each) le l small)) (mul-le-mul_left each most)

      pub bought-small : (cash_of hours price l).bought ≤ most_quantity
      unfolding cash_of
      bought-small = all_small _ most_traded (λ o s. (side-small o.side _ _ (traded-small o s)).0)

      pub sold-small : (cash_of hours price l).sold ≤ most_quantity
      unfolding cash_of
      sold-small = all_small _ most_traded (λ o s. (side-small o.side _ _ (traded-small o s)).1)

      pub paid-small : (cash_of hours price l).paid ≤ most_amount
      unfolding cash_of
      paid-small = all_small _ most_cash (λ o s. (side-small o.side _ _ (cash-small o s)).0)

      pub received-small : (cash_of hours price l).received ≤ most_amount
      unfolding cash_of
      received-small = all_small _ most_cash (λ o s. (side-small o.side _ _ (cash-small o s)).1)

-- THE ORDERS OF A SMALL DAY
each_append : (P : Executed → Type 0) (l m : List Executed) → EachExecuted P l → EachExecuted P m → EachExecuted P (l ++ m)
each_append P [] m a b = b
each_append P (o ∷ l) m a b = (a.0, each_append P l m a.1 b)

steps-small : (l : List Order) (qs : List ℕ) → SmallSteps (steps_of l) → Each Within (steps_of l) qs → EachExecuted SmallExecuted (executed_steps l qs)
unfolding executed_steps steps_of
steps-small [] qs s w = tt
steps-small (o ∷ l) [] s w = tt
steps-small (o ∷ l) (q ∷ qs) s w = (le_trans w.0 s.1, steps-small l qs s.2 w.1)

blocks-small : (l : List Block) (chosen : List Bool) → EachBlock SmallBlock l → EachExecuted SmallExecuted (executed_blocks l chosen)
unfolding executed_blocks
blocks-small [] chosen s = tt
blocks-small (b ∷ l) [] s = tt
blocks-small (b ∷ l) (t ∷ chosen) s = (omega (arith, when-le t b.quantity, s.0.quantity), blocks-small l chosen s.1)

within : (day : Day) (set : List Block) → Each Within day.steps (executed day set)
unfolding executed
within day set = each-in-order Within day.steps _ (λ h. execution-within (hour_of day set h) (set_prices day set h))

pub orders-small : (orders : Orders) → SmallDay (day_of orders) → EachExecuted SmallExecuted (executed_orders orders)
unfolding day_of executed_orders published executed_of
orders-small orders s =
    let day = day_of orders in
    let set = taken day.blocks (outcome day) in
    let steps = executed_steps (canonical orders).steps (executed day set) in
    let blocks = executed_blocks day.blocks (outcome day) in
    each_append SmallExecuted steps blocks (steps-small (canonical orders).steps (executed day set) s.small_steps (within day set))
    (blocks-small day.blocks (outcome day) s.small_blocks)

-- THE PUBLISHED PRICES
place-most : (most : ℕ) (l m : List ℕ) → ((i : ℕ) → get_or l i 0 ≤ most) → ((i : ℕ) → get_or m i 0 ≤ most) → (i : ℕ) → get_or (l ++ m) i 0 ≤ most
place-most most [] m a b i = b i
place-most most (n ∷ l) m a b zero = a 0
place-most most (n ∷ l) m a b (suc i) = place-most most l m (λ j. a (suc j)) b i

hours-most : (most n : ℕ) (f : ℕ → ℕ) → ((h : ℕ) → f h ≤ most) → (i : ℕ) → get_or (for_hours n f) i 0 ≤ most
unfolding for_hours
hours-most most zero f le i = omega arith
hours-most most (suc n) f le i = place-most most (for_hours n f) (f (suc n) ∷ []) (hours-most most n f le) last i
  where
    last : (i : ℕ) → get_or (f (suc n) ∷ []) i 0 ≤ most
    last zero = le (suc n)
    last (suc i) = omega arith

pub published-price-small : (orders : Orders) → PricesInRange (day_of orders).steps → (h : ℕ) → published_price orders h ≤ max_price
unfolding published_price published
published-price-small orders prices h =
    let day = day_of orders in
    let set = taken day.blocks (outcome day) in
    hours-most max_price 24 (λ h. when (is_counted day.hours h) (set_prices day set h))
    (λ h. le_trans (when-le (is_counted day.hours h) (set_prices day set h)) (price-small day prices set h)) (h - 1)

-- all of it has room in 8 bytes, many times over
pub amounts-fit : most_amount < 2 ^ 51
amounts-fit = lit< tt
