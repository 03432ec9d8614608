-- HOW LARGE THE NUMBERS OF A DAY GET, for the code's number widths: of a day of at most 2,047 steps of at most 99,999 each and 32 blocks of at most
-- 250 each, at prices up to 300000 and with no hour counted more than twice, value and welfare are below 2 ^ 47, traded quantities below
-- 10 ^ 9, executed quantities at most 99,999; a price is at most 300000. Assumes nothing.
use Prim.Native.Nat.{ℕ, zero, suc, ◌-◌, ◌*◌, ◌^◌, ◌≤◌, ◌<◌}
use mathlib.Core.Bool.{Bool, true, false, cond}
use mathlib.Core.List.{List, [], ◌∷◌}
use native.Mathlib.Omega.{arith}
use native.Mathlib.Nat.{le_trans, mul-le-mul_left, mul-le-mul_right}
use lib.Dec.{eqb, leb}
use lib.ListN.{length}
use Rattle.rules.specs.Orders.{Side, buy, sell, Step, Block, max_price, Limits, limits, most_block_quantity}
use Rattle.rules.specs.Hour.{by_side, when, Pricing, cleared, does_not_clear, pricing, answered_price}
use Rattle.rules.specs.Execution.{bought}
use Rattle.rules.specs.Day.{
  Day,
  change_hour,
  spring_hours,
  autumn_hours,
  weight,
  sum_to,
  day_sum,
  keep,
  steps_in,
  taken,
  over_blocks,
  buys,
  hour_of,
  set_prices,
  hour_count,
  steps_value,
  blocks_value,
  day_value,
  executed,
  welfare,
  traded,
}
use Rattle.rules.specs.Contender.{Each, Within, PricesInRange}
use Rattle.rules.specs.OutcomeRules.{EachBlock}
use Rattle.rules.proofs.SetPriceLaws.{day_shift, is-shift, shift_fits, price-at-shift, shift-price-small}
use Rattle.rules.proofs.Tests.{by-test}
use Rattle.rules.proofs.PricingLaws.{Priced, pricing-is}
use Rattle.rules.proofs.ExecutionLaws.{execution-within}
use Rattle.rules.proofs.HourSums.{day_sum-le}
use Rattle.rules.proofs.ChainLaws.{each-in-order, prices-in}

-- SMALL DAYS
-- Each step's price and quantity are small.
abbrev pub SmallSteps : List Step → Type 0
SmallSteps [] = Unit {0}
SmallSteps (s ∷ l) = (s.price ≤ max_price) × (s.quantity ≤ 99999) × SmallSteps l

-- A block's price and quantity are small.
pub record SmallBlock (b : Block) : Type 0 where
  pub price : b.price ≤ max_price
  pub quantity : b.quantity ≤ most_block_quantity

-- There are few steps and blocks, each is small, and no hour counts more than twice.
pub record SmallDay (day : Day) : Type 0 where
  pub few_steps : length day.steps ≤ 2047
  pub small_steps : SmallSteps day.steps
  pub few_blocks : length day.blocks ≤ 32
  pub small_blocks : EachBlock SmallBlock day.blocks
  pub at_most_twice : (h : ℕ) → weight day.hours h ≤ 2

-- No hour counts more than twice on a day of up to 25 hours.
pub weight-small : (hours h : ℕ) → hours ≤ autumn_hours → weight hours h ≤ 2
unfolding weight
weight-small hours h few = at (eqb h change_hour)
  where
    at : (t : Bool) → cond t (hours - spring_hours) 1 ≤ 2
    at true = omega (arith, few)
    at false = omega arith

-- no edition lets a block have more
pub limits-small : (edition : ℕ) → (limits edition).block_quantity ≤ most_block_quantity
unfolding limits
limits-small edition = at (leb edition 1)
  where
    at : (t : Bool) → (cond {A = Limits} t (record { block_quantity = 50; blocks_of_portfolio = 5 }) (record { block_quantity = 250; blocks_of_portfolio = 10 })).block_quantity ≤ 250
    at true = omega arith
    at false = omega arith

-- products of bounded numbers
pub product_le : (a b c d : ℕ) → a ≤ c → b ≤ d → a * b ≤ c * d
product_le a b c d h k = le_trans (mul-le-mul_right b h) (mul-le-mul_left c k)

-- THE STEPS
bought-at-most : (side : Side) (w q p : ℕ) → w ≤ 2 → q ≤ 99999 → p ≤ max_price → w * by_side side (q * p) 0 ≤ 59999400000
bought-at-most buy w q p hw hq hp = product_le w (q * p) 2 29999700000 hw (product_le q p 99999 300000 hq hp)
bought-at-most sell w q p hw hq hp = product_le w 0 2 29999700000 hw (omega arith)

module _ (hours : ℕ) (few : (h : ℕ) → weight hours h ≤ 2) where
  steps_value-small : (l : List Step) (qs : List ℕ) → SmallSteps l → Each Within l qs → steps_value hours l qs ≤ 59999400000 * length l
  unfolding steps_value
  steps_value-small [] [] s w = omega arith
  steps_value-small [] (q ∷ qs) s w = absurd w
  steps_value-small (x ∷ l) [] s w = absurd w
  steps_value-small (x ∷ l) (q ∷ qs) s w =
      omega (
        arith,
        bought-at-most x.side (weight hours x.hour) q x.price (few x.hour) (le_trans w.0 s.1) s.0,
        steps_value-small l qs s.2 w.1,
      )

  -- THE BLOCKS
  -- the hours count 48 times at most
  hours-few : (n : ℕ) → sum_to n (λ h. weight hours h * 1) ≤ 2 * n
  unfolding sum_to
  hours-few zero = omega arith
  hours-few (suc n) = omega (arith, hours-few n, few (suc n))

  when-at-most : (t : Bool) → when t 1 ≤ 1
  when-at-most true = omega arith
  when-at-most false = omega arith

  pub hour_count-small : (b : Block) → hour_count hours b ≤ 48
  unfolding hour_count day_sum
  hour_count-small b = le_trans (day_sum-le hours (λ h. when (b.runs h) 1) (λ h. 1) (λ h c. when-at-most (b.runs h))) (hours-few 24)

  block-at-most : (b : Block) → SmallBlock b → b.quantity * (b.price * hour_count hours b) ≤ 3600000000
  block-at-most b s =
      product_le b.quantity (b.price * hour_count hours b) 250 14400000 s.quantity
      (product_le b.price (hour_count hours b) 300000 48 s.price (hour_count-small b))

  first-at-most : (side : Side) (n m : ℕ) → n ≤ m → by_side side n 0 ≤ m
  first-at-most buy n m h = h
  first-at-most sell n m h = omega arith

  blocks_value-small : (l : List Block) → EachBlock SmallBlock l → blocks_value hours l ≤ 3600000000 * length l
  unfolding blocks_value
  blocks_value-small [] s = omega arith
  blocks_value-small (b ∷ l) s = omega (arith, first-at-most b.side _ _ (block-at-most b s.0), blocks_value-small l s.1)

-- those of a set are no more
pub taken-few : (l : List Block) (set : List Bool) → length (taken l set) ≤ length l
taken-few [] set = omega arith
taken-few (b ∷ l) [] = omega arith
taken-few (b ∷ l) (true ∷ set) = omega (arith, taken-few l set)
taken-few (b ∷ l) (false ∷ set) = omega (arith, taken-few l set)

-- and each is as all are
pub each-taken : (P : Block → Type 0) (l : List Block) (set : List Bool) → EachBlock P l → EachBlock P (taken l set)
each-taken P [] set e = tt
each-taken P (b ∷ l) [] e = tt
each-taken P (b ∷ l) (true ∷ set) e = (e.0, each-taken P l set e.1)
each-taken P (b ∷ l) (false ∷ set) e = each-taken P l set e.1

-- AN HOUR
steps-in-few : (h : ℕ) (l : List Step) → length (steps_in h l) ≤ length l
steps-in-few h [] = omega arith
steps-in-few h (s ∷ l) =
    by-test (λ t. length (keep t s (steps_in h l)) ≤ suc (length l)) (eqb s.hour h)
    (λ e. omega (arith, steps-in-few h l)) (λ e. omega (arith, steps-in-few h l))

steps-in-small : (h : ℕ) (l : List Step) → SmallSteps l → SmallSteps (steps_in h l)
steps-in-small h [] s = tt
steps-in-small h (x ∷ l) s =
    by-test (λ t. SmallSteps (keep t x (steps_in h l))) (eqb x.hour h)
    (λ e. (s.0, s.1, steps-in-small h l s.2)) (λ e. steps-in-small h l s.2)

side-at-most : (side : Side) (q own : ℕ) → q ≤ own → own ≤ 99999 → by_side side q 0 ≤ 99999
side-at-most buy q own h k = omega arith
side-at-most sell q own h k = omega arith

bought-small : (l : List Step) (qs : List ℕ) → SmallSteps l → Each Within l qs → bought l qs ≤ 99999 * length l
unfolding bought
bought-small [] [] s w = omega arith
bought-small [] (q ∷ qs) s w = absurd w
bought-small (x ∷ l) [] s w = absurd w
bought-small (x ∷ l) (q ∷ qs) s w = omega (arith, side-at-most x.side q x.quantity w.0 s.1, bought-small l qs s.2 w.1)

buys-at-most : (t : Bool) (side : Side) (q : ℕ) → q ≤ 250 → when t (by_side side q 0) ≤ 250
buys-at-most true buy q h = h
buys-at-most true sell q h = omega arith
buys-at-most false side q h = omega arith

block-buys-small : (h : ℕ) (l : List Block) → EachBlock SmallBlock l → over_blocks (buys h) l ≤ 250 * length l
block-buys-small h [] s = omega arith
block-buys-small h (b ∷ l) s = omega (arith, buys-at-most (b.runs h) b.side b.quantity s.0.quantity, block-buys-small h l s.1)

-- executed quantities are the steps' own at most
executed-own : (day : Day) (set : List Block) → Each Within day.steps (executed day set)
unfolding executed
executed-own day set = each-in-order Within day.steps _ (λ h. execution-within (hour_of day set h) (set_prices day set h))

within-small : (l : List Step) (qs : List ℕ) → SmallSteps l → Each Within l qs → Each (λ s q. q ≤ 99999) l qs
within-small [] [] s w = tt
within-small [] (q ∷ qs) s w = absurd w
within-small (x ∷ l) [] s w = absurd w
within-small (x ∷ l) (q ∷ qs) s w = (le_trans w.0 s.1, within-small l qs s.2 w.1)

-- no price is above 300000, also where the hour does not clear
pub price-small : (day : Day) → PricesInRange day.steps → (set : List Block) (h : ℕ) → set_prices day set h ≤ max_price
price-small day prices set h =
    rw (price-at-shift day prices set h) (shift-price-small day prices set (day_shift day set) (shift_fits (is-shift day set)) h)

-- THE DAY under a set of its blocks
module _ (day : Day) (small : SmallDay day) (set : List Bool) where
  abbrev T : List Block
  T = taken day.blocks set

  -- of any quantities within the steps' own
  pub day_value-small : (qs : List ℕ) → Each Within day.steps qs → day_value day (taken day.blocks set) qs < 2 ^ 47
  unfolding day_value
  day_value-small qs w =
      omega (
        arith,
        small.few_steps,
        small.few_blocks,
        steps_value-small day.hours small.at_most_twice day.steps qs small.small_steps w,
        blocks_value-small day.hours small.at_most_twice T (each-taken SmallBlock day.blocks set small.small_blocks),
        taken-few day.blocks set,
      )

  pub welfare-small : welfare day set < 2 ^ 47
  unfolding welfare
  welfare-small = omega (arith, day_value-small (executed day T) (executed-own day T))

  pub traded-small : (h : ℕ) → traded day (taken day.blocks set) h < 10 ^ 9
  unfolding traded
  traded-small h =
      omega (
        arith,
        small.few_steps,
        small.few_blocks,
        bought-small (steps_in h day.steps) _ (steps-in-small h day.steps small.small_steps)
            (execution-within (hour_of day T h) (set_prices day T h)),
        steps-in-few h day.steps,
        block-buys-small h T (each-taken SmallBlock day.blocks set small.small_blocks),
        taken-few day.blocks set,
      )

  pub executed-small : Each (λ s q. q ≤ 99999) day.steps (executed day (taken day.blocks set))
  executed-small = within-small day.steps _ small.small_steps (executed-own day T)
