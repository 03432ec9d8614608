-- CONTENDERS BY EXAMPLE, from the definition alone: condition by condition, what a contender may not do, a child without its parent among it; and what it may: quantities against the price
-- and the sharing rule, welfare below zero, a taken buy block, a block left out that the prices would have paid. Assumes nothing.
-- (Laws of the same definitions import it, so that a wrong one is met here first.)
use Prim.Native.Nat.{ℕ, ◌<◌}
use mathlib.Core.Bool.{true, false, false≢true}
use mathlib.Core.Path.{◌≡◌, refl}
use mathlib.Core.List.{List, [], ◌∷◌}
use native.Mathlib.Omega.{arith}
use Rattle.rules.specs.Day.{taken, hour_of, set_prices, keeps_limit, keeps_limits, every_block, lawful, executed, day_value, day_cost}
use Rattle.rules.specs.Contender.{quantities_in, Balanced, Contender, HasWelfare}
use Rattle.rules.specs.Cases.{s4, s5, late_buy, shared_late, apart, s5_autumn, autumn, across, family}
use Rattle.rules.proofs.HourSums.{each-hour, each-counted}
use Rattle.rules.proofs.CertifiedHours.{computed, clears-tested, price-tested, prices-tested, hour-counts}

-- WHAT A CONTENDER MAY NOT DO
-- a sell of 60 with 61, where the hour balances
pub above-own-no-contender : ¬ Contender shared_late [] (61 ∷ 39 ∷ 0 ∷ 100 ∷ [])
unfolding computed
above-own-no-contender c = omega (arith, c.within.0)

-- hour 24 with 100 bought and 99 sold
pub unbalanced-no-contender : ¬ Contender shared_late [] (60 ∷ 39 ∷ 0 ∷ 100 ∷ [])
unfolding computed
unbalanced-no-contender c = omega (arith, c.balanced 24 (hour-counts 24 refl))

-- a buy block of 50 with 49 sold in hour 23: the blocks count
pub block-unmet-no-contender : ¬ Contender (late_buy 2500) (true ∷ []) (49 ∷ 50 ∷ [])
unfolding computed
block-unmet-no-contender c = omega (arith, c.balanced 23 (hour-counts 23 refl))

-- S4: a sell block at 3001, where both prices with it are 3000
pub sell-limit-missed-no-contender : ¬ Contender s4 (true ∷ []) (100 ∷ 50 ∷ 100 ∷ 50 ∷ [])
unfolding computed
sell-limit-missed-no-contender c = false≢true (rw prices-tested at c.limits)

-- a buy block at 2499, where the prices with it are 2000 and 3000
pub buy-limit-missed-no-contender : ¬ Contender (late_buy 2499) (true ∷ []) (50 ∷ 50 ∷ [])
unfolding computed
buy-limit-missed-no-contender c = false≢true (rw prices-tested at c.limits)

-- a decision too many, and one missing
pub longer-set-no-contender : ¬ Contender s5 (false ∷ false ∷ []) (100 ∷ 100 ∷ 100 ∷ 100 ∷ [])
unfolding computed
longer-set-no-contender c = omega (arith, c.of_blocks)

pub shorter-set-no-contender : ¬ Contender s5 [] (100 ∷ 100 ∷ 100 ∷ 100 ∷ [])
unfolding computed
shorter-set-no-contender c = omega (arith, c.of_blocks)

-- a quantity too many, and one missing
pub more-quantities-no-contender : ¬ Contender shared_late [] (50 ∷ 50 ∷ 0 ∷ 100 ∷ 0 ∷ [])
unfolding computed
more-quantities-no-contender c = c.within.1.1.1.1

pub fewer-quantities-no-contender : ¬ Contender shared_late [] (0 ∷ 0 ∷ 0 ∷ [])
unfolding computed
fewer-quantities-no-contender c = c.within.1.1.1

-- a child without its parent, though every hour balances and it keeps its limit
pub orphan-no-contender : ¬ Contender (family 4500 2900) (false ∷ true ∷ []) (100 ∷ 75 ∷ 100 ∷ 75 ∷ [])
unfolding computed
orphan-no-contender c = false≢true c.permitted

-- a child outside its own limit, though its parent keeps its own at the same prices of 3000
pub child-limit-missed-no-contender : ¬ Contender (family 2900 3001) (true ∷ true ∷ []) (100 ∷ 50 ∷ 100 ∷ 50 ∷ [])
unfolding computed
child-limit-missed-no-contender c = false≢true (rw prices-tested at c.limits)

-- WHAT IT MAY DO
-- a parent without its child, and both
pub parent-contends : Contender (family 2900 2900) (true ∷ false ∷ []) (100 ∷ 75 ∷ 100 ∷ 75 ∷ [])
unfolding computed
parent-contends = record {
  of_blocks = refl;
  permitted = refl;
  within = omega arith;
  balanced = each-hour _ (omega arith);
  limits = rw prices-tested refl;
}

pub family-contends : Contender (family 2900 2900) (true ∷ true ∷ []) (100 ∷ 50 ∷ 100 ∷ 50 ∷ [])
unfolding computed
family-contends = record {
  of_blocks = refl;
  permitted = refl;
  within = omega arith;
  balanced = each-hour _ (omega arith);
  limits = rw prices-tested refl;
}

-- the buy above the price not in full, the sell above it served, the sells at the price not in proportion
pub against-price-contends : Contender shared_late [] (20 ∷ 50 ∷ 10 ∷ 80 ∷ []) × (executed shared_late [] ≡ 50 ∷ 50 ∷ 0 ∷ 100 ∷ [])
unfolding computed executed
against-price-contends = (
  record {
    of_blocks = refl;
    permitted = refl;
    within = omega arith;
    balanced = each-hour _ (omega arith);
    limits = refl;
  },
  simp (executed, price-tested) refl,
)

-- trade that costs more than it brings
pub below-zero-contends : Contender apart [] (10 ∷ 10 ∷ []) × (day_value apart [] (10 ∷ 10 ∷ []) < day_cost apart [] (10 ∷ 10 ∷ []))
unfolding computed
below-zero-contends = (
  record {
    of_blocks = refl;
    permitted = refl;
    within = omega arith;
    balanced = each-hour _ (omega arith);
    limits = refl;
  },
  omega arith,
)

-- that buy block at 2500, its limit kept
pub buy-block-contends : Contender (late_buy 2500) (true ∷ []) (50 ∷ 50 ∷ [])
unfolding computed
buy-block-contends = record {
  of_blocks = refl;
  permitted = refl;
  within = omega arith;
  balanced = each-hour _ (omega arith);
  limits = rw prices-tested refl;
}

-- S5 with its block left out, though the prices under that set pay it
pub left-out-though-paid-contends : Contender s5 (false ∷ []) (100 ∷ 100 ∷ 100 ∷ 100 ∷ [])
    × (every_block (keeps_limit 24 (set_prices s5 [])) s5.blocks ≡ true)
unfolding computed
left-out-though-paid-contends = (
  record {
    of_blocks = refl;
    permitted = refl;
    within = omega arith;
    balanced = each-hour _ (omega arith);
    limits = refl;
  },
  rw prices-tested refl,
)

-- HOUR 3 ON A DAY OF 25 HOURS counts twice
-- in the limit: at prices 4000 and 3000 a sell block at 3333 keeps it, at 3334 it does not
pub autumn-limit-kept-contends : Contender (autumn 3333) (true ∷ []) (100 ∷ 50 ∷ 100 ∷ 50 ∷ [])
unfolding computed
autumn-limit-kept-contends = record {
  of_blocks = refl;
  permitted = refl;
  within = omega arith;
  balanced = each-hour _ (omega arith);
  limits = rw prices-tested refl;
}

pub autumn-limit-missed-no-contender : ¬ Contender (autumn 3334) (true ∷ []) (100 ∷ 50 ∷ 100 ∷ 50 ∷ [])
unfolding computed
autumn-limit-missed-no-contender c = false≢true (rw prices-tested at c.limits)

-- in the welfare: S5 moved to hours 2 and 3
pub autumn-taken-contends : Contender s5_autumn (true ∷ []) (100 ∷ 50 ∷ 100 ∷ 50 ∷ [])
unfolding computed
autumn-taken-contends = record {
  of_blocks = refl;
  permitted = refl;
  within = omega arith;
  balanced = each-hour _ (omega arith);
  limits = rw prices-tested refl;
}

pub autumn-taken-welfare : HasWelfare s5_autumn (true ∷ []) (100 ∷ 50 ∷ 100 ∷ 50 ∷ []) 615000
unfolding computed
autumn-taken-welfare = refl

-- HOUR 3 ON A DAY OF 23 HOURS needs no balance
-- a block that sells in it, where nobody buys: the set that takes it is lawful and contends
pub across-unbalanced : ¬ Balanced (hour_of (across 23) (taken (across 23).blocks (true ∷ [])) 3) (quantities_in 3 (across 23).steps (100 ∷ 50 ∷ 100 ∷ 50 ∷ []))
unfolding computed
across-unbalanced b = omega (arith, b)

pub across-lawful : lawful (across 23) (true ∷ []) ≡ true
unfolding computed lawful
across-lawful = rw (lawful, keeps_limits, prices-tested, clears-tested) refl

pub across-contends : Contender (across 23) (true ∷ []) (100 ∷ 50 ∷ 100 ∷ 50 ∷ [])
unfolding computed
across-contends = record {
  of_blocks = refl;
  permitted = refl;
  within = omega arith;
  balanced = each-counted _ _ (omega arith);
  limits = rw prices-tested refl;
}

-- on a day of 24 hours it is not, and does not, at whatever quantities
pub across-24-unlawful : lawful (across 24) (true ∷ []) ≡ false
unfolding computed lawful
across-24-unlawful = rw (lawful, keeps_limits, prices-tested, clears-tested) refl

pub across-24-no-contender : (quantities : List ℕ) → ¬ Contender (across 24) (true ∷ []) quantities
unfolding computed
across-24-no-contender quantities c = omega (arith, c.balanced 3 (hour-counts 3 refl))
