-- THE OUTCOME RULES BY EXAMPLE, from their statement alone: one outcome, with a sell block and a buy block taken, keeps them all; for each rule there is
-- an outcome that breaks it, and no other rule where that is possible. Assumes nothing.
-- (Laws of the same definitions import it, so that a wrong one is met here first.)
use Prim.Native.Nat.{ℕ, ◌*◌, ◌≤◌}
use mathlib.Core.Bool.{true, false≢true}
use mathlib.Core.Path.{◌≡◌, refl, ap}
use mathlib.Core.List.{List, [], ◌∷◌}
use mathlib.Core.Option.{Option, none, some}
use native.Mathlib.Omega.{arith}
use lib.Dec.{leb}
use borrow.Author.Tests.{lt-ltb}
use Rattle.rules.specs.Orders.{buy, sell, Block, max_price, canonical}
use Rattle.rules.specs.Hour.{Hour, clears, least, does_not_clear, pricing, is_cleared, answered_price}
use Rattle.rules.specs.Day.{day_of, each_on_day, weight, every_hour, taken, hour_of, set_prices}
use Rattle.rules.specs.Contender.{Counts}
use Rattle.rules.specs.Cases.{
  Case,
  Obeys,
  Breaks,
  rules,
  broken,
  keeping,
  Marked,
  right,
  off_middle_between,
  off_middle,
  worse_sell_served,
  worse_buy_served,
  better_sell_cut,
  better_buy_cut,
  more_at_price,
  more_than_own,
  sell_block_outside,
  buy_block_outside,
  unbalanced,
  block_unmet,
  one_too_many,
  buy_block_forgotten,
  nobody_sells,
  sold_at_nothing,
  across_taken,
}
use Rattle.rules.proofs.CurveLaws.{when-zero}
use Rattle.rules.proofs.PricingLaws.{Clears, clears-means, LeastOf, least-is}
use Rattle.rules.proofs.HourSums.{every_hour-at, HourByHour, each-hour, each-counted}
use Rattle.rules.proofs.OffMiddle.{off-middle-between}
use Rattle.rules.proofs.CertifiedHours.{computed, tested, tested-is, tested_prices, price-tested, hour-counts}

-- EACH RULE BROKEN
pub off-middle : Breaks off_middle (λ o. o.set_price)
unfolding computed
off-middle middle = omega (arith, rw price-tested at (middle 1 (hour-counts 1 refl)))

pub worse-sell-served : Breaks worse_sell_served (λ o. o.sells_above)
unfolding computed
worse-sell-served nothing = omega (arith, nothing.1.1.0 refl (omega arith))

pub worse-buy-served : Breaks worse_buy_served (λ o. o.buys_below)
unfolding computed
worse-buy-served nothing = omega (arith, nothing.1.1.1.1.1.1.0 refl (omega arith))

pub better-sell-cut : Breaks better_sell_cut (λ o. o.sells_below)
unfolding computed
better-sell-cut full = omega (arith, full.1.1.1.1.1.1.1.0 refl (omega arith))

pub better-buy-cut : Breaks better_buy_cut (λ o. o.buys_above)
unfolding computed
better-buy-cut full = omega (arith, full.1.1.1.0 refl (omega arith))

pub more-at-price : Breaks more_at_price (λ o. o.at_price)
unfolding computed
more-at-price most = omega (arith, most.0 refl)

pub more-than-own : Breaks more_than_own (λ o. o.not_more)
unfolding computed
more-than-own most = omega (arith, most.1.1.1.0)

pub sell-block-outside : Breaks sell_block_outside (λ o. o.block_sells)
unfolding computed
sell-block-outside limit = omega (arith, limit.0 refl)

pub buy-block-outside : Breaks buy_block_outside (λ o. o.block_buys)
unfolding computed
buy-block-outside limit = omega (arith, limit.1.0 refl)

pub hour-unbalanced : Breaks unbalanced (λ o. o.balanced)
unfolding computed
hour-unbalanced balance = omega (arith, balance 24 (hour-counts 24 refl))

pub block-unmet : Breaks block_unmet (λ o. o.balanced)
unfolding computed
block-unmet balance = omega (arith, balance 1 (hour-counts 1 refl))

pub one-too-many : Breaks one_too_many (λ o. o.traded_buys)
unfolding computed
one-too-many buys = omega (arith, buys 24 (hour-counts 24 refl))

pub buy-block-forgotten : Breaks buy_block_forgotten (λ o. o.traded_buys)
unfolding computed
buy-block-forgotten buys = omega (arith, buys 1 (hour-counts 1 refl))

pub nobody-sells : Breaks nobody_sells (λ o. o.clears_all)
unfolding computed
nobody-sells all = false≢true (rw tested-is at (all 1 (hour-counts 1 refl)))

-- an hour with a sell at 0 alone: at every price that sell is below it, and nobody buys
nothing_hour : Hour
nothing_hour = hour_of sold_at_nothing.day [] 24

not-cleared : (p : ℕ) → 1 ≤ p → ¬ Clears nothing_hour p
unfolding computed nothing_hour
not-cleared p k c = omega (arith, rw (lt-ltb 0 p k, when-zero (leb p 0)) at c.supply_met)

no-least : (o : Option ℕ) → LeastOf (clears nothing_hour) max_price o → o ≡ none
no-least none s = refl
no-least (some p) s = absurd (not-cleared p s.0 (clears-means nothing_hour p s.2))

no-price : pricing nothing_hour ≡ does_not_clear
unfolding pricing
no-price = rw (no-least (least (clears nothing_hour) max_price) (least-is (clears nothing_hour) max_price))

pub sold-at-nothing : Breaks sold_at_nothing (λ o. o.clears_all)
unfolding day_of each_on_day canonical weight nothing_hour
sold-at-nothing all = false≢true (rw no-price at (all 24 (hour-counts 24 refl)))

-- ALL RULES KEPT
-- the hours of a case clear, and their prices are the set's, where the tested ones do and are
abbrev hour_in : Case → ℕ → Hour
hour_in c h = hour_of c.day (taken c.day.blocks c.set) h

all-clear : (c : Case) → every_hour c.day.hours (λ h. is_cleared (tested (hour_in c h))) ≡ true →
    (h : ℕ) → Counts c.day.hours h → is_cleared (pricing (hour_in c h)) ≡ true
all-clear c e h k = rw tested-is (every_hour-at c.day.hours (λ h. is_cleared (tested (hour_in c h))) e h k)

abbrev set_of : Case → List Block
set_of c = taken c.day.blocks c.set

all_middle : (c : Case) → HourByHour 24 (λ h. c.price h ≡ tested_prices c.day (set_of c) h) →
    (h : ℕ) → Counts c.day.hours h → c.price h ≡ set_prices c.day (taken c.day.blocks c.set) h
all_middle c e h k = rw price-tested (each-hour (λ h. c.price h ≡ tested_prices c.day (set_of c) h) e h k)

-- a buy is no sell
buy-no-sell : buy ≡ sell → 1 ≤ 0
buy-no-sell e = let z : ◌≡◌ {A = ℕ} 0 1 = cc in omega arith

sell-no-buy : sell ≡ buy → 1 ≤ 0
sell-no-buy e = let z : ◌≡◌ {A = ℕ} 0 1 = cc in omega arith

ruleset sides = (arith, buy-no-sell, sell-no-buy)

-- an outcome with a sell block and a buy block taken keeps all rules
pub right-obeys : Obeys right
unfolding computed
right-obeys = record {
  clears_all = all-clear right refl;
  set_price = all_middle right (omega arith);
  sells_above = omega sides;
  buys_below = omega sides;
  sells_below = omega sides;
  buys_above = omega sides;
  at_price = omega arith;
  block_sells = omega sides;
  block_buys = omega sides;
  not_more = omega arith;
  balanced = each-hour _ (omega arith);
  traded_buys = each-hour _ (omega arith);
}

-- on a day of 23 hours hour 3 needs neither a price nor balance: an outcome that sells in it where nobody buys
all-middle-counted : (c : Case) →
    HourByHour 24 (λ h. weight c.day.hours h * c.price h ≡ weight c.day.hours h * tested_prices c.day (set_of c) h) →
    (h : ℕ) → Counts c.day.hours h → c.price h ≡ set_prices c.day (taken c.day.blocks c.set) h
all-middle-counted c e h k = rw price-tested (each-counted (λ h. c.price h) (tested_prices c.day (set_of c)) e h k)

pub across-obeys : Obeys (across_taken 23)
unfolding computed
across-obeys = record {
  clears_all = all-clear (across_taken 23) refl;
  set_price = all-middle-counted (across_taken 23) (omega arith);
  sells_above = omega sides;
  buys_below = omega sides;
  sells_below = omega sides;
  buys_above = omega sides;
  at_price = omega arith;
  block_sells = omega sides;
  block_buys = omega sides;
  not_more = omega arith;
  balanced = each-counted _ _ (omega arith);
  traded_buys = each-hour _ (omega arith);
}

-- on a day of 24 it does: there the outcome breaks both rules
pub across-24-unbalanced : Breaks (across_taken 24) (λ o. o.balanced)
unfolding computed
across-24-unbalanced balance = omega (arith, balance 3 (hour-counts 3 refl))

pub across-24-unclear : Breaks (across_taken 24) (λ o. o.clears_all)
unfolding computed
across-24-unclear all = false≢true (rw tested-is at (all 3 (hour-counts 3 refl)))

-- RULE BY RULE: each wrong outcome breaks its rule and keeps the others, where that is possible
row : {A B C D E F G H I J K L : Type 0} → A → B → C → D → E → F → G → H → I → J → K → L →
    A × (B × (C × (D × (E × (F × (G × (H × (I × (J × (K × (L × Unit {0})))))))))))
row a b c d e f g h i j k l = (a, (b, (c, (d, (e, (f, (g, (h, (i, (j, (k, (l, tt))))))))))))

pub off-middle-between-row : Marked (keeping 1 (broken ∷ keeping 10 [])) (rules off_middle_between)
unfolding computed
off-middle-between-row =
    row (all-clear off_middle_between refl) off-middle-between
    (omega sides) (omega sides) (omega sides) (omega sides) (omega sides) (omega sides) (omega sides) (omega sides)
    (each-hour _ (omega arith)) (each-hour _ (omega arith))

pub off-middle-row : Marked (keeping 1 (broken ∷ keeping 10 [])) (rules off_middle)
unfolding computed
off-middle-row =
    row (all-clear off_middle refl) off-middle
    (omega sides) (omega sides) (omega sides) (omega sides) (omega sides) (omega sides) (omega sides) (omega sides)
    (each-hour _ (omega arith)) (each-hour _ (omega arith))

pub worse-sell-served-row : Marked (keeping 2 (broken ∷ keeping 9 [])) (rules worse_sell_served)
unfolding computed
worse-sell-served-row =
    row (all-clear worse_sell_served refl) (all_middle worse_sell_served (omega arith))
    worse-sell-served (omega sides) (omega sides) (omega sides) (omega sides) (omega sides) (omega sides) (omega sides)
    (each-hour _ (omega arith)) (each-hour _ (omega arith))

pub worse-buy-served-row : Marked (keeping 3 (broken ∷ keeping 8 [])) (rules worse_buy_served)
unfolding computed
worse-buy-served-row =
    row (all-clear worse_buy_served refl) (all_middle worse_buy_served (omega arith))
    (omega sides) worse-buy-served (omega sides) (omega sides) (omega sides) (omega sides) (omega sides) (omega sides)
    (each-hour _ (omega arith)) (each-hour _ (omega arith))

pub better-sell-cut-row : Marked (keeping 4 (broken ∷ keeping 7 [])) (rules better_sell_cut)
unfolding computed
better-sell-cut-row =
    row (all-clear better_sell_cut refl) (all_middle better_sell_cut (omega arith))
    (omega sides) (omega sides) better-sell-cut (omega sides) (omega sides) (omega sides) (omega sides) (omega sides)
    (each-hour _ (omega arith)) (each-hour _ (omega arith))

pub better-buy-cut-row : Marked (keeping 5 (broken ∷ keeping 6 [])) (rules better_buy_cut)
unfolding computed
better-buy-cut-row =
    row (all-clear better_buy_cut refl) (all_middle better_buy_cut (omega arith))
    (omega sides) (omega sides) (omega sides) better-buy-cut (omega sides) (omega sides) (omega sides) (omega sides)
    (each-hour _ (omega arith)) (each-hour _ (omega arith))

pub sell-block-outside-row : Marked (keeping 7 (broken ∷ keeping 4 [])) (rules sell_block_outside)
unfolding computed
sell-block-outside-row =
    row (all-clear sell_block_outside refl) (all_middle sell_block_outside (omega arith))
    (omega sides) (omega sides) (omega sides) (omega sides) (omega sides) sell-block-outside (omega sides) (omega sides)
    (each-hour _ (omega arith)) (each-hour _ (omega arith))

pub buy-block-outside-row : Marked (keeping 8 (broken ∷ keeping 3 [])) (rules buy_block_outside)
unfolding computed
buy-block-outside-row =
    row (all-clear buy_block_outside refl) (all_middle buy_block_outside (omega arith))
    (omega sides) (omega sides) (omega sides) (omega sides) (omega sides) (omega sides) buy-block-outside (omega sides)
    (each-hour _ (omega arith)) (each-hour _ (omega arith))

pub hour-unbalanced-row : Marked (keeping 10 (broken ∷ keeping 1 [])) (rules unbalanced)
unfolding computed
hour-unbalanced-row =
    row (all-clear unbalanced refl) (all_middle unbalanced (omega arith))
    (omega sides) (omega sides) (omega sides) (omega sides) (omega sides) (omega sides) (omega sides) (omega sides)
    hour-unbalanced (each-hour _ (omega arith))

pub block-unmet-row : Marked (keeping 10 (broken ∷ keeping 1 [])) (rules block_unmet)
unfolding computed
block-unmet-row =
    row (all-clear block_unmet refl) (all_middle block_unmet (omega arith))
    (omega sides) (omega sides) (omega sides) (omega sides) (omega sides) (omega sides) (omega sides) (omega sides)
    block-unmet (each-hour _ (omega arith))

pub one-too-many-row : Marked (keeping 11 (broken ∷ [])) (rules one_too_many)
unfolding computed
one-too-many-row =
    row (all-clear one_too_many refl) (all_middle one_too_many (omega arith))
    (omega sides) (omega sides) (omega sides) (omega sides) (omega sides) (omega sides) (omega sides) (omega sides)
    (each-hour _ (omega arith)) one-too-many

pub buy-block-forgotten-row : Marked (keeping 11 (broken ∷ [])) (rules buy_block_forgotten)
unfolding computed
buy-block-forgotten-row =
    row (all-clear buy_block_forgotten refl) (all_middle buy_block_forgotten (omega arith))
    (omega sides) (omega sides) (omega sides) (omega sides) (omega sides) (omega sides) (omega sides) (omega sides)
    (each-hour _ (omega arith)) buy-block-forgotten

-- `at_price` says of the steps at the price what `not_more` says of all: it is not broken alone
pub more-at-price-row : Marked (keeping 6 (broken ∷ keeping 2 (broken ∷ keeping 2 []))) (rules more_at_price)
unfolding computed
more-at-price-row =
    row (all-clear more_at_price refl) (all_middle more_at_price (omega arith))
    (omega sides) (omega sides) (omega sides) (omega sides) more-at-price (omega sides) (omega sides) (λ most. omega (arith, most.0))
    (each-hour _ (omega arith)) (each-hour _ (omega arith))

-- nor is `not_more`: of a step that is not at the price, "in full" or "not executed" is broken too
pub more-than-own-row : Marked (keeping 5 (broken ∷ keeping 3 (broken ∷ keeping 2 []))) (rules more_than_own)
unfolding computed
more-than-own-row =
    row (all-clear more_than_own refl) (all_middle more_than_own (omega arith))
    (omega sides) (omega sides) (omega sides) (λ full. omega (arith, full.1.1.1.0 refl (omega arith)))
    (omega sides) (omega sides) (omega sides) more-than-own
    (each-hour _ (omega arith)) (each-hour _ (omega arith))

-- where step prices are in range, an hour that does not clear is not in balance either
pub nobody-sells-row : Marked (broken ∷ keeping 9 (broken ∷ keeping 1 [])) (rules nobody_sells)
unfolding computed
nobody-sells-row =
    row nobody-sells (all_middle nobody_sells (omega arith))
    (omega sides) (omega sides) (omega sides) (omega sides) (omega sides) (omega sides) (omega sides) (omega sides)
    (λ balance. omega (arith, balance 1 (hour-counts 1 refl))) (each-hour _ (omega arith))

-- with a step out of range it can be
pub sold-at-nothing-row : Marked (broken ∷ keeping 11 []) (rules sold_at_nothing)
unfolding computed nothing_hour
sold-at-nothing-row =
    row sold-at-nothing (all_middle sold_at_nothing (omega (arith, ap answered_price no-price)))
    (omega sides) (omega sides) (omega sides) (omega sides) (omega sides) (omega sides) (omega sides) (omega sides)
    (each-hour _ (omega arith)) (each-hour _ (omega arith))

-- NONE OF THEM OBEYS
pub wrong-outcomes-refused : (¬ Obeys off_middle_between) × (¬ Obeys off_middle) × (¬ Obeys worse_sell_served) × (¬ Obeys worse_buy_served) × (¬ Obeys better_sell_cut)
    × (¬ Obeys better_buy_cut) × (¬ Obeys more_at_price) × (¬ Obeys more_than_own) × (¬ Obeys sell_block_outside) × (¬ Obeys buy_block_outside)
    × (¬ Obeys unbalanced) × (¬ Obeys block_unmet) × (¬ Obeys one_too_many) × (¬ Obeys buy_block_forgotten) × (¬ Obeys nobody_sells)
    × (¬ Obeys sold_at_nothing)
wrong-outcomes-refused = (
  λ o. off-middle-between o.set_price,
  λ o. off-middle o.set_price,
  λ o. worse-sell-served o.sells_above,
  λ o. worse-buy-served o.buys_below,
  λ o. better-sell-cut o.sells_below,
  λ o. better-buy-cut o.buys_above,
  λ o. more-at-price o.at_price,
  λ o. more-than-own o.not_more,
  λ o. sell-block-outside o.block_sells,
  λ o. buy-block-outside o.block_buys,
  λ o. hour-unbalanced o.balanced,
  λ o. block-unmet o.balanced,
  λ o. one-too-many o.traded_buys,
  λ o. buy-block-forgotten o.traded_buys,
  λ o. nobody-sells o.clears_all,
  λ o. sold-at-nothing o.clears_all,
)
