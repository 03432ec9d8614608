-- The two ends of an hour's clearing prices by bisection, and the hour's answer from them. Assumes nothing.
use Prim.Native.Nat.{ℕ, zero, suc, ◌+◌, ◌≤◌, ◌<◌}
use mathlib.Core.Path.{◌≡◌, refl}
use mathlib.Core.List.{List}
use native.Mathlib.Omega.{arith}
use native.Mathlib.Nat.{lt_of_not-le}
use native.Mathlib.Decide.{dec_le}
use Rattle.rules.specs.Orders.{Step, max_price}
use Rattle.rules.specs.Hour.{Hour, all_buys, all_sells, buys_above, sells_to, cleared, middle, pricing}
use Rattle.rules.specs.Contender.{PricesInRange}
use Rattle.rules.proofs.CurveLaws.{buys_above-falls, sells_to-rises, buys_from-suc, buys_from-one, buys_from-all, sells_to-all, sells_to-max, buys_above-max, sells_below-one}
use Rattle.rules.proofs.PricingLaws.{DemandMet, SupplyMet, supply-before, supply-down, Clearable, pricing-ends}
use Rattle.pricing.specs.Curves.{Covered, LeastCovered}

-- THE BISECTION between low and high
pub record Between (margin : ℕ) (hour : Hour) (low high : ℕ) : Type 0 where
  pub below : (q : ℕ) → 1 ≤ q → q < low → sells_to q hour.steps + hour.block_sales < buys_above q hour.steps + hour.block_buys + margin
  pub holds : high < max_price → Covered margin hour high

module _ (margin : ℕ) (hour : Hour) where
  pub between_start : Between margin hour 1 300000
  between_start = record { below = λ q a b. absurd (omega arith); holds = λ k. absurd (omega arith) }

  pub between-covered : (low high m : ℕ) → Between margin hour low high → Covered margin hour m → Between margin hour low m
  between-covered low high m b c = record { below = b.below; holds = λ _. c }

  pub between-not : (low high m : ℕ) → Between margin hour low high →
      sells_to m hour.steps + hour.block_sales < buys_above m hour.steps + hour.block_buys + margin → Between margin hour (m + 1) high
  between-not low high m b n = record {
    below = λ q i j.
        let le : q ≤ m = omega arith in
        omega (arith, buys_above-falls q m le hour.steps, sells_to-rises q m le hour.steps);
    holds = b.holds;
  }

  pub between_done : (low high : ℕ) → Between margin hour low high → 1 ≤ low → low ≤ high → high ≤ low → high ≤ max_price → LeastCovered margin hour low
  between_done low high b a le ge r =
      let e : low ≡ high = omega arith in
      record { positive = a; in_range = omega arith; below = b.below; holds = rw e b.holds }

-- ALL BUYS AND ALL SELLS are the totals at the ends of the price range
module _ (l : List Step) (r : PricesInRange l) where
  pub all-buys : buys_above 0 l ≡ all_buys l
  all-buys = omega (arith, buys_from-suc 0 l, buys_from-one l r, buys_from-all 1 l)

  pub all-sells : sells_to max_price l ≡ all_sells l
  all-sells = omega (arith, sells_to-max l r, sells_to-all max_price l)

-- THE ANSWER from the two ends: L covers with no margin, H with a margin of 1
module _ (hour : Hour) (r : PricesInRange hour.steps) (c : Clearable hour) where
  low-met : (low : ℕ) → LeastCovered 0 hour low → DemandMet hour low
  low-met low e = elim (dec_le max_price low) [
    | yes k ↦
        let z : low ≡ max_price = omega (arith, e.in_range) in
        rw z (omega (arith, c.sells_suffice, buys_above-max hour.steps r, sells_to-max hour.steps r))
    | no k ↦ omega (arith, e.holds (lt_of_not-le k))
  ]

  high-met : (high u : ℕ) → LeastCovered 1 hour high → u ≡ high → SupplyMet hour u
  high-met high zero e z = absurd (omega (arith, e.positive))
  high-met high (suc zero) e z = omega (arith, c.buys_suffice, sells_below-one hour.steps r, buys_from-one hour.steps r)
  high-met high (suc (suc u)) e z = (supply-before hour (suc u)).1 (omega (arith, e.below (suc u) (omega arith) (omega arith)))

  pub priced-by-ends : (low high : ℕ) → LeastCovered 0 hour low → LeastCovered 1 hour high → pricing hour ≡ cleared low high (middle low high)
  priced-by-ends low high el eh =
      pricing-ends hour r c low high el.positive eh.in_range (low-met low el)
      (λ q a d. elim (dec_le low q) [ yes k ↦ k | no k ↦ absurd (omega (arith, el.below q a (lt_of_not-le k))) ])
      (high-met high high eh refl)
      (λ q a s. elim (dec_le q high) [
        | yes k ↦ k
        | no k ↦
            let g : high < q = lt_of_not-le k in
            let s' = (supply-before hour high).0 (supply-down hour (suc high) q g s) in
            absurd (omega (arith, eh.holds (omega arith)))
      ])
