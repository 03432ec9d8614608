-- A TABLE OF PRICES over N, for one hour. The unit price of N is the least price that meets the demand; it never rises with N, L is that of N and H
-- that of N − 1: the least clearing price of N clears N + 1 too, and is its greatest. Assumes nothing.
use Prim.Native.Nat.{ℕ, zero, suc, ◌+◌, ◌≤◌, ◌<◌}
use mathlib.Core.Bool.{Bool, true, false}
use mathlib.Core.Path.{◌≡◌}
use mathlib.Core.List.{List}
use mathlib.Core.Option.{Option, none, some}
use native.Mathlib.Omega.{arith}
use native.Mathlib.Nat.{lt_of_not-le}
use native.Mathlib.Decide.{dec_le}
use lib.Dec.{leb}
use borrow.Author.Tests.{leb-true, leb-false}
use Rattle.rules.specs.Orders.{Step, max_price}
use Rattle.rules.specs.Hour.{Hour, buys_above, sells_to, least, Pricing, cleared, does_not_clear, pricing, answered_price}
use Rattle.rules.specs.Shift.{last_shift, shifted, shifted_price}
use Rattle.rules.specs.Contender.{PricesInRange}
use Rattle.rules.proofs.CurveLaws.{buys_above-max, sells_to-max}
use Rattle.rules.proofs.ShiftLaws.{shifted-ends}
use Rattle.rules.proofs.PricingLaws.{
  DemandMet,
  SupplyMet,
  Clears,
  demand-on,
  supply-down,
  supply-before,
  Clearable,
  LeastOf,
  least-is,
  Cleared,
  middle-clears,
  answer,
  net,
  pricing-net,
}

-- L, H AND THE PRICE of an hour, 0 where it does not clear
abbrev pub low_in : Pricing → ℕ
low_in (cleared low high price) = low
low_in does_not_clear = 0

abbrev pub high_in : Pricing → ℕ
high_in (cleared low high price) = high
high_in does_not_clear = 0

unfoldable pub low_of : Hour → ℕ
low_of h = low_in (pricing h)

unfoldable pub high_of : Hour → ℕ
high_of h = high_in (pricing h)

unfoldable pub price_of : Hour → ℕ
price_of h = answered_price (pricing h)

pub answered : (h : Hour) → PricesInRange h.steps → Clearable h → Cleared h (low_of h) (high_of h) (price_of h)
unfolding low_of high_of price_of
answered h r c = let a = answer h r c in rw a.is a.says

pub own-clears : (h : Hour) → PricesInRange h.steps → Clearable h → Clears h (price_of h)
own-clears h r c = middle-clears h (low_of h) (high_of h) (price_of h) (answered h r c)

-- N ALONE decides
module _ (l : List Step) (s b s' b' : ℕ) (same : s + b' ≡ s' + b) where
  pub high-net : high_of (net l s b) ≡ high_of (net l s' b')
  unfolding high_of
  high-net = rw (pricing-net l s b s' b' same)

  pub price-net : price_of (net l s b) ≡ price_of (net l s' b')
  unfolding price_of
  price-net = rw (pricing-net l s b s' b' same)

  pub clearable-net : Clearable (net l s b) → Clearable (net l s' b')
  clearable-net c = record { buys_suffice = omega (arith, c.buys_suffice); sells_suffice = omega (arith, c.sells_suffice) }

-- THE UNIT PRICE of an hour: the least price of 1 to 300000 that meets the demand; the greatest where none does. A table of it over N holds all of
-- L and H: L is the unit price of N, and H that of N − 1
unfoldable pub meets_demand : Hour → ℕ → Bool
meets_demand h p = leb (buys_above p h.steps + h.block_buys) (sells_to p h.steps + h.block_sales)

abbrev pub or_max : Option ℕ → ℕ
or_max none = max_price
or_max (some p) = p

unfoldable pub unit_price : Hour → ℕ
unit_price h = or_max (least (meets_demand h) max_price)

-- u is the first price that meets the demand, or the greatest
pub record FirstToMeet (h : Hour) (u : ℕ) : Type 0 where
  pub positive : 1 ≤ u
  pub in_range : u ≤ max_price
  pub meets : u < max_price → DemandMet h u
  pub first : (q : ℕ) → 1 ≤ q → q < u → DemandMet h q → ⊥

demand-met : (h : Hour) (q : ℕ) → meets_demand h q ≡ true → DemandMet h q
unfolding meets_demand
demand-met h q e = leb-true _ _ e

demand-fails : (h : Hour) (q : ℕ) → meets_demand h q ≡ false → DemandMet h q → ⊥
unfolding meets_demand
demand-fails h q e d = let k : sells_to q h.steps + h.block_sales < buys_above q h.steps + h.block_buys = leb-false _ _ e in omega arith

pub unit-first : (h : Hour) → FirstToMeet h (unit_price h)
unfolding unit_price
unit-first h = go (least (meets_demand h) max_price) (least-is (meets_demand h) max_price)
  where
    go : (o : Option ℕ) → LeastOf (meets_demand h) max_price o → FirstToMeet h (or_max o)
    go none t = record {
      positive = omega arith;
      in_range = omega arith;
      meets = λ k. absurd (omega arith);
      first = λ q i k. demand-fails h q (t q i (omega arith));
    }
    go (some u) t = record { positive = t.0; in_range = t.1; meets = λ k. demand-met h u t.2; first = λ q i k. demand-fails h q (t.3 q i k) }

-- by two tests on neighbouring prices: suc p meets the demand (or is the greatest price) and p does not
pub unit-is : (h : Hour) (p : ℕ) → suc p ≤ max_price → (suc p < max_price → DemandMet h (suc p)) → (1 ≤ p → DemandMet h p → ⊥) → unit_price h ≡ suc p
unit-is h p k d f =
    let u = unit-first h in
    elim (dec_le (unit_price h) p) [
      | yes le ↦ absurd (f (omega (arith, u.positive)) (demand-on h (unit_price h) p le (u.meets (omega arith))))
      | no gt ↦ elim (dec_le (unit_price h) (suc p)) [
        | yes le ↦ omega (arith, lt_of_not-le gt)
        | no more ↦
            let m : suc p < unit_price h = lt_of_not-le more in
            absurd (u.first (suc p) (omega arith) m (d (omega (arith, u.in_range))))
      ]
    ]

-- it does not rise with N, and depends on N alone
pub unit-falls : (l : List Step) (s b s' b' : ℕ) → s + b' ≤ s' + b → unit_price (net l s' b') ≤ unit_price (net l s b)
unit-falls l s b s' b' less =
    let u = unit-first (net l s b) in
    let u' = unit-first (net l s' b') in
    elim (dec_le (unit_price (net l s' b')) (unit_price (net l s b))) [
      | yes k ↦ k
      | no k ↦
          let met = u.meets (omega (arith, lt_of_not-le k, u'.in_range)) in
          absurd (u'.first (unit_price (net l s b)) u.positive (lt_of_not-le k) (omega arith))
    ]

pub unit-net : (l : List Step) (s b s' b' : ℕ) → s + b' ≡ s' + b → unit_price (net l s b) ≡ unit_price (net l s' b')
unit-net l s b s' b' same = omega (arith, unit-falls l s b s' b' (omega arith), unit-falls l s' b' s b (omega arith))

-- L is at most H, as a table of unit prices has them for N
pub unit-ordered : (l : List Step) (s b : ℕ) → unit_price (net l s b) ≤ unit_price (net l s (suc b))
unit-ordered l s b = unit-falls l s (suc b) s b (omega arith)

-- the price that such a table has for N at shift t; where the hour clears it is its price there
unfoldable pub table_price : ℕ → List Step → ℕ → ℕ → ℕ
table_price t l s b = shifted t (unit_price (net l s b)) (unit_price (net l s (suc b)))

pub table-falls : (t : ℕ) → t ≤ last_shift → (l : List Step) (s b s' b' : ℕ) → s + b' ≤ s' + b → table_price t l s' b' ≤ table_price t l s b
unfolding table_price
table-falls t k l s b s' b' less =
    shifted-ends t _ _ _ _ k (unit-ordered l s' b') (unit-ordered l s b) (unit-falls l s b s' b' less) (unit-falls l s (suc b) s' (suc b') (omega arith))

-- the greatest price meets the demand of a clearable hour
met-in-range : (h : Hour) → PricesInRange h.steps → Clearable h → (u : ℕ) → u ≤ max_price → (u < max_price → DemandMet h u) → DemandMet h u
met-in-range h r c u k f = elim (dec_le max_price u) [
  | yes top ↦
      let e : u ≡ max_price = omega arith in
      let d : DemandMet h max_price = omega (arith, c.sells_suffice, buys_above-max h.steps r, sells_to-max h.steps r) in
      rw e d
  | no below ↦ f (lt_of_not-le below)
]

-- L IS THE UNIT PRICE OF N, H THAT OF N − 1
pub unit-low : (h : Hour) → PricesInRange h.steps → Clearable h → low_of h ≡ unit_price h
unit-low h r c =
    let a = answered h r c in
    let u = unit-first h in
    elim (dec_le (unit_price h) (low_of h)) [
      | yes le ↦
          let k : Clears h (unit_price h) = record {
            demand_met = met-in-range h r c (unit_price h) u.in_range u.meets;
            supply_met = supply-down h (unit_price h) (low_of h) le a.low_clears.supply_met;
          } in
          omega (arith, a.ends (unit_price h) u.positive u.in_range k)
      | no gt ↦ absurd (u.first (low_of h) a.positive (lt_of_not-le gt) a.low_clears.demand_met)
    ]

module _ (l : List Step) (r : PricesInRange l) (s b : ℕ) (c : Clearable (net l (suc s) b)) where
  abbrev one_more : Hour
  one_more = net l (suc s) b

  -- what does not meet the demand of N does not exceed the supply of N + 1
  unit-supplied : (u : ℕ) → 1 ≤ u → ((q : ℕ) → 1 ≤ q → q < u → DemandMet (net l s b) q → ⊥) → SupplyMet (net l (suc s) b) u
  unit-supplied zero i f = absurd (omega arith)
  unit-supplied (suc zero) i f =
      let a = answered one_more r c in
      supply-down one_more 1 (low_of one_more) a.positive a.low_clears.supply_met
  unit-supplied (suc (suc q)) i f = elim (dec_le (buys_above (suc q) l + b) (sells_to (suc q) l + s)) [
    | yes met ↦ absurd (f (suc q) (omega arith) (omega arith) met)
    | no fails ↦ (supply-before one_more (suc q)).1 (omega (arith, lt_of_not-le fails))
  ]

  pub unit-clears-next : Clears (net l (suc s) b) (unit_price (net l s b))
  unit-clears-next =
      let u = unit-first (net l s b) in
      record {
        demand_met = met-in-range one_more r c (unit_price (net l s b)) u.in_range (λ k. omega (arith, u.meets k));
        supply_met = unit-supplied (unit_price (net l s b)) u.positive u.first;
      }

  pub unit-high : high_of (net l (suc s) b) ≡ unit_price (net l s b)
  unit-high =
      let a = answered one_more r c in
      let u = unit-first (net l s b) in
      elim (dec_le (high_of one_more) (unit_price (net l s b))) [
        | yes le ↦ omega (arith, a.ends (unit_price (net l s b)) u.positive u.in_range unit-clears-next)
        | no gt ↦
            let k : unit_price (net l s b) < high_of one_more = lt_of_not-le gt in
            let m = u.meets (omega (arith, a.in_range)) in
            let before = supply-down one_more (suc (unit_price (net l s b))) (high_of one_more) k a.high_clears.supply_met in
            absurd (omega (arith, (supply-before one_more (unit_price (net l s b))).0 before))
      ]

  -- ONE MORE UNIT, where N clears too: its L clears N + 1 and is the greatest price that does
  module _ (d : Clearable (net l s b)) where
    pub low-clears-next : Clears (net l (suc s) b) (low_of (net l s b))
    low-clears-next = rw (unit-low (net l s b) r d) unit-clears-next

-- H BY THE UNIT PRICE OF N − 1, written with one more unit bought
module _ (l : List Step) (r : PricesInRange l) (s b : ℕ) where
  pub unit-high-before : Clearable (net l s b) → high_of (net l s b) ≡ unit_price (net l s (suc b))
  unit-high-before c =
      rw (high-net l s b (suc s) (suc b) (omega arith))
      (unit-high l r s (suc b) (clearable-net l s b (suc s) (suc b) (omega arith) c))

  pub price-is-table : (t : ℕ) → Clearable (net l s b) → shifted_price t (pricing (net l s b)) ≡ table_price t l s b
  unfolding table_price low_of high_of
  price-is-table t c =
      rw (← (unit-low (net l s b) r c), ← (unit-high-before c)) (let a = answer (net l s b) r c in rw a.is)
