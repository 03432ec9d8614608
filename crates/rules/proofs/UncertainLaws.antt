-- P14: the least and greatest middle price over all quantities between are met at two corners, and no quantities between have a middle price outside
-- them. Assumes nothing.
use Prim.Native.Nat.{ℕ, zero, suc, ◌+◌, ◌-◌, ◌≤◌, ◌<◌, min, max}
use mathlib.Core.Bool.{Bool, true, false}
use mathlib.Core.Path.{◌≡◌, refl, ap, sym, ◌∙◌}
use mathlib.Core.List.{List, [], ◌∷◌}
use mathlib.Core.Logic.{◌⊎◌, inl, inr}
use native.Mathlib.Omega.{arith}
use native.Mathlib.Nat.{lt_of_not-le}
use native.Mathlib.Decide.{dec_le}
use lib.Dec.{ltb, leb}
use Rattle.rules.specs.Orders.{Side, buy, sell, max_price}
use Rattle.rules.specs.Hour.{by_side, when, buys_above, sells_to, pricing, answered_price, is_cleared}
use Rattle.rules.specs.Contender.{PricesInRange}
use Rattle.rules.specs.Uncertain.{
  UncertainStep,
  steps_at,
  hour_at,
  middle_price,
  over_numbers,
  over_quantities,
  least_price,
  greatest_price,
  Between,
  IsMet,
  IsLeastPrice,
  IsGreatestPrice,
  FiguresInRange,
  least_corner,
  greatest_corner,
}
use Rattle.rules.proofs.PricingLaws.{Clearable, Answer, answer, NoMoreExcess, price-not-higher}
use Rattle.rules.proofs.UncertainCases

-- OVER ALL QUANTITIES BETWEEN
-- where `pick` picks one of two, what is picked is met by some number ..
module _ (pick : ℕ → ℕ → ℕ) (one : (a b : ℕ) → (pick a b ≡ a) ⊎ (pick a b ≡ b)) where
  number-met : (low n : ℕ) (f : ℕ → ℕ) → (q : ℕ) × (low ≤ q) × (q ≤ low + n) × (f q ≡ over_numbers pick low n f)
  unfolding over_numbers
  number-met low zero f = (low, omega arith, omega arith, refl)
  number-met low (suc n) f = go (one (f low) (over_numbers pick (suc low) n f)) (number-met (suc low) n f)
    where
      go : (pick (f low) (over_numbers pick (suc low) n f) ≡ f low) ⊎ (pick (f low) (over_numbers pick (suc low) n f) ≡ over_numbers pick (suc low) n f)
          → (q : ℕ) × (suc low ≤ q) × (q ≤ suc low + n) × (f q ≡ over_numbers pick (suc low) n f)
          → (q : ℕ) × (low ≤ q) × (q ≤ low + suc n) × (f q ≡ pick (f low) (over_numbers pick (suc low) n f))
      go (inl e) later = (low, omega arith, omega arith, sym e)
      go (inr e) later = (later.0, omega (arith, later.1), omega (arith, later.2), later.3 ∙ sym e)

  -- .. and by some quantities
  quantities-met : (l : List UncertainStep) (f : List ℕ → ℕ) → FiguresInRange l
      → (quantities : List ℕ) × Between l quantities × (f quantities ≡ over_quantities pick l f)
  unfolding over_quantities
  quantities-met [] f r = ([], tt, refl)
  quantities-met (s ∷ l) f r =
      let first = number-met s.low (s.high - s.low) (λ q. over_quantities pick l (λ quantities. f (q ∷ quantities))) in
      let later = quantities-met l (λ quantities. f (first.0 ∷ quantities)) r.3 in
      (first.0 ∷ later.0, (first.1, omega (arith, first.2, r.2), later.1), later.2 ∙ first.3)

-- where it picks no more than either (`R` a b: a is no more than b), or no less, so do all
module _ (pick : ℕ → ℕ → ℕ) (R : ℕ → ℕ → Type 0) (self : (a : ℕ) → R a a) (left : (a b c : ℕ) → R a c → R (pick a b) c)
    (right : (a b c : ℕ) → R b c → R (pick a b) c) where
  number_bound : (low n : ℕ) (f : ℕ → ℕ) (q : ℕ) → low ≤ q → q ≤ low + n → (c : ℕ) → R (f q) c → R (over_numbers pick low n f) c
  unfolding over_numbers
  number_bound low zero f q a b c k = let e : q ≡ low = omega arith in rw e at k
  number_bound low (suc n) f q a b c k = elim (dec_le (suc low) q) [
    | yes h ↦ right (f low) (over_numbers pick (suc low) n f) c (number_bound (suc low) n f q h (omega arith) c k)
    | no h ↦
        let less : q < suc low = lt_of_not-le h in
        let e : q ≡ low = omega arith in
        left (f low) (over_numbers pick (suc low) n f) c (rw e at k)
  ]

  quantities-bound : (l : List UncertainStep) (f : List ℕ → ℕ) (quantities : List ℕ) → Between l quantities → R (over_quantities pick l f) (f quantities)
  unfolding over_quantities
  quantities-bound [] f [] k = self (f [])
  quantities-bound [] f (q ∷ quantities) k = absurd k
  quantities-bound (s ∷ l) f [] k = absurd k
  quantities-bound (s ∷ l) f (q ∷ quantities) k =
      number_bound s.low (s.high - s.low) (λ q. over_quantities pick l (λ quantities. f (q ∷ quantities))) q k.0 (omega (arith, k.0, k.1))
      (f (q ∷ quantities)) (quantities-bound l (λ quantities. f (q ∷ quantities)) quantities k.2)

-- THE LEAST AND THE GREATEST are met, and no quantities between have a middle price outside
least-one : (a b : ℕ) → (min a b ≡ a) ⊎ (min a b ≡ b)
least-one a b = elim (dec_le a b) [ yes h ↦ inl (omega arith) | no h ↦ let k : b < a = lt_of_not-le h in inr (omega arith) ]

greatest-one : (a b : ℕ) → (max a b ≡ a) ⊎ (max a b ≡ b)
greatest-one a b = elim (dec_le a b) [ yes h ↦ inr (omega arith) | no h ↦ let k : b < a = lt_of_not-le h in inl (omega arith) ]

abbrev NoMore : ℕ → ℕ → Type 0
NoMore a b = a ≤ b

abbrev NoLess : ℕ → ℕ → Type 0
NoLess a b = b ≤ a

pub least-price : (l : List UncertainStep) → FiguresInRange l → IsLeastPrice l (least_price l)
unfolding least_price
least-price l r =
    let m = quantities-met min least-one l (middle_price l) r in
    record {
      met = record { quantities = m.0; between = m.1; priced = m.2 };
      none_below = λ quantities k.
          quantities-bound min NoMore (λ a. omega arith) (λ a b c h. omega arith) (λ a b c h. omega arith) l (middle_price l) quantities k;
    }

pub greatest-price : (l : List UncertainStep) → FiguresInRange l → IsGreatestPrice l (greatest_price l)
unfolding greatest_price
greatest-price l r =
    let m = quantities-met max greatest-one l (middle_price l) r in
    record {
      met = record { quantities = m.0; between = m.1; priced = m.2 };
      none_above = λ quantities k.
          quantities-bound max NoLess (λ a. omega arith) (λ a b c h. omega arith) (λ a b c h. omega arith) l (middle_price l) quantities k;
    }

-- there is one least price and one greatest
pub one-least-price : (l : List UncertainStep) (p q : ℕ) → IsLeastPrice l p → IsLeastPrice l q → p ≡ q
one-least-price l p q a b =
    let x = a.none_below b.met.quantities b.met.between in
    let y = b.none_below a.met.quantities a.met.between in
    omega (arith, x, y, a.met.priced, b.met.priced)

pub one-greatest-price : (l : List UncertainStep) (p q : ℕ) → IsGreatestPrice l p → IsGreatestPrice l q → p ≡ q
one-greatest-price l p q a b =
    let x = a.none_above b.met.quantities b.met.between in
    let y = b.none_above a.met.quantities a.met.between in
    omega (arith, x, y, a.met.priced, b.met.priced)

-- AN HOUR WITHOUT BLOCKS ALWAYS CLEARS
pub prices-in-range : (l : List UncertainStep) (quantities : List ℕ) → FiguresInRange l → PricesInRange (steps_at l quantities)
unfolding steps_at
prices-in-range [] quantities r = tt
prices-in-range (s ∷ l) [] r = tt
prices-in-range (s ∷ l) (q ∷ quantities) r = (r.0, r.1, prices-in-range l quantities r.3)

always-clearable : (l : List UncertainStep) (quantities : List ℕ) → Clearable (hour_at l quantities)
always-clearable l quantities = record { buys_suffice = omega arith; sells_suffice = omega arith }

answered : (l : List UncertainStep) (quantities : List ℕ) → FiguresInRange l → Answer (hour_at l quantities)
answered l quantities r = answer (hour_at l quantities) (prices-in-range l quantities r) (always-clearable l quantities)

pub always-clears : (l : List UncertainStep) (quantities : List ℕ) → FiguresInRange l → is_cleared (pricing (hour_at l quantities)) ≡ true
always-clears l quantities r = ap is_cleared (answered l quantities r).is

-- FEWER BUYS, MORE SELLS, NO HIGHER PRICE
-- of two choices of quantities the second buys no more and sells no less
abbrev Cheaper : List UncertainStep → List ℕ → List ℕ → Type 0
Cheaper [] quantities others = Unit {0}
Cheaper (s ∷ l) [] others = ⊥
Cheaper (s ∷ l) (q ∷ quantities) [] = ⊥
Cheaper (s ∷ l) (q ∷ quantities) (o ∷ others) =
    (by_side s.side o 0 ≤ by_side s.side q 0) × (by_side s.side 0 q ≤ by_side s.side 0 o) × Cheaper l quantities others

when-rises : (t : Bool) (a b : ℕ) → a ≤ b → when t a ≤ when t b
when-rises true a b h = h
when-rises false a b h = omega arith

no-more-bought : (p : ℕ) (l : List UncertainStep) (quantities others : List ℕ) → Cheaper l quantities others
    → buys_above p (steps_at l others) ≤ buys_above p (steps_at l quantities)
unfolding buys_above steps_at
no-more-bought p [] quantities others k = omega arith
no-more-bought p (s ∷ l) [] others k = absurd k
no-more-bought p (s ∷ l) (q ∷ quantities) [] k = absurd k
no-more-bought p (s ∷ l) (q ∷ quantities) (o ∷ others) k =
    omega (arith, when-rises (ltb p s.price) (by_side s.side o 0) (by_side s.side q 0) k.0, no-more-bought p l quantities others k.2)

no-less-sold : (p : ℕ) (l : List UncertainStep) (quantities others : List ℕ) → Cheaper l quantities others
    → sells_to p (steps_at l quantities) ≤ sells_to p (steps_at l others)
unfolding sells_to steps_at
no-less-sold p [] quantities others k = omega arith
no-less-sold p (s ∷ l) [] others k = absurd k
no-less-sold p (s ∷ l) (q ∷ quantities) [] k = absurd k
no-less-sold p (s ∷ l) (q ∷ quantities) (o ∷ others) k =
    omega (arith, when-rises (leb s.price p) (by_side s.side 0 q) (by_side s.side 0 o) k.1, no-less-sold p l quantities others k.2)

-- M11, for the middle price
price-of : (l : List UncertainStep) (quantities : List ℕ) (r : FiguresInRange l) → middle_price l quantities ≡ (answered l quantities r).price
unfolding middle_price
price-of l quantities r = ap answered_price (answered l quantities r).is

pub cheaper-not-higher : (l : List UncertainStep) (quantities others : List ℕ) → FiguresInRange l → Cheaper l quantities others
    → middle_price l others ≤ middle_price l quantities
cheaper-not-higher l quantities others r k =
    let a = answered l quantities r in
    let b = answered l others r in
    let less : NoMoreExcess (hour_at l quantities) (hour_at l others) =
    λ p. omega (arith, no-more-bought p l quantities others k, no-less-sold p l quantities others k) in
    rw (price-of l quantities r, price-of l others r)
    (price-not-higher (hour_at l quantities) (hour_at l others) less a.low a.high a.price b.low b.high b.price a.says b.says)

-- THE CORNERS
-- are quantities between ..
corner-between : (side : Side) (low high : ℕ) → low ≤ high
    → ((low ≤ by_side side low high) × (by_side side low high ≤ high)) × ((low ≤ by_side side high low) × (by_side side high low ≤ high))
corner-between buy low high h = ((omega arith, h), (h, omega arith))
corner-between sell low high h = ((h, omega arith), (omega arith, h))

pub least-corner-between : (l : List UncertainStep) → FiguresInRange l → Between l (least_corner l)
unfolding least_corner
least-corner-between [] r = tt
least-corner-between (s ∷ l) r =
    let c = (corner-between s.side s.low s.high r.2).0 in (c.0, c.1, least-corner-between l r.3)

pub greatest-corner-between : (l : List UncertainStep) → FiguresInRange l → Between l (greatest_corner l)
unfolding greatest_corner
greatest-corner-between [] r = tt
greatest-corner-between (s ∷ l) r =
    let c = (corner-between s.side s.low s.high r.2).1 in (c.0, c.1, greatest-corner-between l r.3)

-- .. and of all those the one buys least and sells most, the other buys most and sells least
corner-cheaper : (side : Side) (low high q : ℕ) → low ≤ q → q ≤ high
    → ((by_side side (by_side side low high) 0 ≤ by_side side q 0) × (by_side side 0 q ≤ by_side side 0 (by_side side low high)))
    × ((by_side side q 0 ≤ by_side side (by_side side high low) 0) × (by_side side 0 (by_side side high low) ≤ by_side side 0 q))
corner-cheaper buy low high q a b = ((a, omega arith), (b, omega arith))
corner-cheaper sell low high q a b = ((omega arith, b), (omega arith, a))

least-corner-cheaper : (l : List UncertainStep) (quantities : List ℕ) → Between l quantities → Cheaper l quantities (least_corner l)
unfolding least_corner
least-corner-cheaper [] quantities k = tt
least-corner-cheaper (s ∷ l) [] k = absurd k
least-corner-cheaper (s ∷ l) (q ∷ quantities) k =
    let c = (corner-cheaper s.side s.low s.high q k.0 k.1).0 in (c.0, c.1, least-corner-cheaper l quantities k.2)

greatest-corner-dearer : (l : List UncertainStep) (quantities : List ℕ) → Between l quantities → Cheaper l (greatest_corner l) quantities
unfolding greatest_corner
greatest-corner-dearer [] quantities k = tt
greatest-corner-dearer (s ∷ l) [] k = absurd k
greatest-corner-dearer (s ∷ l) (q ∷ quantities) k =
    let c = (corner-cheaper s.side s.low s.high q k.0 k.1).1 in (c.0, c.1, greatest-corner-dearer l quantities k.2)

-- NO CHOICE OF QUANTITIES BETWEEN LOW AND HIGH HAS A MIDDLE PRICE OUTSIDE THE CORNERS', AND BOTH ENDS ARE MET BY SOME CHOICE, the corners
pub least-at-corner : (l : List UncertainStep) → FiguresInRange l → IsLeastPrice l (middle_price l (least_corner l))
least-at-corner l r = record {
  met = record { quantities = least_corner l; between = least-corner-between l r; priced = refl };
  none_below = λ quantities k. cheaper-not-higher l quantities (least_corner l) r (least-corner-cheaper l quantities k);
}

pub greatest-at-corner : (l : List UncertainStep) → FiguresInRange l → IsGreatestPrice l (middle_price l (greatest_corner l))
greatest-at-corner l r = record {
  met = record { quantities = greatest_corner l; between = greatest-corner-between l r; priced = refl };
  none_above = λ quantities k. cheaper-not-higher l (greatest_corner l) quantities r (greatest-corner-dearer l quantities k);
}

-- so the two prices of the definition are the corners'
pub least-price-corner : (l : List UncertainStep) → FiguresInRange l → least_price l ≡ middle_price l (least_corner l)
least-price-corner l r = one-least-price l _ _ (least-price l r) (least-at-corner l r)

pub greatest-price-corner : (l : List UncertainStep) → FiguresInRange l → greatest_price l ≡ middle_price l (greatest_corner l)
greatest-price-corner l r = one-greatest-price l _ _ (greatest-price l r) (greatest-at-corner l r)
