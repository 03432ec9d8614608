-- The totals of columns, one order at a time. Assumes nothing.
use Prim.Native.Nat.{ℕ, zero, suc, ◌+◌, ◌*◌, ◌^◌, ◌≤◌, ◌<◌}
use mathlib.Core.Path.{◌≡◌, refl, ◌∙◌}
use mathlib.Core.List.{List, [], ◌∷◌}
use native.Mathlib.Omega.{arith}
use native.Mathlib.Numerals.{add-one}
use mathlib.Core.Bool.{Bool, true, false, not, ◌&&◌}
use lib.Dec.{eqb, ltb, leb}
use Rattle.std.specs.Int.{from_bool}
use lib.ListN.{length, drop, get_or, drop_of_length-le}
use lib.Seq.{drop-cons}
use borrow.Author.Tests.{ne_eqb}
use Rattle.rules.specs.Orders.{Side, sell, Step}
use Rattle.rules.specs.Hour.{by_side, when, buys_above, sells_to}
use Rattle.rules.proofs.CurveLaws.{when-zero, when-le, by_side-le}
use Rattle.orders.specs.Columns.{side_for, steps_from}
use Rattle.pricing.specs.Curves.{Columns, QuantitiesInRange, TotalsOf}

-- A SIDE as a number: one that is not 0 sells
pub side-sell : (s : ℕ) → (s ≡ 0 → ⊥) → side_for s ≡ sell
side-sell zero h = absurd (h refl)
side-sell (suc s) h = refl

-- ONE ORDER: what is added to the buys over p, and to the sells up to t
-- the number of a test times a quantity is the quantity where the test passes, else 0
times-test : (t : Bool) (q : ℕ) → from_bool t * q ≡ when t q
times-test true q = omega arith
times-test false q = omega arith

module _ (p t x q a u : ℕ) where
  abbrev Added : Side → ℕ → ℕ → Type 0
  Added side a' u' = (a' ≡ a + when (ltb p x) (by_side side q 0)) × (u' ≡ u + when (leb x t) (by_side side 0 q))

  pub order-added : (s n m : ℕ) → n ≡ from_bool (eqb s 0 && ltb p x) → m ≡ from_bool (not (eqb s 0) && leb x t) →
      Added (side_for s) (a + n * q) (u + m * q)
  order-added zero n m en em = (rw (en, times-test (ltb p x) q), rw em (omega (arith, when-zero (leb x t))))
  order-added (suc s) n m en em =
      let sells : eqb (suc s) 0 ≡ false = ne_eqb (suc s) 0 (omega arith) in
      (rw (en, sells) (omega (arith, when-zero (ltb p x))), rw (em, sells, times-test (leb x t) q))

-- THE REST OF THE COLUMNS
abbrev pub rest_of : ℕ → List ℕ → List ℕ → List ℕ → ℕ → List Step
rest_of h sides prices quantities i = steps_from h (drop i sides) (drop i prices) (drop i quantities)

pub rest_more : (h : ℕ) (sides prices quantities : List ℕ) (i : ℕ) → length sides ≡ length prices → length sides ≡ length quantities → i < length sides →
    rest_of h sides prices quantities i
    ≡ record { hour = h; side = side_for (get_or sides i 0); price = get_or prices i 0; quantity = get_or quantities i 0 }
    ∷ rest_of h sides prices quantities (i + 1)
unfolding steps_from
rest_more h sides prices quantities i ep eq k =
    let kp : i < length prices = omega arith in
    let kq : i < length quantities = omega arith in
    rw (add-one, drop-cons sides i 0 k, drop-cons prices i 0 kp, drop-cons quantities i 0 kq)

pub rest_end : (h : ℕ) (sides prices quantities : List ℕ) (i : ℕ) → length sides ≤ i → rest_of h sides prices quantities i ≡ []
unfolding steps_from
rest_end h sides prices quantities i k = rw (drop_of_length-le sides k)

-- a step's part of the two totals
pub buys_above-more : (p : ℕ) (s : Step) (l : List Step) → buys_above p (s ∷ l) ≡ when (ltb p s.price) (by_side s.side s.quantity 0) + buys_above p l
unfolding buys_above
buys_above-more p s l = refl

pub sells_to-more : (p : ℕ) (s : Step) (l : List Step) → sells_to p (s ∷ l) ≡ when (leb s.price p) (by_side s.side 0 s.quantity) + sells_to p l
unfolding sells_to
sells_to-more p s l = refl

pub buys_above-none : (p : ℕ) → buys_above p [] ≡ 0
unfolding buys_above
buys_above-none p = refl

pub sells_to-none : (p : ℕ) → sells_to p [] ≡ 0
unfolding sells_to
sells_to-none p = refl

-- COUNTING: the totals so far and those of the rest are the whole
pub record Counted (sides prices quantities : List ℕ) (over to above upto i : ℕ) : Type 0 where
  pub inside : i ≤ length sides
  pub buys : (h : ℕ) → buys_above over (steps_from h sides prices quantities) ≡ above + buys_above over (rest_of h sides prices quantities i)
  pub sells : (h : ℕ) → sells_to to (steps_from h sides prices quantities) ≡ upto + sells_to to (rest_of h sides prices quantities i)
  pub above_fits : above ≤ i * 2 ^ 32
  pub upto_fits : upto ≤ i * 2 ^ 32
  pub above_small : QuantitiesInRange quantities → above ≤ i * 99999

pub counted_none : (sides prices quantities : List ℕ) (over to : ℕ) → Counted sides prices quantities over to 0 0 0
counted_none sides prices quantities over to =
    record {
      inside = omega arith;
      buys = λ h. omega arith;
      sells = λ h. omega arith;
      above_fits = omega arith;
      upto_fits = omega arith;
      above_small = λ small. omega arith;
    }

module _ (sides prices quantities : List ℕ) (columns : Columns sides prices quantities) (over to : ℕ) where
  more : (h i : ℕ) → i < length sides →
      rest_of h sides prices quantities i
      ≡ record { hour = h; side = side_for (get_or sides i 0); price = get_or prices i 0; quantity = get_or quantities i 0 }
      ∷ rest_of h sides prices quantities (i + 1)
  more h i k = rest_more h sides prices quantities i columns.as_many_prices columns.as_many_quantities k

  pub counted_next : (above upto above' upto' i : ℕ) → Counted sides prices quantities over to above upto i → i < length sides →
      get_or quantities i 0 < 2 ^ 32 →
      above' ≡ above + when (ltb over (get_or prices i 0)) (by_side (side_for (get_or sides i 0)) (get_or quantities i 0) 0) →
      upto' ≡ upto + when (leb (get_or prices i 0) to) (by_side (side_for (get_or sides i 0)) 0 (get_or quantities i 0)) →
      Counted sides prices quantities over to above' upto' (i + 1)
  counted_next above upto above' upto' i c k small ea eu =
      let q = get_or quantities i 0 in
      let side = side_for (get_or sides i 0) in
      record {
        inside = omega arith;
        buys = λ h. c.buys h ∙ rw (more h i k, buys_above-more) (omega arith);
        sells = λ h. c.sells h ∙ rw (more h i k, sells_to-more) (omega arith);
        above_fits = omega (arith, c.above_fits, when-le (ltb over (get_or prices i 0)) (by_side side q 0), by_side-le side q);
        upto_fits = omega (arith, c.upto_fits, when-le (leb (get_or prices i 0) to) (by_side side 0 q), by_side-le side q);
        above_small = λ f. omega (arith, c.above_small f, when-le (ltb over (get_or prices i 0)) (by_side side q 0), by_side-le side q, f i);
      }

  pub counted-all : (above upto i : ℕ) → Counted sides prices quantities over to above upto i → length sides ≤ i →
      TotalsOf sides prices quantities over to above upto
  counted-all above upto i c k = record {
    buys = λ h. let e = rw (rest_end h sides prices quantities i k, buys_above-none) at (c.buys h) in omega arith;
    sells = λ h. let e = rw (rest_end h sides prices quantities i k, sells_to-none) at (c.sells h) in omega arith;
    above_fits = omega (arith, c.above_fits, c.inside, columns.not_too_many);
    upto_fits = omega (arith, c.upto_fits, c.inside, columns.not_too_many);
    above_small = λ f. omega (arith, c.above_small f, c.inside, columns.not_too_many);
  }
