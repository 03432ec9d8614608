-- What quantities of steps are worth, one step at a time; and what an hour's steps get is within its columns. Assumes nothing.
use Prim.Native.Nat.{ℕ, zero, suc, ◌+◌, ◌*◌, ◌≤◌, ◌<◌}
use mathlib.Core.Path.{◌≡◌, refl, sym, ap, ◌∙◌}
use mathlib.Core.List.{List, [], ◌∷◌}
use native.Mathlib.Omega.{arith}
use native.Mathlib.Numerals.{add-one}
use native.Mathlib.Nat.{le_trans}
use lib.ListN.{length, drop, get_or}
use lib.Seq.{drop-cons}
use Rattle.rules.specs.Orders.{Step, Order, executed_of}
use Rattle.rules.specs.Hour.{by_side}
use Rattle.rules.specs.Execution.{execution}
use Rattle.rules.specs.Contender.{Each, Within}
use Rattle.rules.proofs.CurveLaws.{by_side-le}
use Rattle.rules.proofs.BoundsLaws.{product_le}
use Rattle.rules.proofs.DualityLaws.{value, cost}
use Rattle.rules.proofs.PricingLaws.{net}
use Rattle.rules.proofs.ExecutionLaws.{execution-within, execution-net}
use Rattle.orders.specs.Columns.{side_for, steps_from}
use Rattle.pricing.specs.Curves.{hour_with, Columns}
use Rattle.pricing.proofs.TotalsLaws.{rest_of, rest_more, rest_end}
use Rattle.places.specs.Hours.{Small}
use Rattle.shares.specs.Shares.{ExecutedOf}
use Rattle.clearing.specs.Publish.{SumsOf, HourDone}

-- an hour's columns with other values in place of the quantities
pub with-values : {sides prices quantities values : List ℕ} → Columns sides prices quantities → length sides ≡ length values → Columns sides prices values
with-values c e = record { as_many_prices = c.as_many_prices; as_many_quantities = e; not_too_many = c.not_too_many }

-- ALL STEPS: the sums so far and those of the rest are the whole
pub record Summing (sides prices values : List ℕ) (value-r cost-r i : ℕ) : Type 0 where
  pub inside : i ≤ length sides
  pub value_is : (h : ℕ) → value (steps_from h sides prices values) values ≡ value-r + value (rest_of h sides prices values i) (drop i values)
  pub cost_is : (h : ℕ) → cost (steps_from h sides prices values) values ≡ cost-r + cost (rest_of h sides prices values i) (drop i values)
  pub value_fits : value-r ≤ i * 29999700000
  pub cost_fits : cost-r ≤ i * 29999700000

pub summing-none : (sides prices values : List ℕ) → Summing sides prices values 0 0 0
summing-none sides prices values =
    record {
      inside = omega arith;
      value_is = λ h. omega arith;
      cost_is = λ h. omega arith;
      value_fits = omega arith;
      cost_fits = omega arith;
    }

value-more : (s : Step) (l : List Step) (q : ℕ) (qs : List ℕ) → value (s ∷ l) (q ∷ qs) ≡ by_side s.side (q * s.price) 0 + value l qs
unfolding value
value-more s l q qs = refl

cost-more : (s : Step) (l : List Step) (q : ℕ) (qs : List ℕ) → cost (s ∷ l) (q ∷ qs) ≡ by_side s.side 0 (q * s.price) + cost l qs
unfolding cost
cost-more s l q qs = refl

none : (qs : List ℕ) → (value [] qs ≡ 0) × (cost [] qs ≡ 0)
unfolding value cost
none qs = (refl, refl)

module _ (sides prices values : List ℕ) (columns : Columns sides prices values) where
  pub summing-next : (v c v' c' i : ℕ) → Small 300000 prices → Small 99999 values → Summing sides prices values v c i → i < length sides →
      let side = side_for (get_or sides i 0) in
      let w = get_or values i 0 * get_or prices i 0 in
      v' ≡ v + by_side side w 0 → c' ≡ c + by_side side 0 w → Summing sides prices values v' c' (i + 1)
  summing-next v c v' c' i sp sv s k ev ec =
      let q = get_or values i 0 in
      let side = side_for (get_or sides i 0) in
      let kv : i < length values = omega (arith, columns.as_many_quantities) in
      let more : (h : ℕ) → rest_of h sides prices values i
      ≡ record { hour = h; side = side; price = get_or prices i 0; quantity = q } ∷ rest_of h sides prices values (i + 1) =
      λ h. rest_more h sides prices values i columns.as_many_prices columns.as_many_quantities k in
      let most = product_le q (get_or prices i 0) 99999 300000 (sv i) (sp i) in
      record {
        inside = omega arith;
        value_is = λ h. s.value_is h ∙ rw (more h, drop-cons values i 0 kv, value-more, add-one i) (omega arith);
        cost_is = λ h. s.cost_is h ∙ rw (more h, drop-cons values i 0 kv, cost-more, add-one i) (omega arith);
        value_fits = omega (arith, s.value_fits, by_side-le side (q * get_or prices i 0));
        cost_fits = omega (arith, s.cost_fits, by_side-le side (q * get_or prices i 0));
      }

  pub summing-all : (v c i : ℕ) → Summing sides prices values v c i → length sides ≤ i → SumsOf sides prices values v c
  summing-all v c i s k =
      let n = none (drop i values) in
      record {
        value_is = λ h. let e = rw (rest_end h sides prices values i k) at (s.value_is h) in omega (arith, n);
        cost_is = λ h. let e = rw (rest_end h sides prices values i k) at (s.cost_is h) in omega (arith, n);
        value_fits = omega (arith, s.value_fits, s.inside, columns.not_too_many);
        cost_fits = omega (arith, s.cost_fits, s.inside, columns.not_too_many);
      }

-- THE STEPS' OWN QUANTITIES play no part in what other quantities are worth
module _ (h : ℕ) where
  own-none : (sides prices q r values : List ℕ) → length q ≡ length r →
      (value (steps_from h sides prices q) values ≡ value (steps_from h sides prices r) values)
      × (cost (steps_from h sides prices q) values ≡ cost (steps_from h sides prices r) values)
  unfolding value cost steps_from
  own-none [] prices q r values e = (refl, refl)
  own-none (s ∷ sides) [] q r values e = (refl, refl)
  own-none (s ∷ sides) (p ∷ prices) [] [] values e = (refl, refl)
  own-none (s ∷ sides) (p ∷ prices) [] (y ∷ r) values e = absurd (omega arith)
  own-none (s ∷ sides) (p ∷ prices) (x ∷ q) [] values e = absurd (omega arith)
  own-none (s ∷ sides) (p ∷ prices) (x ∷ q) (y ∷ r) [] e = (refl, refl)
  own-none (s ∷ sides) (p ∷ prices) (x ∷ q) (y ∷ r) (v ∷ values) e =
      let t = own-none sides prices q r values (omega arith) in (rw t.0, rw t.1)

-- AN HOUR: what its steps get is within their own quantities
within-own : (m h : ℕ) (sides prices quantities out : List ℕ) → Small m quantities → Each Within (steps_from h sides prices quantities) out → Small m out
unfolding steps_from
within-own m h [] prices quantities [] small e = λ i. omega arith
within-own m h [] prices quantities (v ∷ out) small e = absurd e
within-own m h (s ∷ sides) [] quantities [] small e = λ i. omega arith
within-own m h (s ∷ sides) [] quantities (v ∷ out) small e = absurd e
within-own m h (s ∷ sides) (p ∷ prices) [] [] small e = λ i. omega arith
within-own m h (s ∷ sides) (p ∷ prices) [] (v ∷ out) small e = absurd e
within-own m h (s ∷ sides) (p ∷ prices) (q ∷ quantities) [] small e = absurd e
within-own m h (s ∷ sides) (p ∷ prices) (q ∷ quantities) (v ∷ out) small e =
    at (within-own m h sides prices quantities out (λ j. small (suc j)) e.1)
  where
    at : Small m out → Small m (v ∷ out)
    at f zero = le_trans e.0 (small 0)
    at f (suc i) = f i

pub executed-small : (m : ℕ) (sides prices quantities out : List ℕ) (n price : ℕ) → ExecutedOf sides prices quantities n price out →
    Small m quantities → Small m out
executed-small m sides prices quantities out n price e small =
    within-own m 0 sides prices quantities out small (rw (e 0) (execution-within (hour_with 0 sides prices quantities n) price))

-- each order is its one step, and gets what this gets
pub one_each : (orders : List Order) {quantities : List ℕ} → executed_of orders quantities ≡ quantities
unfolding executed_of
one_each orders = refl

-- an hour is done by its amounts, its shares and its sums
pub hour-done : (sides prices quantities out : List ℕ) (sales purchases n price value-r cost-r : ℕ) →
    length quantities ≡ length out → n + purchases ≡ 2097152 + sales → ExecutedOf sides prices quantities n price out →
    SumsOf sides prices out value-r cost-r → HourDone sides prices quantities sales purchases price out value-r cost-r
hour-done sides prices quantities out sales purchases n price value-r cost-r same e x s =
    record {
      gets = λ h orders stand. got h ∙ rw (one_each orders, stand);
      value_is = λ h. s.value_is h ∙ sym (own-none h sides prices quantities out out same).0 ∙ ap (value (steps_from h sides prices quantities)) (got h);
      cost_is = λ h. s.cost_is h ∙ sym (own-none h sides prices quantities out out same).1 ∙ ap (cost (steps_from h sides prices quantities)) (got h);
      value_fits = s.value_fits;
      cost_fits = s.cost_fits;
    }
  where
    got : (h : ℕ) → out ≡ execution (net (steps_from h sides prices quantities) sales purchases) price
    got h = x h ∙ execution-net (steps_from h sides prices quantities) n 2097152 sales purchases (omega arith) price
