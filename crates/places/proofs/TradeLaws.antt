-- What a set's blocks sell and buy, block by block, and what is traded, hour by hour. Assumes nothing.
use Prim.Native.Nat.{ℕ, suc, ◌+◌, ◌-◌, ◌*◌, ◌≤◌, ◌<◌, min}
use mathlib.Core.Path.{◌≡◌, refl, ◌∙◌}
use mathlib.Core.List.{List}
use mathlib.Core.Bool.{Bool}
use native.Mathlib.Omega.{arith}
use native.Mathlib.Numerals.{add-one}
use lib.ListN.{length, get_or, set, replicate, length-set}
use lib.Seq.{get_or-set_same, get_or-set_other}
use Rattle.rules.specs.Orders.{Step}
use Rattle.rules.specs.Hour.{when, buys_from, sells_to}
use Rattle.rules.proofs.CurveLaws.{when-le}
use Rattle.orders.specs.HourSteps.{hour_range}
use Rattle.pricing.specs.Curves.{TradedAt}
use Rattle.places.specs.Layout.{hour_places, most_added}
use Rattle.places.specs.Hours.{Small, of_hour}
use Rattle.places.specs.Blocks.{row_quantity, added_in, sells_in, buys_in}
use Rattle.places.specs.Steps.{steps_at, HoursTraded}
use Rattle.orders.proofs.ColumnLaws.{zeros}
use Rattle.places.proofs.NumberLaws.{below_next}
use Rattle.places.proofs.StepLaws.{steps_next, mid-slice}
use Rattle.places.proofs.AddedLaws.{places-grow, added_more}

-- the hours one after the other
module _ (steps : ℕ → List Step) (sales purchases prices : List ℕ) where
  abbrev TradedHere : ℕ → ℕ → Type 0
  TradedHere k v =
      1 ≤ get_or prices k 0 →
      v ≡ min (buys_from (get_or prices k 0) (steps (suc k)) + get_or purchases k 0) (sells_to (get_or prices k 0) (steps (suc k)) + get_or sales k 0)

  pub record TradedTo (h : ℕ) (quantities : List ℕ) : Type 0 where
    pub inside : h ≤ hour_places
    pub size : length quantities ≡ hour_places
    pub done : (k : ℕ) → k < h → TradedHere k (get_or quantities k 0)

  pub traded-start : TradedTo 0 (replicate hour_places 0)
  traded-start = record { inside = omega arith; size = refl; done = λ k a. absurd (omega arith) }

  pub traded-next : (h : ℕ) (quantities : List ℕ) (v : ℕ) → TradedTo h quantities → h < hour_places → TradedHere h v → TradedTo (h + 1) (set quantities h v)
  traded-next h quantities v t k is =
      let inside : h < length quantities = omega (arith, t.size) in
      record {
        inside = omega arith;
        size = rw length-set t.size;
        done = λ j a. below_next (λ i. TradedHere i (get_or (set quantities h v) i 0)) h j
            (λ b. rw (get_or-set_other quantities h j v 0 (omega arith)) (t.done j b))
            (rw (get_or-set_same quantities h v 0 inside) is) (rw add-one at a);
      }

  pub traded-all : (h : ℕ) (quantities : List ℕ) → TradedTo h quantities → hour_places ≤ h → HoursTraded steps sales purchases prices quantities
  traded-all h quantities t k j a b =
      let e : h ≡ hour_places = omega (arith, t.inside) in
      let one : suc (j - 1) ≡ j = omega arith in
      rw one at (t.done (j - 1) (omega arith))

-- an hour's part of the columns is its steps
pub hour-of-columns : (ends sides prices quantities : List ℕ) (h sales purchases price v : ℕ) → get_or ends h 0 ≤ get_or ends (h + 1) 0 →
    TradedAt (hour_range ends sides h) (hour_range ends prices h) (hour_range ends quantities h) sales purchases price v → 1 ≤ price →
    v ≡ min (buys_from price (steps_at ends sides prices quantities (suc h)) + purchases) (sells_to price (steps_at ends sides prices quantities (suc h)) + sales)
hour-of-columns ends sides prices quantities h sales purchases price v rise t pos =
    let from = get_or ends h 0 in
    let to = get_or ends (h + 1) 0 in
    t (h + 1) pos
    ∙ rw (← (add-one h), steps_next ends sides prices quantities h, mid-slice from to sides rise, mid-slice from to prices rise, mid-slice from to quantities rise)

-- WHAT THE SET'S BLOCKS SELL AND BUY, from the last block on
module _ (blocks : List ℕ) (count chosen : ℕ) where
  pub record TradesTo (i : ℕ) (sales purchases : List ℕ) : Type 0 where
    pub inside : i ≤ count
    pub sales_are : (h : ℕ) → 1 ≤ h → h ≤ hour_places → of_hour sales h ≡ added_in blocks (sells_in blocks chosen) h (count - i) i
    pub purchases_are : (h : ℕ) → 1 ≤ h → h ≤ hour_places → of_hour purchases h ≡ added_in blocks (buys_in blocks chosen) h (count - i) i
    pub sales_fit : Small ((count - i) * most_added) sales
    pub purchases_fit : Small ((count - i) * most_added) purchases

  pub trades-start : TradesTo count (replicate hour_places 0) (replicate hour_places 0)
  unfolding added_in
  trades-start =
      let none : count - count ≡ 0 = omega arith in
      record {
        inside = omega arith;
        sales_are = λ h a b. rw none (zeros hour_places (h - 1));
        purchases_are = λ h a b. rw none (zeros hour_places (h - 1));
        sales_fit = λ j. omega (arith, zeros hour_places j);
        purchases_fit = λ j. omega (arith, zeros hour_places j);
      }

  -- a list with block i - 1 added where a test passes
  abbrev AddedBy : ℕ → Bool → List ℕ → List ℕ → Type 0
  AddedBy i test l r = (length r ≡ hour_places) × ((h : ℕ) → 1 ≤ h → h ≤ hour_places → of_hour r h ≡ of_hour l h + when test (row_quantity blocks (i - 1) h))

  grown : (i : ℕ) (test : Bool) (l r : List ℕ) → 0 < i → i ≤ count → ((h : ℕ) → row_quantity blocks (i - 1) h ≤ most_added) → AddedBy i test l r →
      Small ((count - i) * most_added) l → Small ((count - (i - 1)) * most_added) r
  grown i test l r pos le few added small =
      let n : count - (i - 1) ≡ count - i + 1 = omega arith in
      rw n (places-grow (count - i) l r added.0 small (λ h a b. omega (arith, added.1 h a b, when-le test (row_quantity blocks (i - 1) h), few h)))

  pub trades-next : (i : ℕ) (sales purchases sold bought : List ℕ) → TradesTo i sales purchases → 0 < i → ((h : ℕ) → row_quantity blocks (i - 1) h ≤ most_added) →
      AddedBy i (sells_in blocks chosen (i - 1)) sales sold → AddedBy i (buys_in blocks chosen (i - 1)) purchases bought → TradesTo (i - 1) sold bought
  trades-next i sales purchases sold bought t pos few s b = record {
    inside = omega (arith, t.inside);
    sales_are = λ h x y. omega (arith, s.1 h x y, t.sales_are h x y, added_more blocks (sells_in blocks chosen) h count i pos t.inside);
    purchases_are = λ h x y. omega (arith, b.1 h x y, t.purchases_are h x y, added_more blocks (buys_in blocks chosen) h count i pos t.inside);
    sales_fit = grown i (sells_in blocks chosen (i - 1)) sales sold pos t.inside few s t.sales_fit;
    purchases_fit = grown i (buys_in blocks chosen (i - 1)) purchases bought pos t.inside few b t.purchases_fit;
  }
