-- The steps of the hours, out of columns: a part of the columns is an hour. Assumes nothing.
use Prim.Native.Nat.{ℕ, zero, suc, ◌+◌, ◌-◌, ◌≤◌, ◌<◌}
use mathlib.Core.Path.{◌≡◌, refl}
use mathlib.Core.List.{List, [], ◌∷◌}
use native.Mathlib.Omega.{arith}
use lib.ListN.{take, drop, get_or}
use lib.Seq.{slice}
use Rattle.orders.specs.Columns.{steps_from}
use Rattle.places.specs.Layout.{hour_places}
use Rattle.places.specs.Hours.{Small, FirstSmall}
use Rattle.places.specs.Steps.{steps_at, StepsSized, PartSized}

-- PARTS
mid_none : (n a : ℕ) → ◌≡◌ {A = List ℕ} (take n (drop a [])) []
mid_none zero zero = refl
mid_none zero (suc a) = refl
mid_none (suc n) zero = refl
mid_none (suc n) (suc a) = refl

-- a part by its start and count is a part by its start and end
pub mid-slice : (a e : ℕ) (l : List ℕ) → a ≤ e → take (e - a) (drop a l) ≡ slice a e l
mid-slice zero e l h = let s : e - 0 ≡ e = omega arith in rw s
mid-slice (suc a) zero l h = absurd (omega arith)
mid-slice (suc a) (suc e) [] h = mid_none (suc e - suc a) (suc a)
mid-slice (suc a) (suc e) (x ∷ l) h = let s : suc e - suc a ≡ e - a = omega arith in rw s (mid-slice a e l (omega arith))

pub small-take : (m e : ℕ) (l : List ℕ) → FirstSmall e m l → Small m (take e l)
small-take m zero l f i = omega arith
small-take m (suc e) [] f i = omega arith
small-take m (suc e) (x ∷ l) f zero = f 0 (omega arith)
small-take m (suc e) (x ∷ l) f (suc i) = small-take m e l (λ j k. f (suc j) (omega arith)) i

pub small-drop : (m a : ℕ) (l : List ℕ) → Small m l → Small m (drop a l)
small-drop m zero l f i = f i
small-drop m (suc a) [] f i = omega arith
small-drop m (suc a) (x ∷ l) f i = small-drop m a l (λ j. f (suc j)) i

pub small-part : (m a e : ℕ) (l : List ℕ) → a ≤ e → FirstSmall e m l → Small m (take (e - a) (drop a l))
small-part m a e l h f = rw (mid-slice a e l h) (small-drop m a (take e l) (small-take m e l f))

-- THE HOURS
pub steps_next : (ends sides prices quantities : List ℕ) (h : ℕ) →
    steps_at ends sides prices quantities (h + 1)
    ≡ steps_from (h + 1) (slice (get_or ends h 0) (get_or ends (h + 1) 0) sides) (slice (get_or ends h 0) (get_or ends (h + 1) 0) prices)
    (slice (get_or ends h 0) (get_or ends (h + 1) 0) quantities)
unfolding steps_at
steps_next ends sides prices quantities h = let e : h + 1 - 1 ≡ h = omega arith in rw e

-- no hour ends past the last
pub hour-inside : (ends sides prices quantities : List ℕ) (h : ℕ) → StepsSized ends sides prices quantities → h < hour_places →
    get_or ends (h + 1) 0 ≤ get_or ends hour_places 0
hour-inside ends sides prices quantities h s k = down (hour_places - (h + 1)) (h + 1) (omega arith)
  where
    down : (n j : ℕ) → j + n ≡ hour_places → get_or ends j 0 ≤ get_or ends hour_places 0
    down zero j e = let f : j ≡ hour_places = omega arith in rw f (omega arith)
    down (suc n) j e = omega (arith, s.rise j (omega arith), down n (j + 1) (omega arith))

pub hour-part : (ends sides prices quantities : List ℕ) (h : ℕ) → StepsSized ends sides prices quantities → h < hour_places →
    PartSized sides prices quantities (get_or ends h 0) (get_or ends (h + 1) 0)
hour-part ends sides prices quantities h s k =
    let e = hour-inside ends sides prices quantities h s k in
    record {
      ordered = s.rise h k;
      fit = omega (arith, e, s.fit);
      in_sides = omega (arith, e, s.in_sides);
      in_prices = omega (arith, e, s.in_prices);
      in_quantities = omega (arith, e, s.in_quantities);
      prices_fit = λ i m. s.prices_fit i (omega arith);
      quantities_fit = λ i m. s.quantities_fit i (omega arith);
    }
