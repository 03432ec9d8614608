-- THE CHOSEN SHIFT: one law for each way out of its search. Assumes nothing.
use Prim.Native.Nat.{ℕ, suc, ◌+◌, ◌≤◌, ◌<◌}
use mathlib.Core.Bool.{Bool, true, false, not, ◌&&◌, beq}
use mathlib.Core.Option.{none, some}
use mathlib.Core.Path.{◌≡◌, refl, sym, ap, ◌∙◌, fun_ext}
use mathlib.Core.List.{List}
use native.Mathlib.Omega.{arith}
use native.Mathlib.Numerals.{add-one}
use Rattle.rules.specs.Shift.{last_shift, middle_shift, nearest_shift, all_shifts}
use Rattle.rules.proofs.Tests.{by-test, clash}
use Rattle.rules.proofs.ChoiceLaws.{chosen_is, both_pass, choice-middle, choice-lower, choice-higher, choice-none, choice-no-first, choice-no-second}
use Rattle.places.specs.Blocks.{all_keep}
use Rattle.shift.specs.Columns.{column_at, side_kept_at, chosen_shift, TurnsBehind}
use Rattle.shift.proofs.SideLaws.{sides_apart, sells-up, buys-down}

-- BISECTION: the test turns between two shifts, which come nearer until one is next to the other
pub record TurnsWithin (test : ℕ → Bool) (after : Bool) (first last from to : ℕ) : Type 0 where
  pub starts : first ≤ from
  pub apart : from < to
  pub ends : to ≤ last
  pub here : test from ≡ not after
  pub there : test to ≡ after

module _ (test : ℕ → Bool) (after : Bool) (first last from to : ℕ) (w : TurnsWithin test after first last from to) where
  pub turn-lower : (t : ℕ) (answer : Bool) → from < t → t < to → answer ≡ test t → beq answer after ≡ true → TurnsWithin test after first last from t
  turn-lower t answer a b e f = record { starts = w.starts; apart = a; ends = omega (arith, w.ends); here = w.here; there = sym e ∙ alike answer after f }
    where
      alike : (x y : Bool) → beq x y ≡ true → x ≡ y
      alike true true f = refl
      alike true false f = clash f refl
      alike false true f = f
      alike false false f = refl

  pub turn-upper : (t : ℕ) (answer : Bool) → from < t → t < to → answer ≡ test t → beq answer after ≡ false → TurnsWithin test after first last t to
  turn-upper t answer a b e f =
      record { starts = omega (arith, w.starts); apart = b; ends = w.ends; here = sym e ∙ other answer after f; there = w.there }
    where
      other : (x y : Bool) → beq x y ≡ false → x ≡ not y
      other true true f = clash refl f
      other true false f = refl
      other false true f = refl
      other false false f = clash refl f

  pub turn-met : to ≤ from + 1 → TurnsBehind test after first last from
  turn-met k =
      let next : to ≡ suc from = omega (arith, w.apart) in
      record { from = w.starts; before = omega (arith, w.apart, w.ends); here = w.here; behind = rw next at w.there }

-- of two tests that do not both pass the second fails where the first passes
pub second-fails : (x y : Bool) → (x && y) ≡ false → x ≡ true → y ≡ false
second-fails true y e k = e
second-fails false y e k = clash k refl

module _ (unit_prices blocks : List ℕ) (count set : ℕ) (places : List ℕ) (often : ℕ) where
  abbrev sells_kept : ℕ → Bool
  sells_kept = side_kept_at unit_prices blocks count set places often true

  abbrev buys_kept : ℕ → Bool
  buys_kept = side_kept_at unit_prices blocks count set places often false

  up : (t u : ℕ) → t ≤ u → sells_kept t ≡ true → sells_kept u ≡ true
  up = sells-up unit_prices blocks count set places often

  down : (t u : ℕ) → t ≤ u → buys_kept u ≡ true → buys_kept t ≡ true
  down = buys-down unit_prices blocks count set places often

  -- the choice is by the two sides
  pub by-sides : chosen_shift unit_prices blocks count set places often ≡ nearest_shift (both_pass sells_kept buys_kept) all_shifts
  unfolding chosen_shift side_kept_at
  by-sides =
      ap (λ (test : ℕ → Bool). nearest_shift test all_shifts)
      (fun_ext (λ t. sides_apart blocks set (column_at unit_prices places often t) count))

  -- CERTIFICATES: two tests settle it
  pub chosen-middle : (sells_kept middle_shift && buys_kept middle_shift) ≡ true → chosen_shift unit_prices blocks count set places often ≡ some middle_shift
  chosen-middle e = by-sides ∙ choice-middle (both_pass sells_kept buys_kept) e

  pub chosen-lower : (t : ℕ) → t < middle_shift → (sells_kept t && buys_kept t) ≡ true → buys_kept (suc t) ≡ false →
      chosen_shift unit_prices blocks count set places often ≡ some t
  chosen-lower t k e f = by-sides ∙ choice-lower sells_kept buys_kept up down t k e f

  pub chosen-higher : (t : ℕ) → middle_shift ≤ t → t < last_shift → (sells_kept (suc t) && buys_kept (suc t)) ≡ true → sells_kept t ≡ false →
      chosen_shift unit_prices blocks count set places often ≡ some (suc t)
  chosen-higher t k l e f = by-sides ∙ choice-higher sells_kept buys_kept up down t k l e f

  pub chosen_none : (t : ℕ) → sells_kept t ≡ false → buys_kept (suc t) ≡ false → chosen_shift unit_prices blocks count set places often ≡ none
  chosen_none t e f = by-sides ∙ choice-none sells_kept buys_kept up down t e f

  pub chosen-small : {t : ℕ} → some t ≡ chosen_shift unit_prices blocks count set places often → t ≤ last_shift
  unfolding chosen_shift
  chosen-small {t} e =
      let is = rw (sym e) at (chosen_is (λ t. all_keep blocks set (column_at unit_prices places often t) (column_at unit_prices places often t) count)) in
      omega (arith, is.1)

  -- THE WAYS OUT of the search
  pub middle-way : (sold bought : Bool) → sold ≡ sells_kept middle_shift → bought ≡ buys_kept middle_shift → (sold && bought) ≡ true →
      some middle_shift ≡ chosen_shift unit_prices blocks count set places often
  middle-way sold bought e f g = sym (chosen-middle (rw (e, f) at g))

  pub lower-way : (t : ℕ) → TurnsBehind buys_kept false 0 middle_shift t → sells_kept t ≡ true → some t ≡ chosen_shift unit_prices blocks count set places often
  lower-way t turns e =
      sym (chosen-lower t turns.before (rw (e, turns.here)) turns.behind)

  pub higher-way : (t : ℕ) → TurnsBehind sells_kept true middle_shift last_shift t → buys_kept (t + 1) ≡ true →
      some (t + 1) ≡ chosen_shift unit_prices blocks count set places often
  higher-way t turns e =
      let e' : buys_kept (suc t) ≡ true = rw add-one at e in
      rw add-one (sym (chosen-higher t turns.from turns.before (rw (turns.behind, e')) turns.here))

  pub apart-way : (t : ℕ) → sells_kept t ≡ false → buys_kept (suc t) ≡ false → none ≡ chosen_shift unit_prices blocks count set places often
  apart-way t e f = sym (chosen_none t e f)

  pub apart_above : (t : ℕ) → sells_kept t ≡ false → buys_kept (t + 1) ≡ false → none ≡ chosen_shift unit_prices blocks count set places often
  apart_above t e f = apart-way t e (rw add-one at f)

  pub middle-apart : sells_kept middle_shift ≡ false → buys_kept middle_shift ≡ false →
      none ≡ chosen_shift unit_prices blocks count set places often
  middle-apart e f =
      apart-way middle_shift e
      (by-test (λ x. x ≡ false) (buys_kept (suc middle_shift)) (λ k. clash (down middle_shift (suc middle_shift) (omega arith) k) f) (λ k. refl))

  pub no-buys-way : buys_kept 0 ≡ false → none ≡ chosen_shift unit_prices blocks count set places often
  no-buys-way e = sym (by-sides ∙ choice-no-second sells_kept buys_kept up down e)

  pub no-sells-way : sells_kept last_shift ≡ false → none ≡ chosen_shift unit_prices blocks count set places often
  no-sells-way e = sym (by-sides ∙ choice-no-first sells_kept buys_kept up down e)
