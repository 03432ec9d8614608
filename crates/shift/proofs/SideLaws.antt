-- THE SIDES APART: all blocks of a set keep their limits where its sells and its buys do, the sells upward in the shift, the buys downward; and the blocks
-- one after another. Assumes nothing.
use Prim.Native.Nat.{ℕ, zero, suc, ◌-◌, ◌/◌, ◌%◌, ◌^◌, ◌≤◌, ◌<◌}
use mathlib.Core.Bool.{Bool, true, false, not, ◌&&◌, ◌||◌}
use mathlib.Core.Path.{◌≡◌, refl, sym, ap, ◌∙◌}
use mathlib.Core.List.{List}
use native.Mathlib.Omega.{arith}
use native.Mathlib.Numerals.{sub-one}
use lib.Dec.{eqb}
use borrow.Author.Tests.{leb-true, le-leb, ne_eqb}
use Rattle.rules.proofs.Tests.{both}
use Rattle.places.specs.Hours.{sum_of_hours}
use Rattle.places.specs.Blocks.{side_at, hours_at, limit_at, keeps_at, all_keep}
use Rattle.shift.specs.Columns.{is_of_side, held_of_side, side_keeps, side_kept_at}
use Rattle.shift.proofs.ShiftedLaws.{sum-rises}

-- ONE BLOCK, if it is held: at prices whose sum over its hours is no less a sell keeps its limit still, at no more a buy
module _ (hours limit : ℕ) (p q : List ℕ) (rises : sum_of_hours p hours ≤ sum_of_hours q hours) where
  sell-up : (held : Bool) (side : ℕ) → (not (held && is_of_side true side) || keeps_at side hours limit p p) ≡ true →
      (not (held && is_of_side true side) || keeps_at side hours limit q q) ≡ true
  unfolding keeps_at
  sell-up false side e = refl
  sell-up true zero e = refl
  sell-up true (suc side) e =
      let sells = ne_eqb (suc side) 0 (omega arith) in
      rw sells (le-leb limit (sum_of_hours q hours) (omega (arith, leb-true limit (sum_of_hours p hours) (rw sells at e), rises)))

  buy-down : (held : Bool) (side : ℕ) → (not (held && is_of_side false side) || keeps_at side hours limit q q) ≡ true →
      (not (held && is_of_side false side) || keeps_at side hours limit p p) ≡ true
  unfolding keeps_at
  buy-down false side e = refl
  buy-down true zero e = le-leb (sum_of_hours p hours) limit (omega (arith, leb-true (sum_of_hours q hours) limit e, rises))
  buy-down true (suc side) e = rw (ne_eqb (suc side) 0 (omega arith))

-- a block is of one of the sides
parted : (held buys keeps x y : Bool) →
    ((not held || keeps) && (x && y)) ≡ (((not (held && not buys) || keeps) && x) && ((not (held && buys) || keeps) && y))
parted false buys keeps x y = refl
parted true true true x y = refl
parted true true false true y = refl
parted true true false false y = refl
parted true false true x y = refl
parted true false false x y = refl

both_hold : (a b : Bool) → a ≡ true → b ≡ true → (a && b) ≡ true
both_hold a b x y = rw (x, y)

-- ALL BLOCKS
module _ (blocks : List ℕ) (set : ℕ) where
  pub sides_apart : (prices : List ℕ) (n : ℕ) →
      all_keep blocks set prices prices n ≡ (side_keeps true blocks set prices n && side_keeps false blocks set prices n)
  unfolding all_keep side_keeps
  sides_apart prices zero = refl
  sides_apart prices (suc i) =
      ap (λ rest. (not (eqb (set / 2 ^ i % 2) 1) || keeps_at (side_at blocks i) (hours_at blocks i) (limit_at blocks i) prices prices) && rest) (sides_apart prices i)
      ∙ parted (eqb (set / 2 ^ i % 2) 1) (eqb (side_at blocks i) 0) (keeps_at (side_at blocks i) (hours_at blocks i) (limit_at blocks i) prices prices)
      (side_keeps true blocks set prices i) (side_keeps false blocks set prices i)

  module _ (p q : List ℕ) (rises : (hours : ℕ) → sum_of_hours p hours ≤ sum_of_hours q hours) where
    sells-keep-up : (n : ℕ) → side_keeps true blocks set p n ≡ true → side_keeps true blocks set q n ≡ true
    unfolding side_keeps
    sells-keep-up zero e = refl
    sells-keep-up (suc i) e =
        let t = both _ (side_keeps true blocks set p i) e in
        both_hold _ _
        (sell-up (hours_at blocks i) (limit_at blocks i) p q (rises (hours_at blocks i)) (eqb (set / 2 ^ i % 2) 1) (side_at blocks i) t.0)
        (sells-keep-up i t.1)

    buys-keep-down : (n : ℕ) → side_keeps false blocks set q n ≡ true → side_keeps false blocks set p n ≡ true
    unfolding side_keeps
    buys-keep-down zero e = refl
    buys-keep-down (suc i) e =
        let t = both _ (side_keeps false blocks set q i) e in
        both_hold _ _
        (buy-down (hours_at blocks i) (limit_at blocks i) p q (rises (hours_at blocks i)) (eqb (set / 2 ^ i % 2) 1) (side_at blocks i) t.0)
        (buys-keep-down i t.1)

-- AT A SHIFT: what the sells keep they keep at every higher one, what the buys keep at every lower one
module _ (unit_prices blocks : List ℕ) (count set : ℕ) (places : List ℕ) (often : ℕ) where
  pub sells-up : (t u : ℕ) → t ≤ u → side_kept_at unit_prices blocks count set places often true t ≡ true →
      side_kept_at unit_prices blocks count set places often true u ≡ true
  unfolding side_kept_at
  sells-up t u k e = sells-keep-up blocks set _ _ (λ hours. sum-rises unit_prices places often hours t u k) count e

  pub buys-down : (t u : ℕ) → t ≤ u → side_kept_at unit_prices blocks count set places often false u ≡ true →
      side_kept_at unit_prices blocks count set places often false t ≡ true
  unfolding side_kept_at
  buys-down t u k e = buys-keep-down blocks set _ _ (λ hours. sum-rises unit_prices places often hours t u k) count e

-- THE BLOCKS ONE AFTER ANOTHER, from the last
module _ (sells : Bool) (blocks : List ℕ) (chosen : ℕ) (prices : List ℕ) where
  abbrev keeps_here : ℕ → Bool
  keeps_here i = keeps_at (side_at blocks i) (hours_at blocks i) (limit_at blocks i) prices prices

  side-more : (i : ℕ) → 0 < i →
      side_keeps sells blocks chosen prices i ≡ ((not (held_of_side sells blocks chosen (i - 1)) || keeps_here (i - 1)) && side_keeps sells blocks chosen prices (i - 1))
  unfolding side_keeps
  side-more zero k = absurd (omega arith)
  side-more (suc i) k = rw sub-one

  pub side-none : (i : ℕ) → i ≤ 0 → side_keeps sells blocks chosen prices i ≡ true
  unfolding side_keeps
  side-none zero k = refl
  side-none (suc i) k = absurd (omega arith)

  -- the code's test of a block
  pub held-is : (i : ℕ) (meant answer : Bool) → meant ≡ is_of_side sells (side_at blocks i) → (eqb (chosen / 2 ^ i % 2) 1 && meant) ≡ answer →
      held_of_side sells blocks chosen i ≡ answer
  held-is i meant answer e f = ap (λ m. eqb (chosen / 2 ^ i % 2) 1 && m) (sym e) ∙ f

  module _ (i : ℕ) (k : 0 < i) where
    pub side-fails : held_of_side sells blocks chosen (i - 1) ≡ true → keeps_here (i - 1) ≡ false → side_keeps sells blocks chosen prices i ≡ false
    side-fails held f = rw (side-more i k, held, f)

    pub side-passes : held_of_side sells blocks chosen (i - 1) ≡ true → keeps_here (i - 1) ≡ true →
        side_keeps sells blocks chosen prices i ≡ side_keeps sells blocks chosen prices (i - 1)
    side-passes held f = rw (side-more i k, held, f)

    pub side-skips : held_of_side sells blocks chosen (i - 1) ≡ false → side_keeps sells blocks chosen prices i ≡ side_keeps sells blocks chosen prices (i - 1)
    side-skips f = rw (side-more i k, f)
