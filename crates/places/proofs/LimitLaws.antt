-- The limits of the blocks that a set holds, block by block. Assumes nothing.
use Prim.Native.Nat.{ℕ, zero, suc, ◌-◌, ◌/◌, ◌%◌, ◌^◌, ◌≤◌, ◌<◌}
use mathlib.Core.Path.{◌≡◌, refl, sym}
use mathlib.Core.List.{List}
use mathlib.Core.Bool.{Bool, true, false, not, ◌&&◌, ◌||◌}
use native.Mathlib.Omega.{arith}
use native.Mathlib.Numerals.{sub-one}
use lib.Dec.{eqb}
use borrow.Author.Tests.{eq-eqb, ne_eqb}
use Rattle.rules.proofs.Tests.{by-eq, both}
use Rattle.places.specs.Blocks.{side_at, hours_at, limit_at, keeps_at, all_keep}

-- LIMITS
module _ (blocks : List ℕ) (chosen : ℕ) (high low : List ℕ) where
  abbrev pub keeps_here : ℕ → Bool
  keeps_here i = keeps_at (side_at blocks i) (hours_at blocks i) (limit_at blocks i) high low

  keep-more : (i : ℕ) → 0 < i →
      all_keep blocks chosen high low i ≡ ((not (eqb (chosen / 2 ^ (i - 1) % 2) 1) || keeps_here (i - 1)) && all_keep blocks chosen high low (i - 1))
  unfolding all_keep
  keep-more zero k = absurd (omega arith)
  keep-more (suc i) k = rw sub-one

  pub keep-none : (i : ℕ) → i ≤ 0 → all_keep blocks chosen high low i ≡ true
  unfolding all_keep
  keep-none zero k = refl
  keep-none (suc i) k = absurd (omega arith)

  module _ (i : ℕ) (k : 0 < i) where
    pub keep-fails : chosen / 2 ^ (i - 1) % 2 ≡ 1 → keeps_here (i - 1) ≡ false → all_keep blocks chosen high low i ≡ false
    keep-fails c f = rw (keep-more i k, eq-eqb _ 1 c, f)

    pub keep-passes : chosen / 2 ^ (i - 1) % 2 ≡ 1 → keeps_here (i - 1) ≡ true → all_keep blocks chosen high low i ≡ all_keep blocks chosen high low (i - 1)
    keep-passes c f = rw (keep-more i k, eq-eqb _ 1 c, f)

    pub keep-skips : (chosen / 2 ^ (i - 1) % 2 ≡ 1 → ⊥) → all_keep blocks chosen high low i ≡ all_keep blocks chosen high low (i - 1)
    keep-skips c = rw (keep-more i k, ne_eqb _ 1 c)

-- ALL LIMITS, by the columns
module _ (blocks : List ℕ) (set : ℕ) (high low : List ℕ) where
  pub all-keep-at : (n j : ℕ) → all_keep blocks set high low n ≡ true → j < n → set / 2 ^ j % 2 ≡ 1 → keeps_here blocks set high low j ≡ true
  unfolding all_keep
  all-keep-at zero j e k c = absurd (omega arith)
  all-keep-at (suc n) j e k c =
      let t = both (not (eqb (set / 2 ^ n % 2) 1) || keeps_here blocks set high low n) (all_keep blocks set high low n) e in
      elim (native.Mathlib.Decide.dec_le n j) [
        | yes a ↦
            let z : j ≡ n = omega arith in
            let c' : set / 2 ^ n % 2 ≡ 1 = rw (sym z) c in
            rw z (rw (eq-eqb (set / 2 ^ n % 2) 1 c') at t.0)
        | no a ↦ all-keep-at n j t.1 (native.Mathlib.Nat.lt_of_not-le a) c
      ]

  pub all_keep_lem : (n : ℕ) → ((j : ℕ) → j < n → set / 2 ^ j % 2 ≡ 1 → keeps_here blocks set high low j ≡ true) → all_keep blocks set high low n ≡ true
  unfolding all_keep
  all_keep_lem zero f = refl
  all_keep_lem (suc n) f =
      rw (all_keep_lem n (λ j k c. f j (omega arith) c))
      (by-eq (λ t. ((not t || keeps_here blocks set high low n) && true) ≡ true) (set / 2 ^ n % 2) 1 (λ c. rw (f n (omega arith) c)) (λ c. refl))
