-- THE CHOICE OF A SHIFT: the first passing number of 500, 499, 501, .. is the one nearest 500, of two the smaller; there is none exactly where no shift
-- passes; and where one test passes upward, another downward, two tests certify the choice of both. Assumes nothing.
use Prim.Native.Nat.{ℕ, zero, suc, ◌+◌, ◌-◌, ◌*◌, ◌≤◌, ◌<◌, min}
use mathlib.Core.Bool.{Bool, true, false, ◌&&◌}
use mathlib.Core.Path.{◌≡◌, refl, sym, ap, ◌∙◌}
use mathlib.Core.Option.{Option, none, some}
use native.Mathlib.Omega.{arith}
use native.Mathlib.Nat.{lt_of_not-le}
use native.Mathlib.Decide.{dec_le}
use Rattle.rules.specs.Hour.{if_passes, or_else}
use Rattle.rules.specs.Shift.{last_shift, middle_shift, nearest_shift, all_shifts}
use Rattle.rules.proofs.Tests.{by-test, clash}

-- THE TURN of a number in the row 500, 499, 501, 498, 502, ..
abbrev pub turn : ℕ → ℕ
turn t = 2 * (middle_shift - t) + (2 * (t - middle_shift) + min 1 (t - middle_shift))

-- of two numbers the nearer to 500 has the earlier turn, and the smaller of two that are as near
pub nearer-first : (q t : ℕ) → (middle_shift - q) + (q - middle_shift) < (middle_shift - t) + (t - middle_shift) → turn q < turn t
nearer-first q t h = omega arith

pub smaller-first : (q t : ℕ) → (middle_shift - q) + (q - middle_shift) ≡ (middle_shift - t) + (t - middle_shift) → q < t → turn q < turn t
smaller-first q t h k = omega arith

-- the turns of the two numbers at a distance, and whose turn comes before
turn_low : (d : ℕ) → d ≤ middle_shift → turn (middle_shift - d) ≡ 2 * d
turn_low d h = omega arith

turn-high : (d : ℕ) → turn (middle_shift + d) ≡ 2 * d + min 1 d
turn-high d = omega arith

before-low : (d q : ℕ) → turn q < 2 * d → (middle_shift < q + d) × (q < middle_shift + d)
before-low d q h = (omega arith, omega arith)

before-high : (d q : ℕ) → turn q < 2 * d + min 1 d → (middle_shift ≤ q + d) × (q < middle_shift + d)
before-high d q h = (omega arith, omega arith)

-- no two numbers have one turn
turn_below : (t : ℕ) → t ≤ middle_shift → turn t ≡ 2 * (middle_shift - t)
turn_below t h = omega arith

turn-above : (t : ℕ) → middle_shift < t → turn t ≡ 2 * (t - middle_shift) + 1
turn-above t h = omega arith

uneven : (a b : ℕ) → 2 * a ≡ 2 * b + 1 → ⊥
uneven a b e = elim (dec_le a b) [ yes k ↦ omega arith | no k ↦ (let j : b < a = lt_of_not-le k in omega arith) ]

same_low : (t u : ℕ) → t ≤ middle_shift → u ≤ middle_shift → 2 * (middle_shift - t) ≡ 2 * (middle_shift - u) → t ≡ u
same_low t u k j z = omega arith

same-high : (t u : ℕ) → middle_shift < t → middle_shift < u → 2 * (t - middle_shift) + 1 ≡ 2 * (u - middle_shift) + 1 → t ≡ u
same-high t u k j z = omega arith

turn-once : (t u : ℕ) → turn t ≡ turn u → t ≡ u
turn-once t u e = elim (dec_le t middle_shift) [
  | yes k ↦ elim (dec_le u middle_shift) [
    | yes j ↦ same_low t u k j (sym (turn_below t k) ∙ e ∙ turn_below u j)
    | no j ↦ absurd (uneven (middle_shift - t) (u - middle_shift) (sym (turn_below t k) ∙ e ∙ turn-above u (lt_of_not-le j)))
  ]
  | no k ↦ elim (dec_le u middle_shift) [
    | yes j ↦ absurd (uneven (middle_shift - u) (t - middle_shift) (sym (turn_below u j) ∙ sym e ∙ turn-above t (lt_of_not-le k)))
    | no j ↦ same-high t u (lt_of_not-le k) (lt_of_not-le j) (sym (turn-above t (lt_of_not-le k)) ∙ e ∙ turn-above u (lt_of_not-le j))
  ]
]

-- WHAT "NEAREST" SAYS, for numbers less than `far` away from 500
abbrev pub NearestOf : (ℕ → Bool) → ℕ → Option ℕ → Type 0
NearestOf test far none = (q : ℕ) → middle_shift < q + far → q < middle_shift + far → test q ≡ false
NearestOf test far (some t) =
    (middle_shift < t + far) × (t < middle_shift + far) × (test t ≡ true) × ((q : ℕ) → turn q < turn t → test q ≡ false)

module _ (test : ℕ → Bool) where
  -- a number at a distance of at most d: nearer than d, or one of the two ends
  by_end : (d q : ℕ) → d ≤ middle_shift → middle_shift ≤ q + d → q ≤ middle_shift + d → (middle_shift < q + d → q < middle_shift + d → test q ≡ false) →
      test (middle_shift - d) ≡ false → (q ≡ middle_shift + d → test q ≡ false) → test q ≡ false
  by_end d q a l u inside low high = elim (dec_le (middle_shift + d) q) [
    | yes k ↦ high (omega arith)
    | no k ↦
        let below : q < middle_shift + d = lt_of_not-le k in
        elim (dec_le (q + d) middle_shift) [
          | yes j ↦ let e : q ≡ middle_shift - d = omega arith in rw e low
          | no j ↦ inside (lt_of_not-le j) below
        ]
  ]

  pub nearest-is : (far : ℕ) → far ≤ all_shifts → NearestOf test far (nearest_shift test far)
  unfolding nearest_shift
  nearest-is zero b = λ q k j. absurd (omega arith)
  nearest-is (suc d) b =
      go (nearest_shift test d) (nearest-is d (omega arith)) (test (middle_shift - d)) refl (test (middle_shift + d)) refl
    where
      go : (o : Option ℕ) → NearestOf test d o → (x : Bool) → test (middle_shift - d) ≡ x → (y : Bool) → test (middle_shift + d) ≡ y →
          NearestOf test (suc d) (or_else o (or_else (if_passes x (middle_shift - d)) (if_passes y (middle_shift + d))))
      go (some t) s x e y f = (omega (arith, s.0), omega (arith, s.1), s.2, s.3)
      go none s true e y f = (
        omega arith,
        omega arith,
        e,
        λ q k. let w = before-low d q (rw (turn_low d (omega arith)) at k) in s q w.0 w.1,
      )
      go none s false e true f = (
        omega arith,
        omega arith,
        f,
        λ q k. let w = before-high d q (rw (turn-high d) at k) in by_end d q (omega arith) w.0 (omega arith) (s q) e (λ z. absurd (omega arith)),
      )
      go none s false e false f = λ q k j. by_end d q (omega arith) (omega arith) (omega arith) (s q) e (λ z. rw z f)

  -- of all shifts
  pub chosen_is : NearestOf test all_shifts (nearest_shift test all_shifts)
  chosen_is = nearest-is all_shifts (omega arith)

  -- a passing shift that no passing one is ahead of is the choice
  same : {a b : ℕ} → a ≤ b → b ≤ a → b ≡ a
  same h k = omega arith

  pub nearest-by : (t : ℕ) → t ≤ last_shift → test t ≡ true → ((q : ℕ) → turn q < turn t → test q ≡ false) → nearest_shift test all_shifts ≡ some t
  nearest-by t b e f = go (nearest_shift test all_shifts) chosen_is
    where
      go : (o : Option ℕ) → NearestOf test all_shifts o → o ≡ some t
      go none s = clash e (s t (omega arith) (omega arith))
      go (some u) s = elim (dec_le (turn t) (turn u)) [
        | yes k ↦ elim (dec_le (turn u) (turn t)) [
          | yes j ↦ ap some (turn-once u t (same k j))
          | no j ↦ clash e (s.3 t (lt_of_not-le j))
        ]
        | no k ↦ clash s.2 (f u (lt_of_not-le k))
      ]

  pub nearest-none : ((q : ℕ) → q ≤ last_shift → test q ≡ false) → nearest_shift test all_shifts ≡ none
  nearest-none f = go (nearest_shift test all_shifts) chosen_is
    where
      go : (o : Option ℕ) → NearestOf test all_shifts o → o ≡ none
      go none s = refl
      go (some u) s = clash s.2 (f u (omega (arith, s.1)))

-- TWO TESTS, and both of them
abbrev pub both_pass : (ℕ → Bool) → (ℕ → Bool) → ℕ → Bool
both_pass s b t = s t && b t

not_first : (x y : Bool) → x ≡ false → (x && y) ≡ false
not_first x y e = rw e

not-second : (x y : Bool) → y ≡ false → (x && y) ≡ false
not-second true y e = e
not-second false y e = refl

-- the middle shift itself
pub choice-middle : (test : ℕ → Bool) → test middle_shift ≡ true → nearest_shift test all_shifts ≡ some middle_shift
choice-middle test e = nearest-by test middle_shift (omega arith) e (λ q k. absurd (omega arith))

-- CERTIFICATES, where the first passes upward and the second downward
module _ (s b : ℕ → Bool) (up : (t u : ℕ) → t ≤ u → s t ≡ true → s u ≡ true) (down : (t u : ℕ) → t ≤ u → b u ≡ true → b t ≡ true) where
  fails-down : (t u : ℕ) → t ≤ u → s u ≡ false → s t ≡ false
  fails-down t u h e = by-test (λ x. x ≡ false) (s t) (λ k. clash (up t u h k) e) (λ k. refl)

  fails-up : (t u : ℕ) → t ≤ u → b t ≡ false → b u ≡ false
  fails-up t u h e = by-test (λ x. x ≡ false) (b u) (λ k. clash (down t u h k) e) (λ k. refl)

  -- the passing shifts are an interval: what lies between two of them passes
  pub between-pass : (t v u : ℕ) → t ≤ v → v ≤ u → both_pass s b t ≡ true → both_pass s b u ≡ true → both_pass s b v ≡ true
  between-pass t v u h k e f =
      by-test (λ x. x && b v ≡ true) (s v)
      (λ _. down v u k (second (s u) (b u) f))
      (λ z. clash (up t v h (first (s t) (b t) e)) z)
    where
      first : (x y : Bool) → (x && y) ≡ true → x ≡ true
      first true y e = refl
      first false y e = e

      second : (x y : Bool) → (x && y) ≡ true → y ≡ true
      second true y e = e
      second false y e = clash e refl

  -- below 500: a shift that passes, and after which the second test fails
  pub choice-lower : (t : ℕ) → t < middle_shift → both_pass s b t ≡ true → b (suc t) ≡ false → nearest_shift (both_pass s b) all_shifts ≡ some t
  choice-lower t h e f =
      nearest-by (both_pass s b) t (omega arith) e (λ q k. not-second (s q) (b q) (fails-up (suc t) q (later q k h) f))
    where
      later : (q : ℕ) → turn q < turn t → t < middle_shift → suc t ≤ q
      later q k h = omega arith

  -- above 500: a shift that passes, and before which the first test fails
  pub choice-higher : (t : ℕ) → middle_shift ≤ t → t < last_shift → both_pass s b (suc t) ≡ true → s t ≡ false →
      nearest_shift (both_pass s b) all_shifts ≡ some (suc t)
  choice-higher t h g e f =
      nearest-by (both_pass s b) (suc t) (omega arith) e (λ q k. not_first (s q) (b q) (fails-down q t (earlier q k h) f))
    where
      earlier : (q : ℕ) → turn q < turn (suc t) → middle_shift ≤ t → q ≤ t
      earlier q k h = omega arith

  -- none, where the first test fails up to t and the second from there on; where the first fails at the last shift, or the second at 0
  pub choice-none : (t : ℕ) → s t ≡ false → b (suc t) ≡ false → nearest_shift (both_pass s b) all_shifts ≡ none
  choice-none t e f =
      nearest-none (both_pass s b) (λ q k. elim (dec_le q t) [
        | yes a ↦ not_first (s q) (b q) (fails-down q t a e)
        | no a ↦ not-second (s q) (b q) (fails-up (suc t) q (lt_of_not-le a) f)
      ])

  pub choice-no-first : s last_shift ≡ false → nearest_shift (both_pass s b) all_shifts ≡ none
  choice-no-first e = nearest-none (both_pass s b) (λ q k. not_first (s q) (b q) (fails-down q last_shift k e))

  pub choice-no-second : b 0 ≡ false → nearest_shift (both_pass s b) all_shifts ≡ none
  choice-no-second e = nearest-none (both_pass s b) (λ q k. not-second (s q) (b q) (fails-up 0 q (omega arith) e))
