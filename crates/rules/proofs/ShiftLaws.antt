-- THE SHIFTED PRICE: the average of L and H by weights 1000 − t and t, rounded down. It rises with L, H and t, lies from L to H, and is the middle price at
-- 500. Assumes nothing.
use Prim.Native.Nat.{ℕ, ◌+◌, ◌-◌, ◌*◌, ◌/◌, ◌≤◌}
use mathlib.Core.Path.{◌≡◌, ap}
use native.Mathlib.Omega.{arith}
use native.Mathlib.Nat.{mul-le-mul_left, mul-le-mul_right, add-mul, mul-add}
use Rattle.rules.specs.Hour.{middle}
use Rattle.rules.specs.Shift.{last_shift, middle_shift, shifted}

back : {a b : ℕ} → b ≤ a → a - b + b ≡ a
back h = omega arith

-- the weighted average
pub shifted-weighted : (t l h : ℕ) → l ≤ h → t ≤ last_shift → shifted t l h ≡ (l * (last_shift - t) + h * t) / last_shift
unfolding shifted
shifted-weighted t l h a b =
    omega (
      arith,
      add-mul (h - l) l t,
      ap (λ n. n * t) (back a),
      mul-add l (last_shift - t) t,
      ap (λ n. l * n) (back b),
    )

-- it rises with t, whatever L and H are
pub shifted-rises : (t u l h : ℕ) → t ≤ u → shifted t l h ≤ shifted u l h
unfolding shifted
shifted-rises t u l h a = omega (arith, mul-le-mul_left (h - l) a)

-- it rises with L and H
pub shifted-ends : (t l h l' h' : ℕ) → t ≤ last_shift → l ≤ h → l' ≤ h' → l ≤ l' → h ≤ h' → shifted t l h ≤ shifted t l' h'
shifted-ends t l h l' h' a lh lh' b c =
    rw (shifted-weighted t l h lh a, shifted-weighted t l' h' lh' a)
    (omega (arith, mul-le-mul_right (last_shift - t) b, mul-le-mul_right t c))

-- it lies from L to H, and reaches both; the middle price is that of the middle shift
pub shifted-low : (t l h : ℕ) → l ≤ shifted t l h
unfolding shifted
shifted-low t l h = omega arith

pub shifted-high : (t l h : ℕ) → l ≤ h → t ≤ last_shift → shifted t l h ≤ h
unfolding shifted
shifted-high t l h a b = omega (arith, mul-le-mul_left (h - l) b)

pub shifted-first : (l h : ℕ) → shifted 0 l h ≡ l
unfolding shifted
shifted-first l h = omega arith

pub shifted-last : (l h : ℕ) → l ≤ h → shifted last_shift l h ≡ h
unfolding shifted
shifted-last l h a = omega arith

pub shifted-middle : (l h : ℕ) → l ≤ h → shifted middle_shift l h ≡ middle l h
unfolding shifted
shifted-middle l h a = omega arith
