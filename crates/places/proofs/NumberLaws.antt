-- Numbers and lists: what holds hour by hour, the larger and the smaller, a number so many times. Assumes nothing.
use Prim.Native.Nat.{ℕ, suc, ◌*◌, ◌≤◌, ◌<◌}
use mathlib.Core.Path.{◌≡◌}
use mathlib.Core.Bool.{Bool, true, false}
use mathlib.Core.Logic.{◌⊎◌, inl, inr}
use native.Mathlib.Omega.{arith}
use native.Mathlib.Nat.{le-suc_iff, lt_of_not-le}
use native.Mathlib.Decide.{dec_le}
use mir.Val.{bool_byte}
use Rattle.places.specs.Hours.{larger, smaller, nearest}

-- what holds below h and at h holds below h + 1
pub below_next : (P : ℕ → Type 0) (h k : ℕ) → (k < h → P k) → P h → k < suc h → P k
below_next P h k f p a = go (le-suc_iff.0 a)
  where
    go : (suc k ≤ h) ⊎ (suc k ≡ suc h) → P k
    go (inl b) = f b
    go (inr b) = let e : k ≡ h = omega arith in rw e p

-- THE LARGER AND THE SMALLER
module _ (a b : ℕ) where
  pub larger-least : (c : ℕ) → a ≤ c → b ≤ c → larger a b ≤ c
  larger-least c x y = omega arith

  pub larger-above : (a ≤ larger a b) × (b ≤ larger a b)
  larger-above = (omega arith, omega arith)

  pub smaller-most : (c : ℕ) → c ≤ a → c ≤ b → c ≤ smaller a b
  smaller-most c x y = omega arith

  pub smaller-below : (smaller a b ≤ a) × (smaller a b ≤ b)
  smaller-below = (omega arith, omega arith)

-- numbers that fall to n and rise from it are least at the nearest to n
pub nearest-least : (f : ℕ → ℕ) (n a b i : ℕ) → a ≤ i → i ≤ b →
    ((x y : ℕ) → a ≤ x → x ≤ y → y ≤ b → y ≤ n → f y ≤ f x) → ((x y : ℕ) → a ≤ x → x ≤ y → y ≤ b → n ≤ x → f x ≤ f y) → f (nearest n a b) ≤ f i
nearest-least f n a b i x y falls rises =
    elim (dec_le i n) [
      | yes k ↦ falls i (nearest n a b) x (omega arith) (omega arith) (omega arith)
      | no k ↦ let l : n < i = lt_of_not-le k in rises (nearest n a b) i (omega arith) (omega arith) y (omega arith)
    ]

-- a number so many times: once or never
pub times-le : (t : Bool) (n x : ℕ) → n ≡ bool_byte t → n * x ≤ x
times-le true n x e = rw e (omega arith)
times-le false n x e = rw e (omega arith)
