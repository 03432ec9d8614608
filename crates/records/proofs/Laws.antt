-- The laws that the functions' proofs cite: one byte more of a run, or none, and the hours of a block, counted. Assumes nothing.
use Prim.Native.Nat.{ℕ, zero, suc, ◌+◌, ◌/◌, ◌%◌, ◌^◌, ◌≤◌}
use mathlib.Core.Path.{◌≡◌, refl}
use mathlib.Core.List.{List}
use mathlib.Core.Bool.{Bool, true, false, cond, not}
use native.Mathlib.Omega.{arith}
use native.Mathlib.Numerals.{sub-one, add-one}
use lib.Dec.{eqb}
use Rattle.std.specs.List.{list_any, range_with_len}
use Rattle.records.specs.Bytes.{byte_at, nonzero}
use Rattle.records.specs.Records.{holds_hour, hours_set}

-- The bytes of a run are looked at one by one
pub nonzero-any : (b : List ℕ) (i n : ℕ) → list_any (λ k. not (eqb (byte_at b k) 0)) (range_with_len i n) ≡ nonzero b i n
unfolding nonzero
nonzero-any b i zero = refl
nonzero-any b i (suc n) = rw (nonzero-any b (i + 1) n)

-- One hour more
pub hour-more : (n x : ℕ) → hours_set (n + 1) x ≡ hours_set n x + cond (eqb (x / 2 ^ n % 2) 1) 1 0
unfolding hours_set
hour-more n x = rw (add-one, sub-one)

-- A block runs in no more hours than there are
pub hours-few : (n x : ℕ) → hours_set n x ≤ n
unfolding hours_set
hours-few zero x = omega arith
hours-few (suc n) x = omega (arith, hours-few n x, at (holds_hour x (suc n)))
  where
    at : (t : Bool) → cond t 1 0 ≤ 1
    at true = omega arith
    at false = omega arith
