-- A set of blocks as a number, the lowest bit for the first block, and as a list of decisions. Assumes nothing.
use Prim.Native.Nat.{ℕ, zero, suc, ◌+◌, ◌/◌, ◌%◌, ◌^◌, ◌<◌}
use mathlib.Core.Bool.{true, false}
use mathlib.Core.Path.{◌≡◌, refl}
use mathlib.Core.List.{[], ◌∷◌, ◌++◌}
use native.Mathlib.Omega.{arith}
use native.Mathlib.Nat.{div-one}
use lib.Dec.{eqb}
use lib.ListN.{get_or}
use lib.Pow.{shr-shr}
use borrow.Author.Tests.{eq-eqb, ne_eqb}
use Rattle.rules.specs.Day.{decisions}

bits-suc : (k u : ℕ) → decisions (suc k) u ≡ eqb (u % 2) 1 ∷ decisions k (u / 2)
unfolding decisions
bits-suc k u = refl

-- ONE MORE BLOCK
-- taken: its bit is added to a set of the first k blocks
pub bits-taken : (k u : ℕ) → u < 2 ^ k → decisions (suc k) (u + 2 ^ k) ≡ decisions k u ++ (true ∷ [])
bits-taken zero u h = unfold decisions in (rw (eq-eqb ((u + 1) % 2) 1 (omega arith)))
bits-taken (suc k) u h =
    let m : (u + 2 ^ suc k) % 2 ≡ u % 2 = omega arith in
    let d : (u + 2 ^ suc k) / 2 ≡ u / 2 + 2 ^ k = omega arith in
    rw (bits-suc (suc k) (u + 2 ^ suc k), m, d, bits-taken k (u / 2) (omega arith), bits-suc k u)

-- left out: the number stays
pub bits_left : (k u : ℕ) → u < 2 ^ k → decisions (suc k) u ≡ decisions k u ++ (false ∷ [])
bits_left zero u h = unfold decisions in (rw (ne_eqb (u % 2) 1 (omega arith)))
bits_left (suc k) u h = rw (bits-suc (suc k) u, bits_left k (u / 2) (omega arith), bits-suc k u)

-- and it stays below the next power of 2
pub bits-room : (k u : ℕ) → u < 2 ^ k → (u + 2 ^ k < 2 ^ suc k) × (u < 2 ^ suc k)
bits-room k u h = (omega arith, omega arith)

-- ELEMENT i IS BIT i
pub bits_at : (k u i : ℕ) → i < k → get_or (decisions k u) i false ≡ eqb (u / 2 ^ i % 2) 1
unfolding decisions
bits_at zero u i h = absurd (omega arith)
bits_at (suc k) u zero h = rw (div-one u)
bits_at (suc k) u (suc i) h =
    let e : 1 + i ≡ suc i = omega arith in
    rw (bits_at k (u / 2) i (omega arith), rw e at (shr-shr u 1 i))
