-- SETS OF BLOCKS, one block further: the blocks that gain, and a set less the blocks whose parents it does not hold. Assumes nothing.
use Prim.Native.Nat.{ℕ, ◌+◌, ◌-◌, ◌≤◌}
use mathlib.Core.Bool.{Bool, true, false, cond, not, ◌&&◌}
use mathlib.Core.Path.{◌≡◌, refl}
use mathlib.Core.List.{List}
use native.Mathlib.Numerals.{add-one}
use borrow.Author.Tests.{lt-ltb}
use lib.Dec.{ltb}
use lib.ListN.{set}
use lib.Seq.{set-get_or}
use Rattle.places.specs.Blocks.{gain_at, parent_at}
use Rattle.guess.specs.Sets.{holds_block, gainers, less_block, all_with_parents}

-- the blocks that gain, one block further
pub gainers-next : (blocks : List ℕ) (i : ℕ) (taken : List Bool) → taken ≡ gainers blocks i →
    set taken i (ltb 0 (gain_at blocks i)) ≡ gainers blocks (i + 1)
unfolding gainers
gainers-next blocks i taken e = rw (e, add-one)

-- a test and one that passes, and one that does not
and-true : (test : Bool) → (test && true) ≡ test
and-true true = refl
and-true false = refl

and-false : (test : Bool) → (test && false) ≡ false
and-false true = refl
and-false false = refl

-- a block stays in a set where a test passes
kept-where : (taken : List Bool) (i : ℕ) (test : Bool) → set taken i (holds_block taken i && test) ≡ cond (not test) (less_block taken i) taken
kept-where taken i true = rw (and-true (holds_block taken i)) (set-get_or taken i false)
kept-where taken i false = rw (and-false (holds_block taken i))

-- a set less the blocks that lack their parents, one block further: one that has a parent
pub with-parents-next : (blocks : List ℕ) (before : List Bool) (i : ℕ) (taken : List Bool) (parent : ℕ) → taken ≡ all_with_parents blocks before i →
    1 ≤ parent_at blocks i → parent ≡ parent_at blocks i - 1 →
    set taken i (holds_block taken i && holds_block taken parent) ≡ all_with_parents blocks before (i + 1)
unfolding all_with_parents
with-parents-next blocks before i taken parent e some is =
    rw (is, add-one, ← e, lt-ltb 0 (parent_at blocks i) some) (kept-where taken i (holds_block taken (parent_at blocks i - 1)))

-- and one that has none
pub with-parents-none : (blocks : List ℕ) (before : List Bool) (i : ℕ) (taken : List Bool) → taken ≡ all_with_parents blocks before i → parent_at blocks i ≡ 0 →
    taken ≡ all_with_parents blocks before (i + 1)
unfolding all_with_parents
with-parents-none blocks before i taken e none = rw (add-one, ← e, none)
