-- WHAT KEEPS A GUESS SAFE: places that a block moves on; and the sum of a block's row. Assumes nothing.
use Prim.Native.Nat.{ℕ, suc, ◌+◌, ◌-◌, ◌*◌, ◌≤◌}
use mathlib.Core.Bool.{Bool}
use mathlib.Core.Path.{◌≡◌}
use mathlib.Core.List.{List}
use native.Mathlib.Omega.{arith}
use native.Mathlib.Numerals.{add-one, sub-one}
use lib.ListN.{length, get_or}
use Rattle.rules.specs.Hour.{when}
use Rattle.rules.specs.Day.{sum_to}
use Rattle.rules.proofs.CurveLaws.{when-le}
use Rattle.places.specs.Layout.{hour_places, most_added, rows_column}
use Rattle.places.specs.Hours.{Small}
use Rattle.places.specs.Blocks.{row_quantity, BlocksSized}
use Rattle.places.proofs.AddedLaws.{places-grow}

-- a number of a block's row
pub row_small : (blocks : List ℕ) → BlocksSized blocks → (i h : ℕ) → get_or blocks (rows_column + hour_places * i + h) 0 ≤ most_added
row_small blocks sized i h = rw sub-one at (sized.rows_fit i (suc h))

-- and the sum of its first numbers, one hour further
pub row_next : (blocks : List ℕ) (i h sum : ℕ) → sum ≡ sum_to h (row_quantity blocks i) →
    sum + get_or blocks (rows_column + hour_places * i + h) 0 ≡ sum_to (h + 1) (row_quantity blocks i)
unfolding sum_to
row_next blocks i h sum e = rw (add-one, e, sub-one)

-- places that a block moves on
pub places-moved : (blocks places r : List ℕ) (i : ℕ) (test : Bool) → BlocksSized blocks → Small (i * most_added) places →
    (length r ≡ hour_places) × ((h : ℕ) → 1 ≤ h → h ≤ hour_places → get_or r (h - 1) 0 ≡ get_or places (h - 1) 0 + when test (row_quantity blocks i h)) →
    Small ((i + 1) * most_added) r
places-moved blocks places r i test sized small moved =
    places-grow i places r moved.0 small
    (λ h first last. omega (arith, moved.1 h first last, when-le test (row_quantity blocks i h), sized.rows_fit i h))
