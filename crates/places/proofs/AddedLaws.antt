-- What blocks add to the hours' places: a row, and one block more. Assumes nothing.
use Prim.Native.Nat.{ℕ, suc, ◌+◌, ◌-◌, ◌*◌, ◌≤◌, ◌<◌}
use mathlib.Core.Path.{◌≡◌, ◌∙◌}
use mathlib.Core.List.{List}
use mathlib.Core.Bool.{Bool}
use native.Mathlib.Omega.{arith}
use native.Mathlib.Numerals.{add-one, sub-one}
use lib.ListN.{length, get_or, set, length-set}
use lib.Seq.{get_or-set_same, get_or-set_other}
use Rattle.rules.specs.Hour.{when}
use Rattle.places.specs.Layout.{hour_places, most_added, rows_column}
use Rattle.places.specs.Hours.{Small, of_hour}
use Rattle.places.specs.Blocks.{row_quantity, added_in}
use Rattle.places.proofs.NumberLaws.{below_next}

-- places that grow by at most a block's quantity
pub places-grow : (n : ℕ) (places r : List ℕ) → length r ≡ hour_places → Small (n * most_added) places →
    ((h : ℕ) → 1 ≤ h → h ≤ hour_places → of_hour r h ≤ of_hour places h + most_added) → Small ((n + 1) * most_added) r
places-grow n places r e small f i = at (native.Mathlib.Decide.dec_le hour_places i)
  where
    at : Dec (hour_places ≤ i) → get_or r i 0 ≤ (n + 1) * most_added
    at (yes k) = let z : length r ≤ i = omega arith in rw (lib.ListN.get_or-eq_default r 0 z) (omega arith)
    at (no k) =
        let a = rw sub-one at (f (suc i) (omega arith) (omega (arith, native.Mathlib.Nat.lt_of_not-le k))) in
        omega (arith, small i)

-- A ROW ADDED to places so many times, hour by hour

module _ (places blocks : List ℕ) (i times : ℕ) where
  pub record RowTo (h : ℕ) (r : List ℕ) : Type 0 where
    pub inside : h ≤ hour_places
    pub size : length r ≡ hour_places
    pub done : (k : ℕ) → k < h → get_or r k 0 ≡ get_or places k 0 + times * get_or blocks (rows_column + hour_places * i + k) 0
    pub ahead : (k : ℕ) → h ≤ k → get_or r k 0 ≡ get_or places k 0

  pub row_next : (h : ℕ) (r : List ℕ) → RowTo h r → h < hour_places → RowTo (h + 1) (set r h (get_or r h 0 + times * get_or blocks (rows_column + hour_places * i + h) 0))
  row_next h r g k =
      let inside : h < length r = omega (arith, g.size) in
      let v = get_or r h 0 + times * get_or blocks (rows_column + hour_places * i + h) 0 in
      record {
        inside = omega arith;
        size = rw length-set g.size;
        done = λ j a. below_next (λ n. get_or (set r h v) n 0 ≡ get_or places n 0 + times * get_or blocks (rows_column + hour_places * i + n) 0) h j
            (λ b. get_or-set_other r h j v 0 (omega arith) ∙ g.done j b)
            (get_or-set_same r h v 0 inside ∙ rw (g.ahead h (omega arith))) (rw add-one at a);
        ahead = λ j a. get_or-set_other r h j v 0 (omega arith) ∙ g.ahead j (omega arith);
      }

-- one block more from the last on
pub added_more : (blocks : List ℕ) (moves : ℕ → Bool) (h count i : ℕ) → 0 < i → i ≤ count →
    added_in blocks moves h (count - (i - 1)) (i - 1) ≡ when (moves (i - 1)) (row_quantity blocks (i - 1) h) + added_in blocks moves h (count - i) i
unfolding added_in
added_more blocks moves h count i pos le =
    let e : count - (i - 1) ≡ suc (count - i) = omega arith in
    let f : suc (i - 1) ≡ i = omega arith in
    rw (e, f)
