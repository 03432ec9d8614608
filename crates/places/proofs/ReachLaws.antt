-- The reach of a branch: what its undecided blocks add to the places, block by block, and the places at which its hours clear, hour by hour. Assumes nothing.
use Prim.Native.Nat.{ℕ, suc, ◌+◌, ◌-◌, ◌*◌, ◌≤◌, ◌<◌}
use mathlib.Core.Path.{◌≡◌, refl, ◌∙◌}
use mathlib.Core.List.{List}
use mathlib.Core.Bool.{Bool, true, false, not, ◌&&◌, ◌||◌}
use native.Mathlib.Omega.{arith}
use native.Mathlib.Decide.{dec_le}
use native.Mathlib.Nat.{lt_of_not-le}
use native.Mathlib.Numerals.{add-one, sub-one}
use lib.Dec.{eqb, leb}
use lib.ListN.{length, get_or, set, replicate, length-set, get_or-eq_default}
use lib.Seq.{get_or-set_same, get_or-set_other}
use borrow.Author.Tests.{leb-true, le-leb, lt-leb}
use Rattle.rules.specs.Hour.{when}
use Rattle.rules.proofs.Tests.{by-test, both, clash}
use Rattle.rules.proofs.CurveLaws.{when-le}
use Rattle.places.specs.Layout.{hour_places, most_added}
use Rattle.places.specs.Hours.{Small, of_hour, larger, smaller}
use Rattle.places.specs.Blocks.{side_at, against_at, gain_at, row_quantity, added_in}
use Rattle.places.specs.Reach.{is_left, is_taken, must_move, may_move, must_from, may_from, AddedTo, AllBalance, Reaches}
use Rattle.orders.proofs.ColumnLaws.{zeros}
use Rattle.places.proofs.NumberLaws.{below_next, smaller-below}
use Rattle.places.proofs.AddedLaws.{places-grow, added_more}

-- WHETHER ONE BLOCK MOVES its places on, in the code's form
pub moves-are : (blocks : List ℕ) (out : Bool) (loss limit i : ℕ) →
    (((is_left blocks out loss limit i && eqb (side_at blocks i) 0) || (is_taken blocks out loss limit i && not (eqb (side_at blocks i) 0)))
    ≡ must_move blocks out loss limit i)
    × ((not (is_left blocks out loss limit i) && not (is_taken blocks out loss limit i)) ≡ may_move blocks out loss limit i)
unfolding must_move may_move
moves-are blocks out loss limit i = (refl, refl)

-- WHAT ONE BLOCK ADDS to an hour: where it is taken and not out, or left out, at a loss below the limit where it is not out
module _ (blocks : List ℕ) (out : Bool) (loss limit i row : ℕ) where
  abbrev must-add : ℕ
  must-add = when (must_move blocks out loss limit i) row

  abbrev may_add : ℕ
  may_add = when (may_move blocks out loss limit i) row

  pub taken-adds : out ≡ false → loss + against_at blocks i < limit →
      (must-add ≤ when (not (eqb (side_at blocks i) 0)) row) × (when (not (eqb (side_at blocks i) 0)) row ≤ must-add + may_add)
  unfolding must_move may_move
  taken-adds e k = rw (e, lt-leb limit (loss + against_at blocks i) k) (go (eqb (side_at blocks i) 0) (is_taken blocks false loss limit i))
    where
      go : (b t : Bool) → (when (((false || false) && b) || (t && not b)) row ≤ when (not b) row)
          × (when (not b) row ≤ when (((false || false) && b) || (t && not b)) row + when (not (false || false) && not t) row)
      go true true = (omega arith, omega arith)
      go true false = (omega arith, omega arith)
      go false true = (omega arith, omega arith)
      go false false = (omega arith, omega arith)

  pub left-adds : (out ≡ false → loss + gain_at blocks i < limit) →
      (must-add ≤ when (eqb (side_at blocks i) 0) row) × (when (eqb (side_at blocks i) 0) row ≤ must-add + may_add)
  unfolding must_move may_move
  left-adds k = rw not_taken (go (eqb (side_at blocks i) 0) (is_left blocks out loss limit i))
    where
      not_taken : is_taken blocks out loss limit i ≡ false
      not_taken = by-test (λ u. out ≡ u → (not u && leb limit (loss + gain_at blocks i)) ≡ false) out (λ _ _. refl)
          (λ _ e. lt-leb limit (loss + gain_at blocks i) (k e)) refl

      go : (b l : Bool) → (when ((l && b) || (false && not b)) row ≤ when b row)
          × (when b row ≤ when ((l && b) || (false && not b)) row + when (not l && not false) row)
      go true true = (omega arith, omega arith)
      go true false = (omega arith, omega arith)
      go false true = (omega arith, omega arith)
      go false false = (omega arith, omega arith)

-- THE PLACES WITHIN REACH lie in the tables' rows
column-small : (m : ℕ) (l : List ℕ) → length l ≡ hour_places → ((h : ℕ) → h < hour_places → get_or l h 0 ≤ m) → Small m l
column-small m l size f i = elim (dec_le hour_places i) [
  | yes k ↦ let z : length l ≤ i = omega arith in rw (get_or-eq_default l 0 z) (omega arith)
  | no k ↦ f i (lt_of_not-le k)
]

module _ {first last least free from to : List ℕ} (reach : Reaches first last least free from to)
    {m : ℕ} (small : Small m last) where
  pub to-fits : (h : ℕ) → h < hour_places → get_or to h 0 ≤ m
  to-fits h k =
      let is = rw sub-one at (reach.to_is (suc h) (omega arith) (omega arith)) in
      omega (arith, small h, (smaller-below (get_or least h 0 + get_or free h 0) (get_or last h 0)).1)

  pub to-small : length to ≡ hour_places → Small m to
  to-small size = column-small m to size to-fits

  pub from-small : length from ≡ hour_places → Small m from
  from-small size =
      column-small m from size (λ h k.
      let le = rw sub-one at (reach.balanced (suc h) (omega arith) (omega arith)) in
      omega (arith, to-fits h k))

-- THE LOOPS: the undecided blocks from the last on
module _ (blocks : List ℕ) (count at out loss limit : ℕ) (places : List ℕ) where
  abbrev added : (ℕ → Bool) → ℕ → ℕ → ℕ
  added moves h i = added_in blocks moves h (count - i) i

  pub record RestTo (i : ℕ) (least free : List ℕ) : Type 0 where
    pub from : at ≤ i
    pub to : i ≤ count
    pub least_size : length least ≡ hour_places
    pub free_size : length free ≡ hour_places
    pub least_is : (h : ℕ) → 1 ≤ h → h ≤ hour_places → of_hour least h ≡ of_hour places h + added (must_from blocks at out loss limit) h i
    pub free_is : (h : ℕ) → 1 ≤ h → h ≤ hour_places → of_hour free h ≡ added (may_from blocks at out loss limit) h i
    pub least_fits : Small ((at + (count - i)) * most_added) least
    pub free_fits : Small ((count - i) * most_added) free

  pub rest-start : at ≤ count → length places ≡ hour_places → Small (at * most_added) places → RestTo count places (replicate hour_places 0)
  unfolding added_in
  rest-start few size small =
      let none : count - count ≡ 0 = omega arith in
      let same : at + (count - count) ≡ at = omega arith in
      record {
        from = few;
        to = omega arith;
        least_size = size;
        free_size = refl;
        least_is = λ h a b. rw none (omega arith);
        free_is = λ h a b. rw none (zeros hour_places (h - 1));
        least_fits = rw same small;
        free_fits = λ i. omega (arith, zeros hour_places i);
      }

  one_more : (moves : ℕ → Bool) (h i : ℕ) → 0 < i → i ≤ count →
      added moves h (i - 1) ≡ when (moves (i - 1)) (row_quantity blocks (i - 1) h) + added moves h i
  one_more moves h i = added_more blocks moves h count i

  pub rest-next : (i : ℕ) (least free more freer : List ℕ) → RestTo i least free → at < i → ((h : ℕ) → row_quantity blocks (i - 1) h ≤ most_added) →
      AddedTo blocks (i - 1) (must_from blocks at out loss limit (i - 1)) (may_from blocks at out loss limit (i - 1)) least free more freer →
      RestTo (i - 1) more freer
  rest-next i least free more freer r pos few added =
      let sm = added.more_size in
      let sf = added.freer_size in
      let m = added.more_is in
      let f = added.freer_is in
      let n₁ : at + (count - (i - 1)) ≡ at + (count - i) + 1 = omega (arith, r.to) in
      let n₂ : count - (i - 1) ≡ count - i + 1 = omega (arith, r.to) in
      record {
        from = omega arith;
        to = omega (arith, r.to);
        least_size = sm;
        free_size = sf;
        least_is = λ h x y.
            omega (arith, m h x y, r.least_is h x y, one_more (must_from blocks at out loss limit) h i (omega arith) r.to);
        free_is = λ h x y. omega (arith, f h x y, r.free_is h x y, one_more (may_from blocks at out loss limit) h i (omega arith) r.to);
        least_fits = rw n₁ (places-grow (at + (count - i)) least more sm r.least_fits (λ h x y.
            omega (arith, m h x y, when-le (must_from blocks at out loss limit (i - 1)) (row_quantity blocks (i - 1) h), few h)));
        free_fits = rw n₂ (places-grow (count - i) free freer sf r.free_fits (λ h x y.
            omega (arith, f h x y, when-le (may_from blocks at out loss limit (i - 1)) (row_quantity blocks (i - 1) h), few h)));
      }

module _ (first last least free : List ℕ) where
  abbrev lowest_at : ℕ → ℕ
  lowest_at k = larger (get_or least k 0) (get_or first k 0)

  abbrev highest_at : ℕ → ℕ
  highest_at k = smaller (get_or least k 0 + get_or free k 0) (get_or last k 0)

  pub record ReachTo (h : ℕ) (balances : Bool) (from to : List ℕ) : Type 0 where
    pub inside : h ≤ hour_places
    pub from_size : length from ≡ hour_places
    pub to_size : length to ≡ hour_places
    pub from_is : (k : ℕ) → k < h → get_or from k 0 ≡ lowest_at k
    pub to_is : (k : ℕ) → k < h → get_or to k 0 ≡ highest_at k
    pub balanced : balances ≡ true → (k : ℕ) → k < h → lowest_at k ≤ highest_at k
    pub unbalanced : balances ≡ false → ((k : ℕ) → k < h → lowest_at k ≤ highest_at k) → ⊥

  pub reach-next : (h : ℕ) (balances : Bool) (from to : List ℕ) (lowest highest : ℕ) → ReachTo h balances from to → h < hour_places →
      lowest ≡ lowest_at h → highest ≡ highest_at h →
      ReachTo (h + 1) (balances && leb lowest highest) (set from h lowest) (set to h highest)
  reach-next h balances from to lowest highest r k el eh =
      let in_f : h < length from = omega (arith, r.from_size) in
      let in_t : h < length to = omega (arith, r.to_size) in
      record {
        inside = omega arith;
        from_size = rw length-set r.from_size;
        to_size = rw length-set r.to_size;
        from_is = λ j a. below_next (λ i. get_or (set from h lowest) i 0 ≡ lowest_at i) h j
            (λ b. get_or-set_other from h j lowest 0 (omega arith) ∙ r.from_is j b) (get_or-set_same from h lowest 0 in_f ∙ el) (rw add-one at a);
        to_is = λ j a. below_next (λ i. get_or (set to h highest) i 0 ≡ highest_at i) h j
            (λ b. get_or-set_other to h j highest 0 (omega arith) ∙ r.to_is j b) (get_or-set_same to h highest 0 in_t ∙ eh) (rw add-one at a);
        balanced = λ e j a.
            let t = both balances (leb lowest highest) e in
            below_next (λ i. lowest_at i ≤ highest_at i) h j (r.balanced t.0 j) (rw (el, eh) at (leb-true lowest highest t.1)) (rw add-one at a);
        unbalanced = λ e f.
            by-test (λ t. (t && leb lowest highest) ≡ false → balances ≡ t → ⊥) balances
            (λ b x _. clash (rw (el, eh) (le-leb (lowest_at h) (highest_at h) (f h (omega arith)))) x)
            (λ b _ _. r.unbalanced b (λ j a. f j (omega arith))) e refl;
      }

  pub reach_none : (h : ℕ) (from to : List ℕ) → ReachTo h false from to → AllBalance first last least free → ⊥
  reach_none h from to r f = r.unbalanced refl (λ j a. rw sub-one at (f (suc j) (omega arith) (omega (arith, r.inside))))
