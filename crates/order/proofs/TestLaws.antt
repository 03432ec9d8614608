-- WHETHER A LIST IS AN ORDER: the tests of all places pass exactly where it is one. Assumes nothing.
use Prim.Native.Nat.{ℕ, zero, suc, ◌-◌, ◌≤◌, ◌<◌}
use mathlib.Core.Bool.{Bool, true, false, ◌&&◌}
use mathlib.Core.Path.{◌≡◌, sym, ◌∙◌}
use mathlib.Core.List.{List}
use native.Mathlib.Omega.{arith}
use native.Mathlib.Nat.{zero-add}
use lib.Dec.{ltb, leb, eqb}
use lib.ListN.{get_or}
use borrow.Author.Tests.{ltb-true, lt-ltb, le-ltb, leb-true, le-leb, eqb-true, eq-eqb, ne_eqb}
use Rattle.std.specs.List.{range_with_len}
use Rattle.std.proofs.lemmas.List.FromFn.{length-range_with_len, get_or-range_with_len}
use Rattle.std.proofs.lemmas.List.Sums.{AllPass-from_list_all, list_all-from_AllPass}
use Rattle.rules.proofs.Tests.{both}
use Rattle.book.specs.Bounds.{most_blocks}
use Rattle.places.specs.Blocks.{parent_at, BlocksSized}
use Rattle.order.specs.Order.{placed_name, IsOrderOf}
use Rattle.order.specs.Written.{stands_at, all_stand, EachItself}

-- what the tests of one place say
pub record Stands (blocks : List ℕ) (count : ℕ) (order place : List ℕ) (j : ℕ) : Type 0 where
  pub order_in : get_or order j 0 < count
  pub place_in : get_or place j 0 < count
  pub there : get_or place (get_or order j 0) 0 ≡ j
  pub back : get_or order (get_or place j 0) 0 ≡ j
  pub parent_before : placed_name place (parent_at blocks (get_or order j 0)) ≤ j

module _ (blocks : List ℕ) (count : ℕ) (order place : List ℕ) where
  -- ONE PLACE
  pub stands-true : (j : ℕ) → stands_at blocks count order place j ≡ true → Stands blocks count order place j
  unfolding stands_at
  stands-true j e =
      let inside = ltb (get_or order j 0) count && ltb (get_or place j 0) count in
      let back = eqb (get_or place (get_or order j 0) 0) j && eqb (get_or order (get_or place j 0) 0) j in
      let parts = both inside (back && leb (placed_name place (parent_at blocks (get_or order j 0))) j) e in
      let ins = both (ltb (get_or order j 0) count) (ltb (get_or place j 0) count) parts.0 in
      let rest = both back (leb (placed_name place (parent_at blocks (get_or order j 0))) j) parts.1 in
      let ways = both (eqb (get_or place (get_or order j 0) 0) j) (eqb (get_or order (get_or place j 0) 0) j) rest.0 in
      record {
        order_in = ltb-true _ _ ins.0;
        place_in = ltb-true _ _ ins.1;
        there = eqb-true _ _ ways.0;
        back = eqb-true _ _ ways.1;
        parent_before = leb-true _ _ rest.1;
      }

  pub true-stands : (j : ℕ) → Stands blocks count order place j → stands_at blocks count order place j ≡ true
  unfolding stands_at
  true-stands j s =
      rw (
        lt-ltb (get_or order j 0) count s.order_in,
        lt-ltb (get_or place j 0) count s.place_in,
        eq-eqb (get_or place (get_or order j 0) 0) j s.there,
        eq-eqb (get_or order (get_or place j 0) 0) j s.back,
        le-leb (placed_name place (parent_at blocks (get_or order j 0))) j s.parent_before,
      )

  -- where a number is not below count, the tests fail; else they are those that lead back
  pub order-out : (j : ℕ) → count ≤ get_or order j 0 → false ≡ stands_at blocks count order place j
  unfolding stands_at
  order-out j more = rw (le-ltb (get_or order j 0) count more)

  pub place_out : (j : ℕ) → get_or order j 0 < count → count ≤ get_or place j 0 → false ≡ stands_at blocks count order place j
  unfolding stands_at
  place_out j less more = rw (lt-ltb (get_or order j 0) count less, le-ltb (get_or place j 0) count more)

  pub both-in : (j : ℕ) (before : Bool) → get_or order j 0 < count → get_or place j 0 < count →
      before ≡ leb (placed_name place (parent_at blocks (get_or order j 0))) j →
      ((eqb (get_or place (get_or order j 0) 0) j && eqb (get_or order (get_or place j 0) 0) j) && before) ≡ stands_at blocks count order place j
  unfolding stands_at
  both-in j before a b e = rw (lt-ltb (get_or order j 0) count a, lt-ltb (get_or place j 0) count b, e)

  -- ALL PLACES
  each : all_stand blocks count order place count ≡ true → (j : ℕ) → j < count → Stands blocks count order place j
  unfolding all_stand
  each e j k =
      let size = length-range_with_len 0 count in
      let here = AllPass-from_list_all (stands_at blocks count order place) (range_with_len 0 count) e j 0 (omega (arith, size)) in
      stands-true j (rw (get_or-range_with_len 0 count j 0 k, zero-add j) at here)

  all_true : ((j : ℕ) → j < count → Stands blocks count order place j) → all_stand blocks count order place count ≡ true
  unfolding all_stand
  all_true s =
      list_all-from_AllPass (stands_at blocks count order place) (range_with_len 0 count) (λ j d k.
      let k : j < count = omega (arith, length-range_with_len 0 count, k) in
      rw (get_or-range_with_len 0 count j d k, zero-add j) (true-stands j (s j k)))

  -- the tests pass where it is an order, and nowhere else
  pub ordered : (all : Bool) → all ≡ all_stand blocks count order place count → all ≡ true → IsOrderOf blocks count order place
  ordered all e passes =
      let s = each (sym e ∙ passes) in
      record {
        order_in = λ j k. (s j k).order_in;
        place_in = λ i k. (s i k).place_in;
        there = λ j k. (s j k).there;
        back = λ i k. (s i k).back;
        parents_before = λ j k. (s j k).parent_before;
      }

  pub passes-ordered : (all : Bool) → all ≡ all_stand blocks count order place count → IsOrderOf blocks count order place → all ≡ true
  passes-ordered all e o =
      e ∙ all_true (λ j k. record {
        order_in = o.order_in j k;
        place_in = o.place_in j k;
        there = o.there j k;
        back = o.back j k;
        parent_before = o.parents_before j k;
      })

-- THE NUMBERS THEMSELVES are an order and the places in it, since a parent's number is the lower one
pub itself-order : (blocks : List ℕ) (count : ℕ) (order place : List ℕ) → BlocksSized blocks → count ≤ most_blocks → EachItself order → EachItself place →
    IsOrderOf blocks count order place
unfolding placed_name
itself-order blocks count order place sized few of at = record {
  order_in = λ i k. rw (of i (omega arith)) k;
  place_in = λ i k. rw (at i (omega arith)) k;
  there = λ j k. rw (of j (omega arith)) (at j (omega arith));
  back = λ j k. rw (at j (omega arith)) (of j (omega arith));
  parents_before = λ j k. rw (of j (omega arith)) (own (parent_at blocks j) j (omega arith) (sized.parents_fit j (omega arith)));
}
  where
    -- a name by its place is the name
    own : (name j : ℕ) → j < most_blocks → name ≤ j → placed_name place name ≤ j
    own zero j few le = omega arith
    own (suc k) j few le = let e : suc k - 1 ≡ k = omega arith in rw (ne_eqb (suc k) 0 (λ z. omega arith), e, at k (omega arith)) le
