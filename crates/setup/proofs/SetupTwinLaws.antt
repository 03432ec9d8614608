-- The rest of the search's columns: the hours' three columns in one list, the blocks' parents, their rows, and their twins. Assumes nothing.
use Prim.Native.Nat.{ℕ, zero, suc, ◌+◌, ◌-◌, ◌*◌, ◌/◌, ◌%◌, ◌^◌, ◌≤◌, ◌<◌}
use mathlib.Core.Path.{◌≡◌, refl, sym, ap, ◌∙◌}
use mathlib.Core.List.{List, ◌++◌}
use mathlib.Core.Bool.{Bool, true, false, cond, not, ◌&&◌, ◌||◌, beq}
use native.Mathlib.Omega.{arith}
use native.Mathlib.Decide.{dec_le, ℕ_discrete}
use native.Mathlib.Nat.{lt_of_not-le}
use native.Mathlib.Numerals.{add-one}
use lib.Dec.{leb, ltb, eqb}
use lib.ListN.{length, take, drop, get_or, set, replicate, length-set, length-take, length-drop, length-append, get_or-append}
use lib.Seq.{get_or-set_same, get_or-set_other, get_or-take, get_or-drop, get_or-append_right, ext_get_or}
use borrow.Author.Tests.{leb-true, leb-false, ltb-true, eqb-true}
use Rattle.book.specs.Bounds.{most_blocks}
use Rattle.places.specs.Layout.{against_column, ahead_column, behind_column, block_list_size, rows_column, hour_places, gain_column, hour_list_size, hours_column, side_column, last_column, limit_column, most_quantity, parent_column, quantity_column, turn_column, change_place, shifts_place}
use Rattle.records.specs.Records.{holds_hour}
use Rattle.orders.specs.Columns.{side_for}
use Rattle.rules.specs.Orders.{Side, buy, sell}
use Rattle.rules.specs.Hour.{by_side, when}
use Rattle.rules.specs.Execution.{test_side}
use Rattle.rules.proofs.Tests.{by-test, both}
use Rattle.places.specs.Hours.{clears_first, clears_last, gaps_turn, change_often, gives_way_in}
use Rattle.places.specs.Blocks.{side_at, hours_at, quantity_at, limit_at, parent_at, ahead_at, behind_at, row_quantity, BlocksSized}
use Rattle.setup.specs.Setup.{
  ParentsHeld,
  Written,
  Widened,
  ParentsWritten,
  RowsEmpty,
  RowsWritten,
  ParentsBefore,
  parent_numbers,
  Marked,
  TwinsAt,
  StandsIn,
  no_worse,
  TwinAt,
  TwinOf,
  TwinsEmpty,
  TwinsWritten,
}
use Rattle.places.proofs.HourColumnLaws.{bit-times, bit-times-le, hour-bit}
use Rattle.orders.proofs.ColumnLaws.{zeros}
use Rattle.places.proofs.NumberLaws.{below_next}

-- a test as a number is told by it
marked : (b : Bool) → not (eqb (cond b 1 0) 0) ≡ b
marked true = refl
marked false = refl

-- THE HOURS' COLUMNS IN ONE LIST, hour by hour
module _ (first last turn : List ℕ) (often way : ℕ) where
  pub record JoinedTo (h : ℕ) (r : List ℕ) : Type 0 where
    pub size : length r ≡ hour_list_size
    pub firsts : (k : ℕ) → k < h → get_or r k 0 ≡ get_or first k 0
    pub lasts : (k : ℕ) → k < h → get_or r (last_column + k) 0 ≡ get_or last k 0
    pub turns : (k : ℕ) → k < h → get_or r (turn_column + k) 0 ≡ get_or turn k 0
    pub change : get_or r change_place 0 ≡ often
    pub shifts : get_or r shifts_place 0 ≡ way

  pub joined-start : JoinedTo 0 (set (set (replicate hour_list_size 0) change_place often) shifts_place way)
  joined-start = record {
    size = refl;
    firsts = λ k a. absurd (omega arith);
    lasts = λ k a. absurd (omega arith);
    turns = λ k a. absurd (omega arith);
    change = get_or-set_other (set (replicate hour_list_size 0) change_place often) shifts_place change_place way 0 (λ e. omega arith)
        ∙ get_or-set_same (replicate hour_list_size 0) change_place often 0 (omega arith);
    shifts = get_or-set_same (set (replicate hour_list_size 0) change_place often) shifts_place way 0 (rw length-set (omega arith));
  }

  pub joined-next : (h : ℕ) (r : List ℕ) → JoinedTo h r → h < hour_places →
      JoinedTo (h + 1) (set (set (set r h (get_or first h 0)) (last_column + h) (get_or last h 0)) (turn_column + h) (get_or turn h 0))
  joined-next h r j inside = record {
    size = rw length-set size₂;
    firsts = λ k a. below_next (λ k. get_or r₃ k 0 ≡ get_or first k 0) h k
        (λ b. other k (omega arith) (omega arith) (omega arith) ∙ j.firsts k b) first-here (rw add-one at a);
    lasts = λ k a. below_next (λ k. get_or r₃ (last_column + k) 0 ≡ get_or last k 0) h k
        (λ b. other (last_column + k) (omega arith) (omega arith) (omega arith) ∙ j.lasts k b) last-here (rw add-one at a);
    turns = λ k a. below_next (λ k. get_or r₃ (turn_column + k) 0 ≡ get_or turn k 0) h k
        (λ b. other (turn_column + k) (omega arith) (omega arith) (omega arith) ∙ j.turns k b) turn-here (rw add-one at a);
    change = other change_place (omega arith) (omega arith) (omega arith) ∙ j.change;
    shifts = other shifts_place (omega arith) (omega arith) (omega arith) ∙ j.shifts;
  }
    where
      r₁ : List ℕ
      r₁ = set r h (get_or first h 0)

      r₂ : List ℕ
      r₂ = set r₁ (last_column + h) (get_or last h 0)

      r₃ : List ℕ
      r₃ = set r₂ (turn_column + h) (get_or turn h 0)

      size₁ : length r₁ ≡ hour_list_size
      size₁ = length-set r h (get_or first h 0) ∙ j.size

      size₂ : length r₂ ≡ hour_list_size
      size₂ = length-set r₁ (last_column + h) (get_or last h 0) ∙ size₁

      other : (at : ℕ) → (at ≡ h → ⊥) → (at ≡ hour_places + h → ⊥) → (at ≡ turn_column + h → ⊥) → get_or r₃ at 0 ≡ get_or r at 0
      other at e₀ e₁ e₂ =
          get_or-set_other r₂ (turn_column + h) at (get_or turn h 0) 0 e₂ ∙ get_or-set_other r₁ (last_column + h) at (get_or last h 0) 0 e₁
          ∙ get_or-set_other r h at (get_or first h 0) 0 e₀

      first-here : get_or r₃ h 0 ≡ get_or first h 0
      first-here =
          get_or-set_other r₂ (turn_column + h) h (get_or turn h 0) 0 (λ e. omega arith) ∙ get_or-set_other r₁ (last_column + h) h (get_or last h 0) 0 (λ e. omega arith)
          ∙ get_or-set_same r h (get_or first h 0) 0 (omega (arith, j.size))

      last-here : get_or r₃ (last_column + h) 0 ≡ get_or last h 0
      last-here =
          get_or-set_other r₂ (turn_column + h) (last_column + h) (get_or turn h 0) 0 (λ e. omega arith)
          ∙ get_or-set_same r₁ (last_column + h) (get_or last h 0) 0 (omega (arith, size₁))

      turn-here : get_or r₃ (turn_column + h) 0 ≡ get_or turn h 0
      turn-here = get_or-set_same r₂ (turn_column + h) (get_or turn h 0) 0 (omega (arith, size₂))

  -- a column of the list is that column
  column-is : (r column : List ℕ) (from : ℕ) → length r ≡ hour_list_size → from ≤ turn_column → length column ≡ hour_places →
      ((k : ℕ) → k < hour_places → get_or r (from + k) 0 ≡ get_or column k 0) → take hour_places (drop from r) ≡ column
  column-is r column from size inside full is =
      let e : length (take hour_places (drop from r)) ≡ hour_places = simp (length-take, length-drop) (omega arith) in
      ext_get_or 0 (take hour_places (drop from r)) column (e ∙ sym full) (λ k a.
      let b : k < hour_places = omega arith in
      get_or-take hour_places (drop from r) k 0 b ∙ get_or-drop from r k 0 ∙ is k b)

  pub joined-all : (h : ℕ) (r : List ℕ) → JoinedTo h r → hour_places ≤ h → length first ≡ hour_places → length last ≡ hour_places → length turn ≡ hour_places →
      (b : Bool) → way ≡ cond b 1 0 →
      (clears_first r ≡ first) × (clears_last r ≡ last) × (gaps_turn r ≡ turn) × (change_often r ≡ often) × (gives_way_in r ≡ b)
  joined-all h r j k f l t b e = (
    column-is r first 0 j.size (omega arith) f (λ i a. let z : 0 + i ≡ i = omega arith in rw z (j.firsts i (omega arith))),
    column-is r last hour_places j.size (omega arith) l (λ i a. j.lasts i (omega arith)),
    column-is r turn turn_column j.size (omega arith) t (λ i a. j.turns i (omega arith)),
    j.change,
    rw (j.shifts, e) (marked b),
  )

-- THE SIX COLUMNS in front of the whole list
none-behind : (columns : List ℕ) (n m k : ℕ) → length columns ≡ n → n ≤ k → get_or (columns ++ drop n (replicate m 0)) k 0 ≡ 0
none-behind columns n m k size a =
    let inside : length columns ≤ k = omega arith in
    get_or-append_right columns (drop n (replicate m 0)) k 0 inside ∙ get_or-drop n (replicate m 0) (k - length columns) 0 ∙ zeros m (n + (k - length columns))

pub widened-front : (columns front : List ℕ) → length columns ≡ parent_column → front ≡ columns →
    Widened columns (front ++ drop parent_column (replicate block_list_size 0))
widened-front columns front size e =
    rw e
    record {
      size = simp (length-append, length-drop) (omega (arith, size));
      same = λ k a. get_or-append columns _ 0 k (omega (arith, size));
      none = λ k a. none-behind columns parent_column block_list_size k size a;
    }

-- THE PARENTS, block by block
module _ (parents blocks : List ℕ) where
  pub record ParentsTo (i : ℕ) (r : List ℕ) : Type 0 where
    pub inside : i ≤ most_blocks
    pub size : length r ≡ block_list_size
    pub done : (j : ℕ) → j < i → parent_at r j ≡ get_or parents j 0
    pub columns : (k : ℕ) → k < parent_column → get_or r k 0 ≡ get_or blocks k 0
    pub rest : (k : ℕ) → ahead_column ≤ k → get_or r k 0 ≡ get_or blocks k 0

  pub parents-start : length blocks ≡ block_list_size → ParentsTo 0 blocks
  parents-start size = record { inside = omega arith; size = size; done = λ j a. absurd (omega arith); columns = λ k a. refl; rest = λ k a. refl }

  pub parents-next : (i : ℕ) (r : List ℕ) → ParentsTo i r → i < most_blocks → ParentsTo (i + 1) (set r (parent_column + i) (get_or parents i 0))
  parents-next i r p below = record {
    inside = omega arith;
    size = rw length-set p.size;
    done = λ j a. below_next (λ j. parent_at (set r (parent_column + i) (get_or parents i 0)) j ≡ get_or parents j 0) i j
        (λ b. other (parent_column + j) (λ e. omega arith) ∙ p.done j b)
        (get_or-set_same r (parent_column + i) (get_or parents i 0) 0 (omega (arith, p.size))) (rw add-one at a);
    columns = λ k a. other k (λ e. omega arith) ∙ p.columns k a;
    rest = λ k a. other k (λ e. omega arith) ∙ p.rest k a;
  }
    where
      other : (at : ℕ) → (at ≡ parent_column + i → ⊥) → get_or (set r (parent_column + i) (get_or parents i 0)) at 0 ≡ get_or r at 0
      other at e = get_or-set_other r (parent_column + i) at (get_or parents i 0) 0 e

  pub parents-all : (i : ℕ) (r : List ℕ) → ParentsTo i r → most_blocks ≤ i → ParentsWritten parents blocks r
  parents-all i r p all = record { size = p.size; parent_is = λ j k. p.done j (omega arith); columns = p.columns; rest = p.rest }

-- THE ROWS, number after number
module _ (blocks : List ℕ) where
  -- what stands at place k of the rows
  abbrev trade_at : ℕ → ℕ
  trade_at k = when (holds_hour (hours_at blocks (k / hour_places)) (suc (k % hour_places))) (quantity_at blocks (k / hour_places))

  pub record RowsDone (count k : ℕ) (r : List ℕ) : Type 0 where
    pub inside : k ≤ hour_places * count
    pub size : length r ≡ block_list_size
    pub same : (i : ℕ) → i < rows_column → get_or r i 0 ≡ get_or blocks i 0
    pub done : (i : ℕ) → i < k → get_or r (rows_column + i) 0 ≡ trade_at i
    pub fits : (i : ℕ) → rows_column ≤ i → get_or r i 0 ≤ most_quantity

  -- it is at most 50, and comes of a bit
  trade-is : (k : ℕ) → hours_at blocks (k / hour_places) / 2 ^ (k % hour_places) % 2 * quantity_at blocks (k / hour_places) ≡ trade_at k
  trade-is k =
      rw (hour-bit (hours_at blocks (k / hour_places)) (k % hour_places)) (bit-times (hours_at blocks (k / hour_places) / 2 ^ (k % hour_places)) (quantity_at blocks
      (k / hour_places)))

  pub trade-small : (count k : ℕ) → RowsEmpty blocks → count ≤ most_blocks → k < hour_places * count →
      hours_at blocks (k / hour_places) / 2 ^ (k % hour_places) % 2 * quantity_at blocks (k / hour_places) ≤ most_quantity
  trade-small count k empty few below =
      let small = empty.small (k / hour_places) (omega arith) in
      omega (arith, bit-times-le (hours_at blocks (k / hour_places) / 2 ^ (k % hour_places)) (quantity_at blocks (k / hour_places)))

  pub rows-begun : (count : ℕ) → length blocks ≡ block_list_size → RowsEmpty blocks → RowsDone count 0 blocks
  rows-begun count size empty = record {
    inside = omega arith;
    size = size;
    same = λ i a. refl;
    done = λ i a. absurd (omega arith);
    fits = λ i a. omega (arith, empty.none i a);
  }

  pub rows_more : (count k : ℕ) (r : List ℕ) → RowsDone count k r → RowsEmpty blocks → count ≤ most_blocks → k < hour_places * count →
      RowsDone count (k + 1) (set r (rows_column + k) (hours_at blocks (k / hour_places) / 2 ^ (k % hour_places) % 2 * quantity_at blocks (k / hour_places)))
  rows_more count k r d empty few below = record {
    inside = omega arith;
    size = rw length-set d.size;
    same = λ i a. get_or-set_other r (rows_column + k) i new 0 (λ e. omega arith) ∙ d.same i a;
    done = λ i a. below_next (λ i. get_or (set r (rows_column + k) new) (rows_column + i) 0 ≡ trade_at i) k i
        (λ b. get_or-set_other r (rows_column + k) (rows_column + i) new 0 (λ e. omega arith) ∙ d.done i b) (here ∙ trade-is k) (rw add-one at a);
    fits = λ i a. elim (dec_le i (rows_column + k)) [
      | yes x ↦ elim (dec_le (rows_column + k) i) [
        | yes y ↦ let e : i ≡ rows_column + k = omega arith in rw (e, here) (trade-small count k empty few below)
        | no y ↦ let z : i < rows_column + k = lt_of_not-le y in rw (get_or-set_other r (rows_column + k) i new 0 (λ e. omega arith)) (d.fits i a)
      ]
      | no x ↦ let z : rows_column + k < i = lt_of_not-le x in rw (get_or-set_other r (rows_column + k) i new 0 (λ e. omega arith)) (d.fits i a)
    ];
  }
    where
      new : ℕ
      new = hours_at blocks (k / hour_places) / 2 ^ (k % hour_places) % 2 * quantity_at blocks (k / hour_places)

      here : get_or (set r (rows_column + k) new) (rows_column + k) 0 ≡ new
      here = get_or-set_same r (rows_column + k) new 0 (omega (arith, d.size))

  pub rows_whole : (count k : ℕ) (r : List ℕ) → RowsDone count k r → hour_places * count ≤ k → RowsWritten count blocks r
  rows_whole count k r d all = record {
    size = d.size;
    same = d.same;
    row = λ j h a from to.
        let place : rows_column + hour_places * j + (h - 1) ≡ rows_column + (hour_places * j + (h - 1)) = omega arith in
        let block : (hour_places * j + (h - 1)) / hour_places ≡ j = omega arith in
        let hour : suc ((hour_places * j + (h - 1)) % hour_places) ≡ h = omega arith in
        let t = d.done (hour_places * j + (h - 1)) (omega arith) in
        rw place (rw (block, hour) at t);
    fits = d.fits;
  }

-- TWINS: three equalities that a test found
pub twins-from : (blocks : List ℕ) (a b : ℕ) →
    ((eqb (side_at blocks a) (side_at blocks b) && eqb (hours_at blocks a) (hours_at blocks b)) && eqb (quantity_at blocks a) (quantity_at blocks b)) ≡ true →
    TwinsAt blocks a b
twins-from blocks a b e =
    let two = both (eqb (side_at blocks a) (side_at blocks b) && eqb (hours_at blocks a) (hours_at blocks b)) _ e in
    let one = both (eqb (side_at blocks a) (side_at blocks b)) _ two.0 in
    record {
      same_side = eqb-true _ _ one.0;
      same_hours = eqb-true _ _ one.1;
      same_quantity = eqb-true _ _ two.1;
    }

pub twins-back : (blocks : List ℕ) (a b : ℕ) → TwinsAt blocks a b → TwinsAt blocks b a
twins-back blocks a b t = record { same_side = sym t.same_side; same_hours = sym t.same_hours; same_quantity = sym t.same_quantity }

-- LINKS: the numbers that the parents' column names, marked block by block
module _ (blocks : List ℕ) where
  pub record MarkedTo (j : ℕ) (marks : List ℕ) : Type 0 where
    pub inside : j ≤ most_blocks
    pub size : length marks ≡ parent_numbers
    pub done : (i : ℕ) → i < j → get_or marks (parent_at blocks i) 0 ≡ 1

  pub marked_start : MarkedTo 0 (replicate parent_numbers 0)
  marked_start = record { inside = omega arith; size = refl; done = λ i a. absurd (omega arith) }

  pub marked_next : (j : ℕ) (marks : List ℕ) → MarkedTo j marks → ParentsBefore blocks → j < most_blocks → MarkedTo (j + 1) (set marks (parent_at blocks j) 1)
  marked_next j marks m before below = record {
    inside = omega arith;
    size = rw length-set m.size;
    done = λ i a. below_next (λ i. get_or (set marks (parent_at blocks j) 1) (parent_at blocks i) 0 ≡ 1) j i (earlier i) here (rw add-one at a);
  }
    where
      here : get_or (set marks (parent_at blocks j) 1) (parent_at blocks j) 0 ≡ 1
      here = get_or-set_same marks (parent_at blocks j) 1 0 (omega (arith, m.size, before j below))

      earlier : (i : ℕ) → i < j → get_or (set marks (parent_at blocks j) 1) (parent_at blocks i) 0 ≡ 1
      earlier i b = elim (ℕ_discrete (parent_at blocks i) (parent_at blocks j)) [
        | yes same ↦ ap (λ k. get_or (set marks (parent_at blocks j) 1) k 0) same ∙ here
        | no other ↦ get_or-set_other marks (parent_at blocks j) (parent_at blocks i) 1 0 other ∙ m.done i b
      ]

  pub marked_all : (j : ℕ) (marks : List ℕ) → MarkedTo j marks → most_blocks ≤ j → Marked blocks marks
  marked_all j marks m all i k = m.done i (omega arith)

-- one block may stand in for another: by the tests of the parents and of the mark
pub stands-in : (blocks marks : List ℕ) (a b : ℕ) → Marked blocks marks →
    ((eqb (parent_at blocks a) 0 || eqb (parent_at blocks a) (parent_at blocks b)) && eqb (get_or marks (b + 1) 0) 0) ≡ true → StandsIn blocks a b
stands-in blocks marks a b marked e =
    let two = both (eqb (parent_at blocks a) 0 || eqb (parent_at blocks a) (parent_at blocks b)) _ e in
    record {
      none_or_same = λ k is. by-test (λ t. (t || eqb (parent_at blocks a) (parent_at blocks b)) ≡ true → parent_at blocks b ≡ suc k)
          (eqb (parent_at blocks a) 0) (λ none x. absurd (omega (arith, eqb-true (parent_at blocks a) 0 none, is)))
          (λ none x. sym (eqb-true (parent_at blocks a) (parent_at blocks b) x) ∙ is) two.0;
      nobodys = λ j k is.
          let named : get_or marks (b + 1) 0 ≡ 1 = ap (λ n. get_or marks n 0) (add-one b ∙ sym is) ∙ marked j k in
          omega (arith, named, eqb-true (get_or marks (b + 1) 0) 0 two.1);
    }

-- two tests with the same answer
agree : (a b : Bool) → beq a b ≡ true → a ≡ b
agree true true e = refl
agree true false e = sym e
agree false true e = e
agree false false e = refl

-- the twin found so far
pub twin-here : (blocks : List ℕ) (i j : ℕ) (ahead twins better nearer : Bool) → j < i →
    (twins ≡ true → TwinsAt blocks j i × StandsIn blocks (cond ahead j i) (cond ahead i j)) → better ≡ no_worse (side_at blocks i) (limit_at blocks j) (limit_at blocks i) →
    ((twins && ltb 0 (quantity_at blocks i)) && beq better ahead) && nearer ≡ true → TwinAt blocks i ahead j
twin-here blocks i j ahead twins better nearer k are is p =
    let three = both (twins && ltb 0 (quantity_at blocks i)) (beq better ahead)
    (both ((twins && ltb 0 (quantity_at blocks i)) && beq better ahead) nearer p).0 in
    let two = both twins (ltb 0 (quantity_at blocks i)) three.0 in
    record {
      earlier = k;
      twins = (are two.0).0;
      better = sym is ∙ agree better ahead three.1;
      trades = ltb-true 0 (quantity_at blocks i) two.1;
      stands_in = (are two.0).1;
    }

-- the twins of the blocks, block by block
module _ (blocks : List ℕ) where
  pub record TwinsTo (count i : ℕ) (r : List ℕ) : Type 0 where
    pub inside : i ≤ count
    pub size : length r ≡ block_list_size
    pub columns : (k : ℕ) → k < ahead_column → get_or r k 0 ≡ get_or blocks k 0
    pub rows : (k : ℕ) → rows_column ≤ k → get_or r k 0 ≡ get_or blocks k 0
    pub ahead : (j : ℕ) → j < i → TwinOf blocks j true (ahead_at r j)
    pub behind : (j : ℕ) → j < i → TwinOf blocks j false (behind_at r j)
    pub none : (j : ℕ) → i ≤ j → j < most_blocks → (ahead_at r j ≡ 0) × (behind_at r j ≡ 0)

  pub twins-start : (count : ℕ) → length blocks ≡ block_list_size → TwinsEmpty blocks → TwinsTo count 0 blocks
  twins-start count size empty = record {
    inside = omega arith;
    size = size;
    columns = λ k a. refl;
    rows = λ k a. refl;
    ahead = λ j a. absurd (omega arith);
    behind = λ j a. absurd (omega arith);
    none = λ j a b. (empty (ahead_column + j) (omega arith) (omega arith), empty (behind_column + j) (omega arith) (omega arith));
  }

  pub twins-next : (count i : ℕ) (r : List ℕ) (a b : ℕ) → TwinsTo count i r → count ≤ most_blocks → i < count → TwinOf blocks i true a →
      TwinOf blocks i false b →
      TwinsTo count (i + 1) (set (set r (ahead_column + i) a) (behind_column + i) b)
  twins-next count i r a b t few below fa fb = record {
    inside = omega arith;
    size = rw length-set size₁;
    columns = λ k c. other k (λ e. omega arith) (λ e. omega arith) ∙ t.columns k c;
    rows = λ k c. other k (λ e. omega arith) (λ e. omega arith) ∙ t.rows k c;
    ahead = λ j c. below_next (λ j. TwinOf blocks j true (ahead_at r₂ j)) i j
        (λ d. rw (other (ahead_column + j) (λ e. omega arith) (λ e. omega arith)) (t.ahead j d)) (rw ahead-here fa) (rw add-one at c);
    behind = λ j c. below_next (λ j. TwinOf blocks j false (behind_at r₂ j)) i j
        (λ d. rw (other (behind_column + j) (λ e. omega arith) (λ e. omega arith)) (t.behind j d)) (rw behind-here fb) (rw add-one at c);
    none = λ j c d.
        let n = t.none j (omega arith) d in (
          other (ahead_column + j) (λ e. omega arith) (λ e. omega arith) ∙ n.0,
          other (behind_column + j) (λ e. omega arith) (λ e. omega arith) ∙ n.1,
        );
  }
    where
      r₁ : List ℕ
      r₁ = set r (ahead_column + i) a

      r₂ : List ℕ
      r₂ = set r₁ (behind_column + i) b

      size₁ : length r₁ ≡ block_list_size
      size₁ = length-set r (ahead_column + i) a ∙ t.size

      other : (at : ℕ) → (at ≡ ahead_column + i → ⊥) → (at ≡ behind_column + i → ⊥) → get_or r₂ at 0 ≡ get_or r at 0
      other at e₀ e₁ = get_or-set_other r₁ (behind_column + i) at b 0 e₁ ∙ get_or-set_other r (ahead_column + i) at a 0 e₀

      ahead-here : ahead_at r₂ i ≡ a
      ahead-here = get_or-set_other r₁ (behind_column + i) (ahead_column + i) b 0 (λ e. omega arith) ∙ get_or-set_same r (ahead_column + i) a 0
          (omega (arith, t.size))

      behind-here : behind_at r₂ i ≡ b
      behind-here = get_or-set_same r₁ (behind_column + i) b 0 (omega (arith, size₁))

  pub twins-all : (count i : ℕ) (r : List ℕ) → TwinsTo count i r → count ≤ i → TwinsWritten count blocks r
  twins-all count i r t all = record {
    size = t.size;
    columns = t.columns;
    rows = t.rows;
    ahead = λ j k. t.ahead j (omega arith);
    behind = λ j k. t.behind j (omega arith);
    none = λ j k. t.none j (omega (arith, t.inside));
  }

-- LIMITS, by the test of the columns
pub no-worse-true : (side limit other : ℕ) → no_worse side limit other ≡ true → by_side (side_for side) other limit ≤ by_side (side_for side) limit other
unfolding no_worse
no-worse-true side limit other = at (side_for side)
  where
    at : (s : Side) → test_side s (leb other limit) (leb limit other) ≡ true → by_side s other limit ≤ by_side s limit other
    at buy e = leb-true other limit e
    at sell e = leb-true limit other e

pub no-worse-false : (side limit other : ℕ) → no_worse side limit other ≡ false → by_side (side_for side) limit other < by_side (side_for side) other limit
unfolding no_worse
no-worse-false side limit other = at (side_for side)
  where
    at : (s : Side) → test_side s (leb other limit) (leb limit other) ≡ false → by_side s limit other < by_side s other limit
    at buy e = leb-false other limit e
    at sell e = leb-false limit other e

-- THE WHOLE LIST: the columns, parents, rows and twins of the first count blocks, all said of it alone
pub record Completed (day : ℕ) (sides hours prices quantities parents root : List ℕ) (count : ℕ) (blocks : List ℕ) : Type 0 where
  pub columns : (j : ℕ) → j < count → Written day sides hours prices quantities root blocks j
  pub few : count ≤ most_blocks
  pub parent_is : (j : ℕ) → j < count → parent_at blocks j ≡ get_or parents j 0
  pub row : (j h : ℕ) → j < count → 1 ≤ h → h ≤ hour_places → row_quantity blocks j h ≡ when (holds_hour (hours_at blocks j) h) (quantity_at blocks j)
  pub ahead : (j : ℕ) → j < count → TwinOf blocks j true (ahead_at blocks j)
  pub behind : (j : ℕ) → j < count → TwinOf blocks j false (behind_at blocks j)

-- what is said of a list's six columns is said of one with the same six
module _ (before blocks : List ℕ) (same : (k : ℕ) → k < parent_column → get_or blocks k 0 ≡ get_or before k 0) where
  written-carried : (day : ℕ) (sides hours prices quantities root : List ℕ) (j : ℕ) → j < most_blocks → Written day sides hours prices quantities root before j →
      Written day sides hours prices quantities root blocks j
  written-carried day sides hours prices quantities root j k w = record {
    side_is = same (side_column + j) (omega arith) ∙ w.side_is;
    hours_is = same (hours_column + j) (omega arith) ∙ w.hours_is;
    quantity_is = same (quantity_column + j) (omega arith) ∙ w.quantity_is;
    limit_is = same (limit_column + j) (omega arith) ∙ w.limit_is;
    against_is = same (against_column + j) (omega arith) ∙ w.against_is;
    gain_is = same (gain_column + j) (omega arith) ∙ w.gain_is;
  }

-- .. and so of their parents and twins
module _ (before blocks : List ℕ) (same : (k : ℕ) → k < ahead_column → get_or blocks k 0 ≡ get_or before k 0) where
  stands-in-carried : (a b : ℕ) → a < most_blocks → b < most_blocks → StandsIn before a b → StandsIn blocks a b
  stands-in-carried a b i j s = record {
    none_or_same = λ k e. same (parent_column + b) (omega arith) ∙ s.none_or_same k (sym (same (parent_column + a) (omega arith)) ∙ e);
    nobodys = λ c k e. s.nobodys c k (sym (same (parent_column + c) (omega arith)) ∙ e);
  }

  twins-carried : (a b : ℕ) → a < most_blocks → b < most_blocks → TwinsAt before a b → TwinsAt blocks a b
  twins-carried a b i j t = record {
    same_side = same (side_column + a) (omega arith) ∙ t.same_side ∙ sym (same (side_column + b) (omega arith));
    same_hours = same (hours_column + a) (omega arith) ∙ t.same_hours ∙ sym (same (hours_column + b) (omega arith));
    same_quantity = same (quantity_column + a) (omega arith) ∙ t.same_quantity ∙ sym (same (quantity_column + b) (omega arith));
  }

  twin-carried : (i : ℕ) (ahead : Bool) (found : ℕ) → i < most_blocks → TwinOf before i ahead found → TwinOf blocks i ahead found
  twin-carried i ahead found k of a e =
      let t = of a e in
      let b : a < most_blocks = omega (arith, t.earlier) in
      record {
        earlier = t.earlier;
        twins = twins-carried a i b k t.twins;
        better = rw (same (side_column + i) (omega arith), same (limit_column + a) (omega arith), same (limit_column + i) (omega arith)) t.better;
        trades = rw (same (quantity_column + i) (omega arith)) t.trades;
        stands_in = stands-in-carried (cond ahead a i) (cond ahead i a) (chosen ahead a i b k) (chosen ahead i a k b) t.stands_in;
      }
    where
      chosen : (test : Bool) (x y : ℕ) → x < most_blocks → y < most_blocks → cond test x y < most_blocks
      chosen true x y kx ky = kx
      chosen false x y kx ky = ky

-- the number of an earlier twin fits
twin-fits : (blocks : List ℕ) (i : ℕ) (ahead : Bool) (found : ℕ) → i < most_blocks → TwinOf blocks i ahead found → found ≤ most_blocks
twin-fits blocks i ahead zero k of = omega arith
twin-fits blocks i ahead (suc a) k of = omega (arith, (of a refl).earlier)

-- the list as it grows: the columns, wide; with its parents; with its rows; with its twins
module _ (count : ℕ) (parents columns wide linked traded blocks : List ℕ) (few : count ≤ most_blocks) (held : ParentsHeld parents)
    (widened : Widened columns wide) (links : ParentsWritten parents wide linked) (rows : RowsWritten count linked traded)
    (twins : TwinsWritten count traded blocks) where
  same-columns : (k : ℕ) → k < parent_column → get_or blocks k 0 ≡ get_or columns k 0
  same-columns k a = twins.columns k (omega arith) ∙ rows.same k (omega arith) ∙ links.columns k a ∙ widened.same k a

  parent_is : (j : ℕ) → j < most_blocks → parent_at blocks j ≡ get_or parents j 0
  parent_is j k = twins.columns (parent_column + j) (omega arith) ∙ rows.same (parent_column + j) (omega arith) ∙ links.parent_is j k

  pub completed : (day : ℕ) (sides hours prices quantities root : List ℕ) → ((j : ℕ) → j < count → Written day sides hours prices quantities root columns j) →
      Completed day sides hours prices quantities parents root count blocks
  completed day sides hours prices quantities root w = record {
    columns = λ j k. written-carried columns blocks same-columns day sides hours prices quantities root j (omega arith) (w j k);
    few = few;
    parent_is = λ j k. parent_is j (omega arith);
    row = λ j h k from to.
        let there = twins.rows (rows_column + hour_places * j + (h - 1)) (omega arith) ∙ rows.row j h k from to in
        let x : hours_at blocks j ≡ hours_at linked j = twins.columns (hours_column + j) (omega arith) ∙ rows.same (hours_column + j) (omega arith) in
        let q : quantity_at blocks j ≡ quantity_at linked j = twins.columns (quantity_column + j) (omega arith) ∙ rows.same (quantity_column + j) (omega arith) in
        rw (x, q) there;
    ahead = λ j k. twin-carried traded blocks twins.columns j true (ahead_at blocks j) (omega arith) (twins.ahead j k);
    behind = λ j k. twin-carried traded blocks twins.columns j false (behind_at blocks j) (omega arith) (twins.behind j k);
  }

  pub blocks-sized : BlocksSized blocks
  blocks-sized = record {
    columns = twins.size;
    rows_fit = λ i h. omega (
      arith,
      twins.rows (rows_column + hour_places * i + (h - 1)) (omega arith),
      rows.fits (rows_column + hour_places * i + (h - 1))
          (omega arith),
    );
    parents_fit = λ i k. omega (arith, parent_is i k, held i k);
    twins_fit = λ i k. elim (dec_le count i) [
      | yes a ↦ let n = twins.none i a k in (omega (arith, n.0), omega (arith, n.1))
      | no a ↦
          let b : i < count = lt_of_not-le a in
          (twin-fits traded i true (ahead_at blocks i) k (twins.ahead i b), twin-fits traded i false (behind_at blocks i) k (twins.behind i b))
    ];
  }

-- what each step is given by the one before
module _ (parents columns wide linked : List ℕ) (widened : Widened columns wide) (links : ParentsWritten parents wide linked) where
  pub rows_empty : ((i : ℕ) → i < most_blocks → quantity_at columns i ≤ most_quantity) → RowsEmpty linked
  rows_empty small = record {
    small = λ i k. omega (arith, links.columns (quantity_column + i) (omega arith), widened.same (quantity_column + i) (omega arith), small i k);
    none = λ k a. links.rest k (omega arith) ∙ widened.none k (omega arith);
  }

  module _ (count : ℕ) (traded : List ℕ) (rows : RowsWritten count linked traded) where
    pub twins-empty : TwinsEmpty traded
    twins-empty k a b = rows.same k b ∙ links.rest k a ∙ widened.none k (omega arith)

    pub parents-before : ParentsHeld parents → ParentsBefore traded
    parents-before held i k = omega (arith, rows.same (parent_column + i) (omega arith), links.parent_is i k, held i k)
