-- The blocks of the search: what they buy in each hour, and their six columns. Assumes nothing.
use Prim.Native.Nat.{ℕ, zero, suc, ◌+◌, ◌-◌, ◌*◌, ◌≤◌, ◌<◌}
use mathlib.Core.Path.{◌≡◌, refl, ◌∙◌}
use mathlib.Core.List.{List}
use mathlib.Core.Bool.{Bool, true, false, cond}
use native.Mathlib.Omega.{arith}
use native.Mathlib.Decide.{dec_le}
use native.Mathlib.Nat.{lt_of_not-le}
use native.Mathlib.Numerals.{add-one}
use lib.ListN.{length, get_or, set, replicate, length-set}
use lib.Seq.{get_or-set_same, get_or-set_other}
use Rattle.book.specs.Bounds.{most_blocks}
use Rattle.places.specs.Layout.{against_column, parent_column, hour_places, gain_column, side_column, hours_column, limit_column, most_quantity, quantity_column}
use Rattle.records.specs.Records.{holds_hour}
use Rattle.fields.specs.Hours.{counted_hours}
use Rattle.orders.specs.Columns.{side_for}
use Rattle.rules.specs.Orders.{Side, buy, sell}
use Rattle.rules.specs.Hour.{by_side, when}
use Rattle.places.specs.Hours.{Small, sum_of_hours, larger}
use Rattle.places.specs.Blocks.{side_at, hours_at, quantity_at, limit_at, against_at, gain_at}
use Rattle.setup.specs.Setup.{BlocksHeld, sum_below, blocks_trade, TradedBy, written, Written}
use Rattle.orders.proofs.ColumnLaws.{zeros}
use Rattle.places.proofs.NumberLaws.{below_next, larger-above, larger-least}
use Rattle.roots.proofs.SizeLaws.{side-le, chosen-le, moved-most}

-- WHAT THE BLOCKS TRADE in each hour
module _ (sides hours quantities : List ℕ) (all : Bool) where
  pub record TradedTo (i : ℕ) (column : List ℕ) : Type 0 where
    pub size : length column ≡ hour_places
    pub small : Small (i * most_quantity) column
    pub is : (h : ℕ) → 1 ≤ h → h ≤ hour_places → get_or column (h - 1) 0 ≡ blocks_trade i sides hours quantities all h

  pub traded-start : TradedTo 0 (replicate hour_places 0)
  unfolding sum_below
  traded-start = record { size = refl; small = λ j. omega (arith, zeros hour_places j); is = λ h a b. zeros hour_places (h - 1) }

  -- what one block trades
  pub traded-fits : (i q rest : ℕ) → get_or quantities i 0 ≤ most_quantity → rest ≡ cond all (get_or quantities i 0) 0 →
      q ≡ by_side (side_for (get_or sides i 0)) (get_or quantities i 0) rest → q ≤ most_quantity
  traded-fits i q rest few er e =
      rw e (side-le (side_for (get_or sides i 0)) (get_or quantities i 0) rest most_quantity few (rw er (chosen-le all (get_or quantities i 0) most_quantity few)))

  pub traded-next : (i : ℕ) (column more : List ℕ) (q rest : ℕ) → TradedTo i column → get_or quantities i 0 ≤ most_quantity →
      rest ≡ cond all (get_or quantities i 0) 0 → q ≡ by_side (side_for (get_or sides i 0)) (get_or quantities i 0) rest → length more ≡ hour_places →
      ((h : ℕ) → 1 ≤ h → h ≤ hour_places → get_or more (h - 1) 0 ≡ get_or column (h - 1) 0 + when (holds_hour (get_or hours i 0) h) q) → TradedTo (i + 1) more
  unfolding sum_below
  traded-next i column more q rest t few er e size moved = record {
    size = size;
    small = λ j. omega (arith, moved-most (get_or hours i 0) q column more size moved j, t.small j, traded-fits i q rest few er e);
    is = λ h a b. moved h a b ∙ rw (add-one, t.is h a b, e, er);
  }

  pub traded-all : (count i : ℕ) (column : List ℕ) → TradedTo i column → i ≡ count → count ≤ most_blocks → TradedBy count sides hours quantities all column
  traded-all count i column t e few = record { small = λ j. omega (arith, t.small j); is = λ h a b. rw (← e) (t.is h a b) }

-- the buys are no more than all
bought-least : (sides hours quantities : List ℕ) (h n : ℕ) → blocks_trade n sides hours quantities false h ≤ blocks_trade n sides hours quantities true h
unfolding sum_below
bought-least sides hours quantities h zero = omega arith
bought-least sides hours quantities h (suc n) =
    omega (arith, bought-least sides hours quantities h n, one (side_for (get_or sides n 0)) (holds_hour (get_or hours n 0) h) (get_or quantities n 0))
  where
    one : (side : Side) (run : Bool) (q : ℕ) → when run (by_side side q (cond false q 0)) ≤ when run (by_side side q (cond true q 0))
    one buy run q = omega arith
    one sell true q = omega arith
    one sell false q = omega arith

pub bought-within : (count : ℕ) (sides hours quantities bought traded : List ℕ) → TradedBy count sides hours quantities false bought →
    TradedBy count sides hours quantities true traded → (h : ℕ) → h < hour_places → get_or bought h 0 ≤ get_or traded h 0
bought-within count sides hours quantities bought traded b t h k =
    let e : suc h - 1 ≡ h = omega arith in
    let x : get_or bought (suc h - 1) 0 ≡ get_or bought h 0 = rw e in
    let y : get_or traded (suc h - 1) 0 ≡ get_or traded h 0 = rw e in
    omega (
      arith,
      b.is (suc h) (omega arith) (omega arith),
      t.is (suc h) (omega arith) (omega arith),
      bought-least sides hours quantities (suc h) count,
    )

-- ONE BLOCK WRITTEN: six numbers
module _ (c : List ℕ) (i v₀ v₁ v₂ v₃ v₄ v₅ : ℕ) (k : i < most_blocks) (size : length c ≡ parent_column) where
  abbrev l₁ : List ℕ
  l₁ = set c (side_column + i) v₀

  abbrev l₂ : List ℕ
  l₂ = set l₁ (hours_column + i) v₁

  abbrev l₃ : List ℕ
  l₃ = set l₂ (quantity_column + i) v₂

  abbrev l₄ : List ℕ
  l₄ = set l₃ (limit_column + i) v₃

  abbrev l₅ : List ℕ
  l₅ = set l₄ (against_column + i) v₄

  abbrev l₆ : List ℕ
  l₆ = set l₅ (gain_column + i) v₅

  size₁ : length l₁ ≡ parent_column
  size₁ = rw length-set size

  size₂ : length l₂ ≡ parent_column
  size₂ = rw length-set size₁

  size₃ : length l₃ ≡ parent_column
  size₃ = rw length-set size₂

  size₄ : length l₄ ≡ parent_column
  size₄ = rw length-set size₃

  size₅ : length l₅ ≡ parent_column
  size₅ = rw length-set size₄

  six-size : length l₆ ≡ parent_column
  six-size = rw length-set size₅

  -- other places are as they were
  six-other : (at : ℕ) → (at ≡ side_column + i → ⊥) → (at ≡ hours_column + i → ⊥) → (at ≡ quantity_column + i → ⊥) → (at ≡ limit_column + i → ⊥) → (at ≡ against_column + i → ⊥) →
      (at ≡ gain_column + i → ⊥) → get_or l₆ at 0 ≡ get_or c at 0
  six-other at e₀ e₁ e₂ e₃ e₄ e₅ =
      get_or-set_other l₅ (gain_column + i) at v₅ 0 e₅ ∙ get_or-set_other l₄ (against_column + i) at v₄ 0 e₄ ∙ get_or-set_other l₃ (limit_column + i) at v₃ 0 e₃
      ∙ get_or-set_other l₂ (quantity_column + i) at v₂ 0 e₂ ∙ get_or-set_other l₁ (hours_column + i) at v₁ 0 e₁ ∙ get_or-set_other c (side_column + i) at v₀ 0 e₀

  six₀ : get_or l₆ (side_column + i) 0 ≡ v₀
  six₀ =
      get_or-set_other l₅ (gain_column + i) (side_column + i) v₅ 0 (λ e. omega arith) ∙ get_or-set_other l₄ (against_column + i) (side_column + i) v₄ 0
      (λ e. omega arith)
      ∙ get_or-set_other l₃ (limit_column + i) (side_column + i) v₃ 0 (λ e. omega arith) ∙ get_or-set_other l₂ (quantity_column + i) (side_column + i) v₂ 0
      (λ e. omega arith)
      ∙ get_or-set_other l₁ (hours_column + i) (side_column + i) v₁ 0 (λ e. omega arith) ∙ get_or-set_same c (side_column + i) v₀ 0 (omega arith)

  six₁ : get_or l₆ (hours_column + i) 0 ≡ v₁
  six₁ =
      get_or-set_other l₅ (gain_column + i) (hours_column + i) v₅ 0 (λ e. omega arith) ∙ get_or-set_other l₄ (against_column + i) (hours_column + i) v₄ 0
      (λ e. omega arith)
      ∙ get_or-set_other l₃ (limit_column + i) (hours_column + i) v₃ 0 (λ e. omega arith) ∙ get_or-set_other l₂ (quantity_column + i) (hours_column + i) v₂ 0
      (λ e. omega arith)
      ∙ get_or-set_same l₁ (hours_column + i) v₁ 0 (omega (arith, size₁))

  six₂ : get_or l₆ (quantity_column + i) 0 ≡ v₂
  six₂ =
      get_or-set_other l₅ (gain_column + i) (quantity_column + i) v₅ 0 (λ e. omega arith) ∙ get_or-set_other l₄ (against_column + i) (quantity_column + i) v₄ 0
      (λ e. omega arith)
      ∙ get_or-set_other l₃ (limit_column + i) (quantity_column + i) v₃ 0 (λ e. omega arith) ∙ get_or-set_same l₂ (quantity_column + i) v₂ 0 (omega (arith, size₂))

  six₃ : get_or l₆ (limit_column + i) 0 ≡ v₃
  six₃ =
      get_or-set_other l₅ (gain_column + i) (limit_column + i) v₅ 0 (λ e. omega arith) ∙ get_or-set_other l₄ (against_column + i) (limit_column + i) v₄ 0
      (λ e. omega arith)
      ∙ get_or-set_same l₃ (limit_column + i) v₃ 0 (omega (arith, size₃))

  six₄ : get_or l₆ (against_column + i) 0 ≡ v₄
  six₄ = get_or-set_other l₅ (gain_column + i) (against_column + i) v₅ 0 (λ e. omega arith) ∙ get_or-set_same l₄ (against_column + i) v₄ 0 (omega (arith, size₄))

  six₅ : get_or l₆ (gain_column + i) 0 ≡ v₅
  six₅ = get_or-set_same l₅ (gain_column + i) v₅ 0 (omega (arith, size₅))

-- .. which are the block's
module _ (c : List ℕ) (i side hours quantity limit sum : ℕ) (k : i < most_blocks) (size : length c ≡ parent_column) where
  abbrev after : List ℕ
  after = written c i side hours quantity limit sum

  abbrev lost : ℕ
  lost = quantity * by_side (side_for side) (sum - limit) (limit - sum)

  abbrev won : ℕ
  won = quantity * by_side (side_for side) (limit - sum) (sum - limit)

  pub written-size : length after ≡ parent_column
  unfolding written
  written-size = six-size c i side hours quantity limit lost won k size

  written-other : (at : ℕ) → (at ≡ side_column + i → ⊥) → (at ≡ hours_column + i → ⊥) → (at ≡ quantity_column + i → ⊥) → (at ≡ limit_column + i → ⊥) →
      (at ≡ against_column + i → ⊥) →
      (at ≡ gain_column + i → ⊥) → get_or after at 0 ≡ get_or c at 0
  unfolding written
  written-other = six-other c i side hours quantity limit lost won k size

  side-here : side_at after i ≡ side
  unfolding written
  side-here = six₀ c i side hours quantity limit lost won k size

  hours-here : hours_at after i ≡ hours
  unfolding written
  hours-here = six₁ c i side hours quantity limit lost won k size

  quantity-here : quantity_at after i ≡ quantity
  unfolding written
  quantity-here = six₂ c i side hours quantity limit lost won k size

  limit-here : limit_at after i ≡ limit
  unfolding written
  limit-here = six₃ c i side hours quantity limit lost won k size

  against-here : against_at after i ≡ lost
  unfolding written
  against-here = six₄ c i side hours quantity limit lost won k size

  gain-here : gain_at after i ≡ won
  unfolding written
  gain-here = six₅ c i side hours quantity limit lost won k size

  -- the columns of another block are as they were
  module _ (j : ℕ) (inside : j < most_blocks) (other : j ≡ i → ⊥) where
    pub side-there : side_at after j ≡ side_at c j
    side-there =
        written-other (side_column + j) (λ e. other (omega arith)) (λ e. omega arith) (λ e. omega arith) (λ e. omega arith) (λ e. omega arith) (λ e. omega arith)

    pub hours-there : hours_at after j ≡ hours_at c j
    hours-there =
        written-other (hours_column + j) (λ e. omega arith) (λ e. other (omega arith)) (λ e. omega arith) (λ e. omega arith) (λ e. omega arith)
        (λ e. omega arith)

    pub quantity-there : quantity_at after j ≡ quantity_at c j
    quantity-there =
        written-other (quantity_column + j) (λ e. omega arith) (λ e. omega arith) (λ e. other (omega arith)) (λ e. omega arith) (λ e. omega arith)
        (λ e. omega arith)

    pub limit-there : limit_at after j ≡ limit_at c j
    limit-there =
        written-other (limit_column + j) (λ e. omega arith) (λ e. omega arith) (λ e. omega arith) (λ e. other (omega arith)) (λ e. omega arith)
        (λ e. omega arith)

    pub against-there : against_at after j ≡ against_at c j
    against-there =
        written-other (against_column + j) (λ e. omega arith) (λ e. omega arith) (λ e. omega arith) (λ e. omega arith) (λ e. other (omega arith))
        (λ e. omega arith)

    pub gain-there : gain_at after j ≡ gain_at c j
    gain-there =
        written-other (gain_column + j) (λ e. omega arith) (λ e. omega arith) (λ e. omega arith) (λ e. omega arith) (λ e. omega arith) (λ e. other (omega arith))

-- ALL BLOCKS WRITTEN
module _ (day : ℕ) (sides hours prices quantities root : List ℕ) where
  abbrev limit_of : ℕ → ℕ
  limit_of i = get_or prices i 0 * counted_hours day (get_or hours i 0)

  abbrev sum_of : ℕ → ℕ
  sum_of i = sum_of_hours root (get_or hours i 0)

  pub record WrittenTo (count i : ℕ) (columns : List ℕ) : Type 0 where
    pub inside : i ≤ count
    pub size : length columns ≡ parent_column
    pub small : (j : ℕ) → j < most_blocks → quantity_at columns j ≤ most_quantity
    pub done : (j : ℕ) → j < i → Written day sides hours prices quantities root columns j

  pub written_start : (count : ℕ) → WrittenTo count 0 (replicate parent_column 0)
  written_start count =
      record { inside = omega arith; size = refl; small = λ j k. omega (arith, zeros parent_column (quantity_column + j)); done = λ j a. absurd (omega arith) }

  pub written_next : (count i : ℕ) (columns : List ℕ) (side x q limit sum : ℕ) (more : List ℕ) → WrittenTo count i columns →
      BlocksHeld count prices quantities → i < count → side ≡ get_or sides i 0 → x ≡ get_or hours i 0 → q ≡ get_or quantities i 0 → limit ≡ limit_of i →
      sum ≡ sum_of i → more ≡ written columns i side x q limit sum → WrittenTo count (i + 1) more
  written_next count i columns side x q limit sum more w held k es ex eq el em e =
      let few : i < most_blocks = omega (arith, held.few) in
      rw e
      record {
        inside = omega arith;
        size = written-size columns i side x q limit sum few w.size;
        small = λ j b. small_at j b few;
        done = λ j a. done_at j a few;
      }
    where
      small_at : (j : ℕ) → j < most_blocks → i < most_blocks → quantity_at (written columns i side x q limit sum) j ≤ most_quantity
      small_at j b few = elim (dec_le j i) [
        | yes u ↦ elim (dec_le i j) [
          | yes v ↦
              let same : j ≡ i = omega arith in
              rw same (omega (arith, quantity-here columns i side x q limit sum few w.size, eq, held.quantities_fit i k))
          | no v ↦ let d : j < i = lt_of_not-le v in rw (quantity-there columns i side x q limit sum few w.size j b (λ z. omega arith)) (w.small j b)
        ]
        | no u ↦ let d : i < j = lt_of_not-le u in rw (quantity-there columns i side x q limit sum few w.size j b (λ z. omega arith)) (w.small j b)
      ]

      new : i < most_blocks → Written day sides hours prices quantities root (written columns i side x q limit sum) i
      new few = record {
        side_is = side-here columns i side x q limit sum few w.size ∙ es;
        hours_is = hours-here columns i side x q limit sum few w.size ∙ ex;
        quantity_is = quantity-here columns i side x q limit sum few w.size ∙ eq;
        limit_is = limit-here columns i side x q limit sum few w.size ∙ el;
        against_is = against-here columns i side x q limit sum few w.size ∙ rw (eq, es, el, em);
        gain_is = gain-here columns i side x q limit sum few w.size ∙ rw (eq, es, el, em);
      }

      old : i < most_blocks → (j : ℕ) → j < i → Written day sides hours prices quantities root (written columns i side x q limit sum) j
      old few j a =
          let b : j < most_blocks = omega arith in
          let z : j ≡ i → ⊥ = λ y. omega arith in
          let d = w.done j a in
          record {
            side_is = side-there columns i side x q limit sum few w.size j b z ∙ d.side_is;
            hours_is = hours-there columns i side x q limit sum few w.size j b z ∙ d.hours_is;
            quantity_is = quantity-there columns i side x q limit sum few w.size j b z ∙ d.quantity_is;
            limit_is = limit-there columns i side x q limit sum few w.size j b z ∙ d.limit_is;
            against_is = against-there columns i side x q limit sum few w.size j b z ∙ d.against_is;
            gain_is = gain-there columns i side x q limit sum few w.size j b z ∙ d.gain_is;
          }

      done_at : (j : ℕ) → j < i + 1 → i < most_blocks → Written day sides hours prices quantities root (written columns i side x q limit sum) j
      done_at j a few = elim (dec_le i j) [
        | yes u ↦ let same : j ≡ i = omega arith in rw same (new few)
        | no u ↦ old few j (lt_of_not-le u)
      ]

  pub written_all : (count i : ℕ) (columns : List ℕ) → WrittenTo count i columns → count ≤ i →
      ((j : ℕ) → j < most_blocks → quantity_at columns j ≤ most_quantity) × ((j : ℕ) → j < count → Written day sides hours prices quantities root columns j)
  written_all count i columns w k = (w.small, λ j a. w.done j (omega (arith, w.inside)))

-- THE LARGEST OF A COLUMN, hour by hour
pub record LargestTo (column : List ℕ) (h most : ℕ) : Type 0 where
  pub inside : h ≤ hour_places
  pub above : (j : ℕ) → j < h → get_or column j 0 ≤ most
  pub least : (m : ℕ) → Small m column → most ≤ m

pub largest-start : (column : List ℕ) → LargestTo column 0 0
largest-start column = record { inside = omega arith; above = λ j a. absurd (omega arith); least = λ m s. omega arith }

pub largest-next : (column : List ℕ) (h most r : ℕ) → LargestTo column h most → h < hour_places → r ≡ larger most (get_or column h 0) → LargestTo column (h + 1) r
largest-next column h most r l k e =
    let up = larger-above most (get_or column h 0) in
    record {
      inside = omega arith;
      above = λ j a. below_next (λ i. get_or column i 0 ≤ r) h j (λ b. omega (arith, l.above j b, up.0, e)) (omega (arith, up.1, e)) (rw add-one at a);
      least = λ m s. rw e (larger-least most (get_or column h 0) m (l.least m s) (s h));
    }

pub largest-all : (column : List ℕ) (h most : ℕ) → length column ≡ hour_places → LargestTo column h most → hour_places ≤ h →
    Small most column × ((m : ℕ) → Small m column → most ≤ m)
largest-all column h most size l k = (at, l.least)
  where
    at : Small most column
    at i = elim (dec_le hour_places i) [
      | yes a ↦ let z : length column ≤ i = omega arith in rw (lib.ListN.get_or-eq_default column 0 z) (omega arith)
      | no a ↦ l.above i (omega (arith, lt_of_not-le a))
    ]
