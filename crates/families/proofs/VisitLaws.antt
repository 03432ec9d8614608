-- THE VISIT: each way out of the two functions; and that it gives the family's gain of the rules. Assumes nothing.
use Prim.Native.Nat.{ℕ, zero, suc, ◌+◌, ◌-◌, ◌<◌}
use mathlib.Core.Bool.{Bool, false}
use mathlib.Core.Path.{◌≡◌, refl}
use mathlib.Core.List.{List, [], ◌∷◌}
use native.Mathlib.Omega.{arith}
use native.Mathlib.Numerals.{add-one, sub-one}
use lib.Dec.{eqb}
use lib.ListN.{length, drop, get_or}
use lib.Seq.{drop-length, drop-cons}
use borrow.Author.Tests.{eq-eqb, ne_eqb}
use Rattle.rules.specs.Orders.{Block}
use Rattle.rules.specs.Hour.{when}
use Rattle.rules.specs.Day.{Day, taken, over_blocks, set_prices}
use Rattle.rules.specs.Contender.{LinksStand}
use Rattle.rules.specs.Families.{parent_of, block_gain, family_gain}
use Rattle.rules.proofs.LinkLaws.{number_at, parent_place}
use Rattle.rules.proofs.FamilyLaws.{parent-test, visit-law}
use Rattle.families.specs.Visit.{children_gain, visit_gain}

module _ (parents gains : List ℕ) where
  pub visit-is : (left i : ℕ) → visit_gain parents gains left i ≡ get_or gains i 0 + children_gain parents gains left i (i + 1)
  unfolding visit_gain
  visit-is left i = rw add-one

  pub children-none : (left i j : ℕ) → left ≡ 0 → children_gain parents gains left i j ≡ 0
  unfolding children_gain
  children-none left i j e = rw e

  -- the block at j is a child
  pub children-child : (left i j : ℕ) → 0 < left → get_or parents j 0 ≡ i + 1 →
      children_gain parents gains left i j ≡ visit_gain parents gains (left - 1) j + children_gain parents gains (left - 1) i (j + 1)
  unfolding children_gain visit_gain
  children-child zero i j some e = absurd (omega arith)
  children-child (suc left) i j some e = rw (sub-one, add-one, eq-eqb (get_or parents j 0) (suc i) (omega arith))

  -- it is not
  pub children-other : (left i j : ℕ) → 0 < left → (get_or parents j 0 ≡ i + 1 → ⊥) →
      children_gain parents gains left i j ≡ children_gain parents gains (left - 1) i (j + 1)
  unfolding children_gain
  children-other zero i j some e = absurd (omega arith)
  children-other (suc left) i j some e =
      rw (sub-one, add-one, ne_eqb (get_or parents j 0) (suc i) (λ z. e (omega arith))) (omega arith)

  -- what fits as a whole fits in parts, and the parts together
  module _ (most : ℕ) where
    pub visit-part-fits : (left i : ℕ) → visit_gain parents gains left i < most → children_gain parents gains left i (i + 1) < most
    visit-part-fits left i fits = omega (arith, visit-is left i)

    pub visit-sum-fits : (left i sum : ℕ) → visit_gain parents gains left i < most → sum ≡ children_gain parents gains left i (i + 1) →
        get_or gains i 0 + sum < most
    visit-sum-fits left i sum fits e = omega (arith, visit-is left i)

    pub later-fits : (left i j : ℕ) → 0 < left → children_gain parents gains left i j < most → children_gain parents gains (left - 1) i (j + 1) < most
    unfolding children_gain
    later-fits zero i j some fits = absurd (omega arith)
    later-fits (suc left) i j some fits = rw (sub-one, add-one) (omega arith)

    pub child_fits : (left i j : ℕ) → 0 < left → get_or parents j 0 ≡ i + 1 → children_gain parents gains left i j < most →
        visit_gain parents gains (left - 1) j < most
    child_fits left i j some e fits = omega (arith, children-child left i j some e)

    pub child-sum-fits : (left i j own later : ℕ) → 0 < left → get_or parents j 0 ≡ i + 1 → children_gain parents gains left i j < most →
        own ≡ visit_gain parents gains (left - 1) j → later ≡ children_gain parents gains (left - 1) i (j + 1) → own + later < most
    child-sum-fits left i j own later some e fits o l = omega (arith, children-child left i j some e)

-- BLOCKS BY THEIR POSITION
pub number-at : (l : List Block) (j : ℕ) (other : Block) → j < length l → (get_or l j other).number ≡ number_at l j
number-at [] j other inside = absurd (omega arith)
number-at (b ∷ l) zero other inside = refl
number-at (b ∷ l) (suc j) other inside = number-at l j other (omega arith)

-- THE VISIT GIVES THE FAMILY'S GAIN of the rules, where the columns are those of a day whose links stand
module _ (day : Day) (stand : LinksStand day) (set : List Bool) (other : Block) (parents gains : List ℕ)
    (parentsAre : (j : ℕ) → j < length day.blocks → get_or parents j 0 ≡ parent_place day j)
    (gainsAre : (j : ℕ) → j < length day.blocks →
    get_or gains j 0 ≡ when (get_or set j false) (block_gain day.hours (set_prices day (taken day.blocks set)) (get_or day.blocks j other))) where
  -- a block's family's gain, where it is a child of the block at i
  abbrev as_child : ℕ → Block → ℕ
  as_child i c = when (eqb (parent_of day.links c.number) (number_at day.blocks i)) (family_gain day set c.number)

  one_more : (i j : ℕ) → j < length day.blocks → over_blocks (as_child i) (drop j day.blocks)
      ≡ when (eqb (parent_of day.links (number_at day.blocks j)) (number_at day.blocks i)) (family_gain day set (number_at day.blocks j))
      + over_blocks (as_child i) (drop (suc j) day.blocks)
  one_more i j inside = rw (drop-cons day.blocks j other inside, number-at day.blocks j other inside)

  children-are : (left i j : ℕ) → j + left ≡ length day.blocks → i < j → children_gain parents gains left i j ≡ over_blocks (as_child i) (drop j day.blocks)
  unfolding children_gain
  children-are zero i j whole before = let all : j ≡ length day.blocks = omega arith in rw (all, drop-length day.blocks)
  children-are (suc left) i j whole before =
      let inside : j < length day.blocks = omega arith in
      let below = children-are left j (suc j) (omega arith) (omega arith) in
      let family : get_or gains j 0 + children_gain parents gains left j (suc j) ≡ family_gain day set (number_at day.blocks j) =
      rw (gainsAre j inside, below, visit-law day stand set other j inside) in
      rw (
        family,
        parentsAre j inside,
        parent-test day stand i j (omega arith),
        children-are left i (suc j) (omega arith) (omega arith),
        one_more i j inside,
      )

  pub visit-gives : (left i : ℕ) → i + 1 + left ≡ length day.blocks → visit_gain parents gains left i ≡ family_gain day set (number_at day.blocks i)
  unfolding visit_gain
  visit-gives left i whole =
      rw (gainsAre i (omega arith), children-are left i (suc i) (omega arith) (omega arith), visit-law day stand set other i (omega arith))
