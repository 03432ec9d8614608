-- THE TESTS OF A RIVAL, as the code goes through the blocks and the hours. Assumes nothing.
use Prim.Native.Nat.{ℕ, ◌+◌, ◌*◌, ◌≤◌, ◌<◌}
use mathlib.Core.Bool.{Bool, true, false, not, ◌&&◌}
use mathlib.Core.List.{List}
use mathlib.Core.Path.{◌≡◌, refl, sym, ap, ◌∙◌}
use Rattle.std.proofs.Common.{get_or, nat_eq}
use Rattle.std.specs.Cmp.Lexicographic.{pointwise, same_text}
use native.Mathlib.Omega.{arith}
use native.Mathlib.Decide.{ℕ_discrete}
use lib.Dec.{eqb, ltb}
use borrow.Author.Tests.{eqb-true, ltb-true}
use Rattle.rules.proofs.Tests.{both, clash}
use Rattle.rules.proofs.CostLaws.{tie_room}
use Rattle.pricing.proofs.TotalsLaws.{side-sell}
use Rattle.places.specs.Blocks.{side_at, hours_at, limit_at, parent_at}
use Rattle.branches.specs.Decisions.{names_left}
use Rattle.rivals.specs.Tests.{holds, OutdoneAt, Below, ParentFor, ChildFor, SamePlaces}

-- NUMBERS BELOW: none, and one more
pub below_none : (P : ℕ → Type 0) → Below P 0
below_none P j k = absurd (omega arith)

pub below_more : (P : ℕ → Type 0) (n : ℕ) → Below P n → P n → Below P (n + 1)
below_more P n all here j k = elim (ℕ_discrete j n) [
  | yes z ↦ rw z here
  | no z ↦ all j (omega arith)
]

-- one test that passes though the other does not
pub passes-not : (a b : Bool) → (a && not b) ≡ false → a ≡ true → b ≡ true
passes-not true true e f = refl
passes-not true false e f = clash refl e
passes-not false b e f = clash f refl

-- THE SAME PLACES in every hour, by a test that finds no two lists that differ
pub same-places : (others places : List ℕ) → false ≡ not (pointwise nat_eq others places) → SamePlaces places others
same-places others places e j k = ap (λ u. get_or u j 0) (sym (same_text others places (unturned _ e)))
  where
    unturned : (b : Bool) → false ≡ not b → true ≡ b
    unturned true f = refl
    unturned false f = clash refl (sym f)

-- A BLOCK THAT IS OUTDONE, for a buy and for a sell
module _ (blocks : List ℕ) (j i : ℕ) (side : side_at blocks j ≡ side_at blocks i) (hours : hours_at blocks j ≡ hours_at blocks i) where
  pub outdone-buy : side_at blocks j ≡ 0 → limit_at blocks i ≤ limit_at blocks j → OutdoneAt blocks j i
  outdone-buy e le = record { same_side = side; same_hours = hours; looser = rw e le }

  pub outdone-sell : (side_at blocks j ≡ 0 → ⊥) → limit_at blocks j ≤ limit_at blocks i → OutdoneAt blocks j i
  outdone-sell e le = record { same_side = side; same_hours = hours; looser = rw (side-sell (side_at blocks j) e) le }

-- A BLOCK WITH ITS PARENT
pub parent-held : (blocks : List ℕ) (rival j : ℕ) (a left : Bool) → a ≡ holds rival j → left ≡ names_left (parent_at blocks j) rival → (a && left) ≡ false →
    ParentFor blocks rival j
parent-held blocks rival j a left ea el e is = sym el ∙ second a left e (ea ∙ is)
  where
    second : (a b : Bool) → (a && b) ≡ false → a ≡ true → b ≡ false
    second true b e f = e
    second false b e f = clash f refl

-- AN UNDECIDED BLOCK whose parent the rival does not leave alone
pub child-kept : (blocks : List ℕ) (n set rival j : ℕ) (a b : Bool) → a ≡ names_left (parent_at blocks j) rival → b ≡ names_left (parent_at blocks j) set →
    (a && not b) ≡ false → ChildFor blocks n set rival j
child-kept blocks n set rival j a b ea eb e le is = sym eb ∙ passes-not a b e (ea ∙ is)

-- A LESSER COST, by loss, and at the same loss by ties
pub less-by-loss : (loss tie loss' tie' : ℕ) → tie < tie_room → loss < loss' → loss * tie_room + tie < loss' * tie_room + tie'
less-by-loss loss tie loss' tie' room k = omega arith

pub less-by-tie : (loss tie loss' tie' : ℕ) → (eqb loss loss' && ltb tie tie') ≡ true → loss * tie_room + tie < loss' * tie_room + tie'
less-by-tie loss tie loss' tie' e =
    let t = both (eqb loss loss') (ltb tie tie') e in
    omega (arith, eqb-true loss loss' t.0, ltb-true tie tie' t.1)
