-- A FAMILY'S GAIN OUT OF COLUMNS: of each block one more than its parent's place, 0 for none, and its gain. In these words the functions of src/visit.rt
-- promise what they give; `proofs/VisitLaws.antt` proves that it is the gain of the rules. Definitions only. Assumes nothing.
use Rattle.std.specs.Prelude.{ℕ, zero, suc, ◌+◌, List, eqb, get_or}
use Rattle.rules.specs.Hour.{when}

-- The gains of the children of block i among the `left` blocks from j on, each with everything below it.
unfoldable pub children_gain : (parents gains : List ℕ) → (left i j : ℕ) → ℕ
children_gain parents gains zero i j = 0
children_gain parents gains (suc left) i j =
    when (eqb (get_or parents j 0) (suc i)) (get_or gains j 0 + children_gain parents gains left j (suc j)) + children_gain parents gains left i (suc j)

-- The gain of block i, with `left` blocks behind it, and of everything below it.
unfoldable pub visit_gain : (parents gains : List ℕ) → (left i : ℕ) → ℕ
visit_gain parents gains left i = get_or gains i 0 + children_gain parents gains left i (suc i)
