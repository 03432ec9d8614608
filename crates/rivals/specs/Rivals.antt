-- A BRANCH WITH A RIVAL: other decisions on the same blocks, with which every lawful completion costs less. Definitions only. Assumes nothing.
use Rattle.std.specs.Prelude.{ℕ, ◌<◌, Bool, true, List, ◌++◌, ◌≡◌, length}
use Rattle.rules.specs.Day.{Day, lawful}
use Rattle.branches.specs.Tables.{Tables}
use Rattle.branches.specs.Meaning.{At, cost_above}
use Rattle.branches.specs.declared.Node.{Node}

-- A LAWFUL SET THAT COSTS LESS than a set.
pub record Cheaper (day : Day) (cost : List Bool → ℕ) (count : ℕ) (set : List Bool) : Type 0 where
  pub other : List Bool
  pub size : length other ≡ count
  pub is_lawful : lawful day other ≡ true
  pub less : cost other < cost set

-- A BRANCH WITH A RIVAL: each of its lawful completions has a lawful set that costs less.
abbrev pub Rivalled : (t : Tables) (left : ℕ) (node : Node) → Type 0
Rivalled t left node =
    (limit out : ℕ) (day : _) (p rest : ℕ → ℕ) (d tail : List Bool) → At t left node limit out day p rest d → length tail ≡ left →
    lawful day (d ++ tail) ≡ true → Cheaper day (cost_above day p rest t.blocks) t.count (d ++ tail)

-- Of that only the blocks' columns matter.
abbrev pub RivalledIn : (blocks : List ℕ) (count left : ℕ) (node : Node) → Type 0
RivalledIn blocks count left node = (t : Tables) → t.blocks ≡ blocks → t.count ≡ count → Rivalled t left node
