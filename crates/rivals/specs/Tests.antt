-- WHAT IS TESTED OF A RIVAL, by the blocks' columns; a set is a number whose bits are the blocks, and of a rival's the first ones count. Definitions only.
-- Assumes nothing.
use Rattle.std.specs.Prelude.{ℕ, ◌+◌, ◌*◌, ◌/◌, ◌%◌, ◌^◌, ◌≤◌, ◌<◌, Bool, true, false, List, ◌≡◌, eqb, get_or}
use Rattle.rules.specs.Hour.{by_side}
use Rattle.rules.specs.Day.{Day, decisions}
use Rattle.rules.proofs.TieLaws.{ties}
use Rattle.rules.proofs.CostLaws.{tie_room}
use Rattle.orders.specs.Columns.{side_for}
use Rattle.places.specs.Layout.{hour_places}
use Rattle.places.specs.Blocks.{side_at, hours_at, limit_at, parent_at, rank_at}
use Rattle.branches.specs.Decisions.{names_left}
use Rattle.branches.specs.Tables.{Tables}
use Rattle.branches.specs.Meaning.{Fits, Known, Branch}
use Rattle.branches.specs.declared.Node.{Node}

-- A set holds block j.
abbrev pub holds : (set j : ℕ) → Bool
holds set j = eqb (set / 2 ^ j % 2) 1

-- Block j is outdone by block i: the same side, the same hours, and a limit that holds wherever that of i does.
pub record OutdoneAt (blocks : List ℕ) (j i : ℕ) : Type 0 where
  pub same_side : side_at blocks j ≡ side_at blocks i
  pub same_hours : hours_at blocks j ≡ hours_at blocks i
  pub looser : by_side (side_for (side_at blocks j)) (limit_at blocks i) (limit_at blocks j)
      ≤ by_side (side_for (side_at blocks j)) (limit_at blocks j) (limit_at blocks i)

-- It is outdone by one of the first n blocks that a set holds.
pub record OutdoneIn (blocks : List ℕ) (n set j : ℕ) : Type 0 where
  pub by : ℕ
  pub decided : by < n
  pub held : holds set by ≡ true
  pub outdone : OutdoneAt blocks j by

-- What holds of each of the first n numbers.
abbrev pub Below : (ℕ → Type 0) → ℕ → Type 0
Below P n = (j : ℕ) → j < n → P j

-- Block j is in the set where the rival holds it, or outdone by one of the set's first n; and so is each of the first n blocks.
abbrev pub OutdoneFor : (blocks : List ℕ) (n set rival j : ℕ) → Type 0
OutdoneFor blocks n set rival j = holds rival j ≡ true → holds set j ≡ false → OutdoneIn blocks n set j

abbrev pub HoldsOutdone : (blocks : List ℕ) (n set rival : ℕ) → Type 0
HoldsOutdone blocks n set rival = Below (OutdoneFor blocks n set rival) n

-- The rival does not hold block j without its parent; and none of the first n blocks.
abbrev pub ParentFor : (blocks : List ℕ) (rival j : ℕ) → Type 0
ParentFor blocks rival j = holds rival j ≡ true → names_left (parent_at blocks j) rival ≡ false

abbrev pub HoldsParents : (blocks : List ℕ) (n rival : ℕ) → Type 0
HoldsParents blocks n rival = Below (ParentFor blocks rival) n

-- Block j, if it is past the first n, has no parent that the set holds and the rival does not; and no undecided block has.
abbrev pub ChildFor : (blocks : List ℕ) (n set rival j : ℕ) → Type 0
ChildFor blocks n set rival j = n ≤ j → names_left (parent_at blocks j) rival ≡ true → names_left (parent_at blocks j) set ≡ true

abbrev pub LeavesNoChild : (blocks : List ℕ) (count n set rival : ℕ) → Type 0
LeavesNoChild blocks count n set rival = Below (ChildFor blocks n set rival) count

-- Two branches have the same place in a row's hour; and in every hour.
abbrev pub SameIn : (places others : List ℕ) (row : ℕ) → Type 0
SameIn places others row = get_or places row 0 ≡ get_or others row 0

abbrev pub SamePlaces : (places others : List ℕ) → Type 0
SamePlaces places others = Below (SameIn places others) hour_places

-- What is decided in a branch costs less than what is decided in another.
abbrev pub CostsLess : (other node : Node) → Type 0
CostsLess other node = other.loss * tie_room + other.tie < node.loss * tie_room + node.tie

-- The node of the decisions of a set on the first n blocks, of every day behind the blocks.
pub record Replays (blocks : List ℕ) (n set : ℕ) (node : Node) : Type 0 where
  pub fits : Fits n node
  pub tie_is : node.tie ≡ ties (rank_at blocks) (decisions n set)
  pub branch : (day : Day) (p rest : ℕ → ℕ) (t : Tables) → Known day p rest t → t.blocks ≡ blocks → n ≤ t.count → Branch day p (decisions n set) node
