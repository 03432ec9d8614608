-- WHAT THE PASSES PROMISE: one pass over all blocks, the light passes, the heavy ones, and all together. Definitions only. Assumes nothing.
use Rattle.std.specs.Prelude.{ℕ, zero, suc, ◌+◌, ◌*◌, ◌^◌, ◌≤◌, ◌<◌, Bool, true, false, not, ◌||◌, eqb, List, ◌≡◌, length, replicate, Result, MatchResult}
use Rattle.rules.specs.Orders.{Step}
use Rattle.rules.specs.Day.{Day, decisions, lawful}
use Rattle.rules.specs.Outcome.{outcome}
use Rattle.rules.specs.Contender.{NumbersRise}
use Rattle.places.specs.Layout.{hour_places, hour_list_size, last_limit}
use Rattle.places.specs.Blocks.{parent_at}
use Rattle.places.specs.declared.tables.Tables as lent
use Rattle.orders.specs.declared.DaySteps.{DaySteps}
use Rattle.branches.specs.Tables.{Tables, seen}
use Rattle.branches.specs.Meaning.{Sized, Known, Turning, cost_above}
use Rattle.branches.specs.declared.Node.{Node}
use Rattle.search.specs.Meaning.{Kept, Sought, DayOf, StepsAre, StepsFit, ExploredFrom}
use Rattle.search.specs.declared.Best.{Best}

-- WHAT IS GIVEN: the tables and the steps' columns, for safe arithmetic and indexing.
abbrev pub Given : lent.Tables → DaySteps → Type 0
Given tables steps = Sized (seen tables) × (length tables.hours.now ≡ hour_list_size) × StepsFit steps

-- The limit of a pass, for safe arithmetic.
abbrev pub LimitHeld : ℕ → Type 0
LimitHeld limit = (1 ≤ limit) × (limit ≤ 2 * last_limit)

-- One of the first n blocks has a parent.
unfoldable pub is_linked : (blocks : List ℕ) → ℕ → Bool
is_linked blocks zero = false
is_linked blocks (suc i) = is_linked blocks i || not (eqb (parent_at blocks i) 0)

-- THE ROOT: nothing is decided.
abbrev pub root : Node
root = record { set = 0; loss = 0; tie = 0; places = replicate hour_places 0 }

-- No set is found yet, and a limit is set; with fuel.
abbrev pub start_at : (limit fuel : ℕ) → Best
start_at limit fuel =
    record { limit = limit; tie = 0; fuel = fuel; set = 0; day = record { prices = replicate hour_places 0; quantities = replicate hour_places 0 } }

-- A PASS over all blocks from a limit, with fuel.
abbrev pub Passed : (t : Tables) (steps : ℕ → List Step) (limit fuel : ℕ) (r : Best) → Type 0
Passed t steps limit fuel r = Kept t.count (start_at limit fuel) r × ExploredFrom t steps t.count 0 root (start_at limit fuel) r

-- THE CHEAPEST SET of a day: lawful and sought, and no other set costs the same.
pub record Cheapest (day : Day) (p rest : ℕ → ℕ) (t : Tables) (set : List Bool) : Type 0 where
  pub size : length set ≡ t.count
  pub is_lawful : lawful day set ≡ true
  pub sought : Sought day p rest t set
  pub apart : (other : List Bool) → length other ≡ t.count → cost_above day p rest t.blocks other ≡ cost_above day p rest t.blocks set → other ≡ set

-- It is found, of the day's blocks in whatever order they stand; with its day.
abbrev pub FoundThere : (t : Tables) (steps : ℕ → List Step) (r : Best) → Type 0
FoundThere t steps r =
    (day : _) (p rest : ℕ → ℕ) (set : List Bool) → StepsAre day steps → Known day p rest t → Turning t → Cheapest day p rest t set →
    (decisions t.count r.set ≡ set) × (r.set < 2 ^ t.count) × DayOf day set r.day

-- THE LIGHT PASSES: it is found, or a limit is reached.
abbrev pub FoundLight : (t : Tables) (steps : ℕ → List Step) → Result Best ℕ → Type 0
FoundLight t steps r = MatchResult r (FoundThere t steps) LimitHeld

-- THE PUBLISHED SET, with its day.
abbrev pub FoundIn : (t : Tables) (steps : ℕ → List Step) (r : Best) → Type 0
FoundIn t steps r =
    (day : _) (p rest : ℕ → ℕ) → StepsAre day steps → Known day p rest t → Turning t → NumbersRise 0 day.blocks →
    (decisions t.count r.set ≡ outcome day) × (r.set < 2 ^ t.count) × DayOf day (outcome day) r.day
