-- WHAT THE SEARCH MEANS: what a set costs, and what the search promises of the best it gives back. These are the contracts of private functions; the promise of
-- the clearing itself is in Promise. Definitions only. Assumes nothing.
use Rattle.std.specs.Prelude.{ℕ, ◌+◌, ◌*◌, ◌^◌, ◌≤◌, ◌<◌, Bool, true, List, ◌≡◌, ltb, length}
use Rattle.rules.specs.Orders.{Step}
use Rattle.rules.specs.Hour.{when}
use Rattle.rules.specs.Day.{Day, taken, decisions, steps_in, set_prices, lawful, traded}
use Rattle.rules.proofs.CostSearchLaws as by-cost
use Rattle.rules.proofs.TieLaws.{ties}
use Rattle.rules.proofs.CostLaws.{tie_room}
use Rattle.rules.proofs.LinkLaws.{Closed}
use Rattle.rules.proofs.TwinLaws.{InTurn}
use Rattle.places.specs.Layout.{hour_places, last_limit, most_loss}
use Rattle.places.specs.Hours.{of_hour, PlacesClear}
use Rattle.places.specs.Blocks.{rank_at, SetTrades}
use Rattle.places.specs.Steps.{steps_at, StepsSized, HoursTraded}
use Rattle.branches.specs.Tables.{Tables, tables_of}
use Rattle.branches.specs.Meaning.{AnHour, Known, Branch, loss_above, cost_above, At}
use Rattle.branches.specs.declared.Node.{Node}
use Rattle.orders.specs.declared.DaySteps.{DaySteps}
use Rattle.search.specs.declared.Day as code-day
use Rattle.search.specs.declared.Best.{Best}

-- THE STEPS as the code lends them: those of each hour, and what is asked of their columns for safe arithmetic.
abbrev pub hour_steps : DaySteps → ℕ → List Step
hour_steps s = steps_at s.ends.now s.sides.now s.prices.now s.quantities.now

abbrev pub StepsFit : DaySteps → Type 0
StepsFit s = (length s.ends.now ≡ hour_places + 1) × StepsSized s.ends.now s.sides.now s.prices.now s.quantities.now

-- THE BEST SO FAR
-- What a set must cost less than, to become the best.
abbrev pub cost_limit : Best → ℕ
cost_limit best = best.limit * tie_room + best.tie

-- The best in the laws' form.
abbrev pub best_as : ℕ → Best → by-cost.Best
best_as count best = record { limit = cost_limit best; set = decisions count best.set }

-- What a branch's completions must lose less than, once its left-out blocks come to `here`: the best's loss, or one more where they may still settle a tie.
unfoldable pub limit_at : (limit tie here : ℕ) → ℕ
limit_at limit tie here = limit + when (ltb here tie) 1

-- For safe arithmetic: its loss, and what its left-out blocks come to.
pub record Held (best : Best) : Type 0 where
  pub limit_fits : best.limit ≤ 2 * last_limit
  pub tie_fits : best.tie ≤ most_loss

-- What a branch with so many undecided blocks makes of it in any case: it costs no more, and at most one unit of fuel is spent for each way to decide them.
pub record Kept (left : ℕ) (best r : Best) : Type 0 where
  pub no_more : cost_limit r ≤ cost_limit best
  pub tie_fits : r.tie ≤ most_loss
  pub fuel_falls : r.fuel ≤ best.fuel
  pub fuel_spent : best.fuel < r.fuel + 2 ^ left

-- a set's prices and traded quantities
pub record DayOf (day : Day) (set : List Bool) (found : code-day.Day) : Type 0 where
  pub prices_are : (h : ℕ) → AnHour h → of_hour found.prices h ≡ set_prices day (taken day.blocks set) h
  pub traded_are : (h : ℕ) → AnHour h → of_hour found.quantities h ≡ traded day (taken day.blocks set) h

-- THE SETS THAT ARE SOUGHT: of twins in turn, and such that no lawful set costs less
pub record Sought (day : Day) (p rest : ℕ → ℕ) (t : Tables) (set : List Bool) : Type 0 where
  pub in_turn : InTurn day p set
  pub cheapest : (other : List Bool) → length other ≡ t.count → lawful day other ≡ true → cost_above day p rest t.blocks set ≤ cost_above day p rest t.blocks other

-- WHAT A BRANCH GIVES BACK of the best so far: with fuel left, no completion that is sought costs less
pub record Outcome (day : Day) (p rest : ℕ → ℕ) (t : Tables) (left : ℕ) (d : List Bool) (best r : Best) : Type 0 where
  pub explored : 0 < r.fuel →
      by-cost.Explored day (Sought day p rest t) (cost_above day p rest t.blocks) left d (best_as t.count best) (best_as t.count r)
  pub same : cost_limit r ≡ cost_limit best → (r.set ≡ best.set) × (r.day ≡ best.day)
  pub found : cost_limit r < cost_limit best → (r.set < 2 ^ t.count) × DayOf day (decisions t.count r.set) r.day

-- the steps of each hour are the day's
abbrev pub StepsAre : Day → (ℕ → List Step) → Type 0
StepsAre day steps = (h : ℕ) → 1 ≤ h → h ≤ hour_places → steps h ≡ steps_in h day.steps

-- A SET WITH ALL BLOCKS DECIDED, against the best so far.
abbrev pub Decided : (t : Tables) (steps : ℕ → List Step) (node : Node) (best r : Best) → Type 0
Decided t steps node best r =
    (day : _) (p rest : ℕ → ℕ) (d : List Bool) → StepsAre day steps → (known : Known day p rest t) → Branch day p d node →
    node.tie ≡ ties (rank_at t.blocks) d → Closed known.parent d → length d ≡ t.count → node.set < 2 ^ t.count → Outcome day p rest t 0 d best r

-- A SET THAT BECOMES THE BEST at prices, with what it loses and what its left-out blocks come to: its day has these prices, and what is traded at them.
pub record FoundAt (blocks : List ℕ) (count : ℕ) (steps : ℕ → List Step) (node : Node) (limit fuel : ℕ) (prices : List ℕ) (r : Best) : Type 0 where
  pub limit_is : r.limit ≡ limit
  pub tie_is : r.tie ≡ node.tie
  pub fuel_is : r.fuel ≡ fuel
  pub set_is : r.set ≡ node.set
  pub prices_are : r.day.prices ≡ prices
  pub sales : List ℕ
  pub purchases : List ℕ
  pub trades : SetTrades blocks count node.set sales purchases
  pub traded : HoursTraded steps sales purchases prices r.day.quantities

-- The same set where prices can give way, once its hours clear and it loses so much.
abbrev pub ShiftDecided : (t : Tables) (steps : ℕ → List Step) (node : Node) (limit : ℕ) (best r : Best) → Type 0
ShiftDecided t steps node limit best r =
    (day : _) (p rest : ℕ → ℕ) (d : List Bool) → StepsAre day steps → (known : Known day p rest t) → Branch day p d node →
    node.tie ≡ ties (rank_at t.blocks) d → Closed known.parent d → length d ≡ t.count → node.set < 2 ^ t.count →
    limit ≡ loss_above day p rest d → PlacesClear t.first t.last node.places → t.shifts ≡ true → Outcome day p rest t 0 d best r

-- The gaps play no part in that.
abbrev pub ShiftDecidedIn : (unit_prices hours blocks : List ℕ) (count : ℕ) (steps : ℕ → List Step) (node : Node) (limit : ℕ) (best r : Best) → Type 0
ShiftDecidedIn unit_prices hours blocks count steps node limit best r =
    (gaps : List ℕ) → ShiftDecided (tables_of unit_prices gaps hours blocks count) steps node limit best r

-- A BRANCH EXPLORED.
abbrev pub ExploredFrom : (t : Tables) (steps : ℕ → List Step) (left out : ℕ) (node : Node) (best r : Best) → Type 0
ExploredFrom t steps left out node best r =
    (day : _) (p rest : ℕ → ℕ) (d : List Bool) → StepsAre day steps → At t left node (limit_at best.limit best.tie node.tie) out day p rest d →
    Outcome day p rest t left d best r
