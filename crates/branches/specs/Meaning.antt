-- WHAT A BRANCH OF THE SEARCH MEANS: the day behind its tables, the decided blocks behind its state, why it is dropped, and one more block decided. These are
-- the contracts of private functions; the promise of the clearing itself is in Promise. Definitions only. Assumes nothing.
use Rattle.std.specs.Prelude.{ℕ, suc, ◌+◌, ◌-◌, ◌*◌, ◌^◌, ◌≤◌, ◌<◌, Bool, true, false, not, eqb, List, ◌∷◌, ◌++◌, ◌≡◌, length, drop, get_or, Option, MatchOption}
use Rattle.book.specs.Bounds.{most_blocks}
use Rattle.places.specs.Layout.{hour_places, most_added}
use Rattle.records.specs.Records.{holds_hour}
use Rattle.orders.specs.Columns.{side_for}
use Rattle.rules.specs.Orders.{Block, max_price}
use Rattle.rules.specs.Day.{Day, change_hour, weight, day_sum, decisions, over_blocks, sells, buys, steps_in, gives_way, hour_count, lawful}
use Rattle.rules.specs.Contender.{PricesInRange, HoursInRange}
use Rattle.rules.proofs.PricingLaws.{Clearable, net}
use Rattle.rules.proofs.TableLaws.{unit_price}
use Rattle.rules.proofs.NeighbourLaws.{slack}
use Rattle.rules.proofs.BoundLaws.{gain}
use Rattle.rules.proofs.LossLaws.{against, losses, loss_of}
use Rattle.rules.proofs.PlaceLaws.{place, hour_at}
use Rattle.rules.proofs.TieLaws.{ties}
use Rattle.rules.proofs.CostLaws.{cost_of}
use Rattle.rules.proofs.QuietHours.{Quiet}
use Rattle.rules.proofs.LinkLaws.{Closed, Parents}
use Rattle.rules.proofs.TwinLaws.{Ahead}
use Rattle.places.specs.Hours.{Small, DayPrices, cell, of_hour, HasRows, last_in, counted_column, low_end, high_end, PricesOf}
use Rattle.places.specs.Blocks.{BlocksSized, side_at, hours_at, limit_at, against_at, gain_at, parent_at, ahead_at, behind_at, rank_at, row_quantity}
use Rattle.places.specs.Reach.{is_out}
use Rattle.branches.specs.Tables.{Tables}
use Rattle.branches.specs.declared.Node.{Node}
use Rattle.rules.specs.Hour.{when, middle}

-- SIZES, for safe arithmetic and indexing
pub record Sized (t : Tables) : Type 0 where
  pub price_rows : HasRows t.unit_prices
  pub gap_rows : HasRows t.gaps
  pub first_hours : length t.first ≡ hour_places
  pub last_hours : length t.last ≡ hour_places
  pub last_in_prices : Small (last_in t.unit_prices) t.last
  pub last_in_gaps : Small (last_in t.gaps) t.last
  pub prices_fit : Small max_price t.unit_prices
  pub blocks_fit : BlocksSized t.blocks
  pub change_few : t.change ≤ 2
  pub few : t.count ≤ most_blocks

-- A node with so many blocks decided.
pub record Fits (decided : ℕ) (node : Node) : Type 0 where
  pub set_fits : node.set < 2 ^ decided
  pub loss_fits : node.loss ≤ decided * 2 ^ 32
  pub tie_fits : node.tie ≤ decided * 2 ^ 32
  pub places_size : length node.places ≡ hour_places
  pub places_fit : Small (decided * most_added) node.places

-- ONE OF THE 24 HOURS, whether it counts or not: nothing is offered in one that does not
pub record AnHour (h : ℕ) : Type 0 where
  pub first : 1 ≤ h
  pub last : h ≤ hour_places

-- THE DAY behind the tables, at hourly prices p; `rest` is what the tables leave off each hour's gaps
-- Block j of the day and its columns.
pub record Shown (day : Day) (p : ℕ → ℕ) (blocks : List ℕ) (j : ℕ) : Type 0 where
  pub block : Block
  pub next : drop j day.blocks ≡ block ∷ drop (suc j) day.blocks
  pub side_is : block.side ≡ side_for (side_at blocks j)
  pub runs_is : (h : ℕ) → block.runs h ≡ holds_hour (hours_at blocks j) h
  pub row_is : (h : ℕ) → AnHour h → row_quantity blocks j h ≡ when (block.runs h) block.quantity
  pub limit_is : block.price * hour_count day.hours block ≡ limit_at blocks j
  pub against_is : against day.hours p block ≡ against_at blocks j
  pub gain_is : gain day.hours p block ≡ gain_at blocks j

-- The last place that a set of the day's blocks can have in hour h: where every sell is taken and every buy left out.
abbrev pub last_reached : Day → ℕ → ℕ
last_reached day h = over_blocks (sells h) day.blocks + over_blocks (buys h) day.blocks

pub record Known (day : Day) (p rest : ℕ → ℕ) (t : Tables) : Type 0 where
  pub prices : PricesInRange day.steps
  pub hours : HoursInRange day.steps
  pub quiet : Quiet day
  pub change_is : weight day.hours change_hour ≡ t.change
  pub change_few : t.change ≤ 2
  pub shifts_is : gives_way day.edition ≡ t.shifts
  pub counted : length day.blocks ≡ t.count
  -- the price table: the least price that meets the demand, one unit of N below the place
  pub unit_price_is : (h i : ℕ) → AnHour h → i ≤ last_reached day h + 1 →
      cell t.unit_prices h i ≡ unit_price (net (steps_in h day.steps) i (suc (over_blocks (buys h) day.blocks)))
  -- the places at which an hour clears, of those that its blocks can reach
  pub last_is : (h : ℕ) → AnHour h → of_hour t.last h ≤ last_reached day h
  pub clears : (h i : ℕ) → AnHour h → of_hour t.first h ≤ i → i ≤ of_hour t.last h → Clearable (hour_at day h i)
  pub clears_only : (h i : ℕ) → AnHour h → i ≤ last_reached day h → Clearable (hour_at day h i) →
      (of_hour t.first h ≤ i) × (i ≤ of_hour t.last h)
  -- the gap table
  pub gap_is : (h i : ℕ) → AnHour h → of_hour t.first h ≤ i → i ≤ of_hour t.last h →
      slack (p h) (hour_at day h i) ≡ cell t.gaps h i + rest h
  pub shown : (j : ℕ) → j < t.count → Shown day p t.blocks j
  -- the parents
  pub parent : ℕ → ℕ
  pub parents : Parents day parent
  pub parent_is : (j : ℕ) → j < t.count → parent_at t.blocks j ≡ parent j
  -- the twins
  pub ahead : (j a : ℕ) → j < t.count → ahead_at t.blocks j ≡ suc a → (a < j) × Ahead day p a j
  pub behind : (j b : ℕ) → j < t.count → behind_at t.blocks j ≡ suc b → (b < j) × Ahead day p j b

-- Each hour's gaps fall to the place where they turn, and rise from it.
pub record Turning (t : Tables) : Type 0 where
  pub falls : (h i j : ℕ) → 1 ≤ h → h ≤ hour_places → of_hour t.first h ≤ i → i ≤ j → j ≤ of_hour t.last h → j ≤ of_hour t.turn h →
      cell t.gaps h j ≤ cell t.gaps h i
  pub rises : (h i j : ℕ) → 1 ≤ h → h ≤ hour_places → of_hour t.first h ≤ i → i ≤ j → j ≤ of_hour t.last h → of_hour t.turn h ≤ i →
      cell t.gaps h i ≤ cell t.gaps h j

-- THE BRANCH of the decided blocks d
pub record Branch (day : Day) (p : ℕ → ℕ) (d : List Bool) (node : Node) : Type 0 where
  pub set_is : decisions (length d) node.set ≡ d
  pub loss_is : node.loss ≡ losses day.hours p day.blocks d
  pub places_are : (h : ℕ) → AnHour h → of_hour node.places h ≡ place day.blocks d h

-- the loss of a set, less what the tables leave off
unfoldable pub loss_above : Day → (ℕ → ℕ) → (ℕ → ℕ) → List Bool → ℕ
loss_above day p rest set = loss_of day p set - day_sum day.hours rest

-- the cost of a set: its loss, and among sets that lose the same what its left-out blocks come to by their ranks
abbrev pub cost_above : Day → (p rest : ℕ → ℕ) → (blocks : List ℕ) → List Bool → ℕ
cost_above day p rest blocks = cost_of (loss_above day p rest) (rank_at blocks)

-- THE BEST PRICES WITHIN REACH: for a sell those of the lowest places, for a buy those of the highest; H and L there where prices can give way, else the middle.
abbrev pub best_for_sells : Bool → (low high : ℕ) → ℕ
best_for_sells true = high_end
best_for_sells false = middle

abbrev pub best_for_buys : Bool → (low high : ℕ) → ℕ
best_for_buys true = low_end
best_for_buys false = middle

-- These as they count, hour 3's so often.
pub record BoundsOf (shifts : Bool) (unit_prices : List ℕ) (often : ℕ) (from to high low : List ℕ) : Type 0 where
  pub highs : List ℕ
  pub lows : List ℕ
  pub highs_are : PricesOf (best_for_sells shifts) unit_prices from highs
  pub lows_are : PricesOf (best_for_buys shifts) unit_prices to lows
  pub high_is : high ≡ counted_column often highs
  pub low_is : low ≡ counted_column often lows
  pub high_fits : DayPrices high
  pub low_fits : DayPrices low

-- THE BLOCKS THAT ARE OUT of a branch: no lawful completion that loses less than the limit takes one of them.
abbrev pub OutOf : (day : Day) (p rest : ℕ → ℕ) (d : List Bool) (left limit out : ℕ) → Type 0
OutOf day p rest d left limit out =
    (tail : List Bool) (k : ℕ) → length tail ≡ left → lawful day (d ++ tail) ≡ true → loss_above day p rest (d ++ tail) < limit → k < left →
    is_out out k ≡ true → get_or tail k false ≡ false

-- THE BRANCH AT ITS TABLES: it takes no block without its parent; with what its left-out blocks come to by their ranks, and its blocks that are out
pub record At (t : Tables) (left : ℕ) (node : Node) (limit out : ℕ) (day : Day) (p rest : ℕ → ℕ) (d : List Bool) : Type 0 where
  pub known : Known day p rest t
  pub turning : Turning t
  pub branch : Branch day p d node
  pub tie_is : node.tie ≡ ties (rank_at t.blocks) d
  pub closed : Closed known.parent d
  pub size : length d + left ≡ t.count
  pub out_of : OutOf day p rest d left limit out

-- A BRANCH TO DROP: no lawful completion loses less than the limit.
abbrev pub DroppedFrom : (t : Tables) (left out : ℕ) (node : Node) (limit : ℕ) → Type 0
DroppedFrom t left out node limit =
    (day : _) (p rest : ℕ → ℕ) (d tail : List Bool) → At t left node limit out day p rest d →
    length tail ≡ left → lawful day (d ++ tail) ≡ true → limit ≤ loss_above day p rest (d ++ tail)

-- A BRANCH JUDGED: none where it is dropped, else the blocks that are out of it.
abbrev pub JudgedFrom : (t : Tables) (left out : ℕ) (node : Node) (limit : ℕ) → Option ℕ → Type 0
JudgedFrom t left out node limit judged =
    MatchOption judged (DroppedFrom t left out node limit)
    (λ r. (day : _) (p rest : ℕ → ℕ) (d : List Bool) → At t left node limit out day p rest d → OutOf day p rest d left limit r)

-- ONE MORE BLOCK decided: the set, the loss, what the left-out blocks come to, and the places moved on by what a sell sells if taken, a buy buys if left out
pub record TakenTo (blocks : List ℕ) (at : ℕ) (node r : Node) : Type 0 where
  pub set_is : r.set ≡ node.set + 2 ^ at
  pub loss_is : r.loss ≡ node.loss + against_at blocks at
  pub tie_is : r.tie ≡ node.tie
  pub places_are : (h : ℕ) → 1 ≤ h → h ≤ hour_places →
      of_hour r.places h ≡ of_hour node.places h + when (not (eqb (side_at blocks at) 0)) (row_quantity blocks at h)

pub record LeftTo (blocks : List ℕ) (at : ℕ) (node r : Node) : Type 0 where
  pub set_is : r.set ≡ node.set
  pub loss_is : r.loss ≡ node.loss + gain_at blocks at
  pub tie_is : r.tie ≡ node.tie + rank_at blocks at
  pub places_are : (h : ℕ) → 1 ≤ h → h ≤ hour_places →
      of_hour r.places h ≡ of_hour node.places h + when (eqb (side_at blocks at) 0) (row_quantity blocks at h)
