-- THE PUBLICATION out of columns: what the orders of each hour get, hour after hour, and what it is worth; the result's bytes from them and from the day.
-- A place of the columns is an order of the step chain, and what it gets is what its steps get together (`executed_of`); today each order is its one step.
-- These are the contracts of the functions of src/publish.rt; the promise of the clearing itself is in Promise. Definitions only. Assumes nothing.
use Rattle.std.specs.Prelude.{ℕ, zero, suc, ◌*◌, ◌/◌, ◌%◌, ◌^◌, ◌≤◌, ◌<◌, cond, not, List, [], ◌∷◌, ◌++◌, ◌≡◌, eqb, length, take, get_or}
use Rattle.std.proofs.Math.Seq.{slice}
use Rattle.records.specs.Records.{record_count, day_hours}
use Rattle.book.specs.Refusals.{Accepted}
use Rattle.records.specs.Layout.{last_hour}
use Rattle.rules.specs.Orders.{Step, Order, max_price, steps_of, executed_of}
use Rattle.rules.specs.Hour.{when}
use Rattle.rules.specs.Execution.{execution}
use Rattle.rules.specs.Day.{autumn_hours, keep, taken, decisions, over_blocks, sells, buys, sum_to, blocks_value, blocks_cost}
use Rattle.rules.specs.Outcome.{outcome}
use Rattle.rules.proofs.PricingLaws.{net}
use Rattle.rules.proofs.DualityLaws.{value, cost}
use Rattle.orders.specs.Bridge.{day_from}
use Rattle.orders.specs.Columns.{StepColumns, BlockColumns, steps_from, blocks_from}
use Rattle.orders.specs.Layout.{step_places, block_places}
use Rattle.orders.specs.declared.Steps.{Steps}
use Rattle.orders.specs.declared.Blocks.{Blocks}
use Rattle.pricing.specs.Curves.{traders_from}
use Rattle.places.specs.Layout.{most_quantity}
use Rattle.places.specs.Hours.{Small, FirstSmall, times_in, of_hour}
use Rattle.places.specs.Steps.{StepsSized}
use Rattle.search.specs.Meaning.{DayOf}
use Rattle.result.specs.Layout.{result_size}
use Rattle.result.specs.Result.{beside, result_bytes}
use Rattle.search.specs.declared.Day as code-day

-- ROOM, for safe arithmetic: what the steps of an hour, or all blocks, are worth at most.
abbrev pub most_worth : ℕ
most_worth = 2 ^ 46

-- AN HOUR out of its columns
-- What each order gets at a price, whichever orders stand for the columns' steps and whatever hour these are of, and the value and the cost of it.
pub record HourDone (sides prices quantities : List ℕ) (sales purchases price : ℕ) (out : List ℕ) (value-r cost-r : ℕ) : Type 0 where
  pub gets : (h : ℕ) (orders : List Order) → steps_of orders ≡ steps_from h sides prices quantities →
      out ≡ executed_of orders (execution (net (steps_of orders) sales purchases) price)
  pub value_is : (h : ℕ) → let l = steps_from h sides prices quantities in value-r ≡ value l (execution (net l sales purchases) price)
  pub cost_is : (h : ℕ) → let l = steps_from h sides prices quantities in cost-r ≡ cost l (execution (net l sales purchases) price)
  pub value_fits : value-r ≤ most_worth
  pub cost_fits : cost-r ≤ most_worth

-- What quantities of an hour's steps are worth; the steps' own quantities play no part in that.
pub record SumsOf (sides prices values : List ℕ) (value-r cost-r : ℕ) : Type 0 where
  pub value_is : (h : ℕ) → value-r ≡ value (steps_from h sides prices values) values
  pub cost_is : (h : ℕ) → cost-r ≡ cost (steps_from h sides prices values) values
  pub value_fits : value-r ≤ most_worth
  pub cost_fits : cost-r ≤ most_worth

-- The same for the part of the columns from one place to another; what stands in front of it stays.
pub record HourPut (sides prices quantities : List ℕ) (from to sales purchases price : ℕ) (before values : List ℕ)
    (value-r cost-r : ℕ) : Type 0 where
  pub same_length : length values ≡ length before
  pub front : take from values ≡ take from before
  pub done : HourDone (slice from to sides) (slice from to prices) (slice from to quantities) sales purchases price (slice from to values)
      value-r cost-r

-- THE HOURS of the columns
-- What the blocks of a set sell and buy in hour h.
unfoldable pub sales_at : (sides hours quantities : List ℕ) (set : ℕ) → ℕ → ℕ
sales_at sides hours quantities set h = over_blocks (sells h) (taken (traders_from sides hours quantities) (decisions (length sides) set))

unfoldable pub buys_at : (sides hours quantities : List ℕ) (set : ℕ) → ℕ → ℕ
buys_at sides hours quantities set h = over_blocks (buys h) (taken (traders_from sides hours quantities) (decisions (length sides) set))

-- One list for each of the hours 1 to n, hour after hour.
unfoldable pub in_turn : (ℕ → List ℕ) → ℕ → List ℕ
in_turn q zero = []
in_turn q (suc n) = in_turn q n ++ q (suc n)

-- What the steps of hour h get, with its blocks' sales and purchases and its price.
abbrev pub steps_get : (steps : ℕ → List Step) (sales purchases price : ℕ → ℕ) → ℕ → List ℕ
steps_get steps sales purchases price h = execution (net (steps h) (sales h) (purchases h)) (price h)

-- What the orders of hour h get: each what its steps get together.
abbrev pub orders_get : (orders : ℕ → List Order) (sales purchases price : ℕ → ℕ) → ℕ → List ℕ
orders_get orders sales purchases price h = executed_of (orders h) (steps_get (λ k. steps_of (orders k)) sales purchases price h)

-- The orders of an hour.
abbrev pub orders_in : ℕ → List Order → List Order
orders_in h [] = []
orders_in h (o ∷ l) = keep (eqb o.step.hour h) o (orders_in h l)

-- Orders that stand for the steps of the hours 1 to n.
abbrev pub StandFor : (steps : ℕ → List Step) (orders : ℕ → List Order) → ℕ → Type 0
StandFor steps orders n = (h : ℕ) → 1 ≤ h → h ≤ n → steps_of (orders h) ≡ steps h

-- The hours 1 to n are done: what the orders get stands in front of the values, and with it its value and its cost, hour 3's so often.
pub record HoursDone (often : ℕ) (ends : List ℕ) (steps : ℕ → List Step) (sales purchases price : ℕ → ℕ) (n : ℕ) (values : List ℕ)
    (value-r cost-r : ℕ) : Type 0 where
  pub gets : (orders : ℕ → List Order) → StandFor steps orders n → take (get_or ends n 0) values ≡ in_turn (orders_get orders sales purchases price) n
  pub value_is : value-r ≡ sum_to n (λ h. times_in often h * value (steps h) (steps_get steps sales purchases price h))
  pub cost_is : cost-r ≡ sum_to n (λ h. times_in often h * cost (steps h) (steps_get steps sales purchases price h))
  pub value_fits : value-r ≤ n * (2 * most_worth)
  pub cost_fits : cost-r ≤ n * (2 * most_worth)

-- THE BLOCKS of a set given as bits, on a day of so many hours: their value and cost, whatever their numbers.
pub record WorthOf (day-hours : ℕ) (sides hours prices quantities : List ℕ) (set value-r cost-r : ℕ) : Type 0 where
  pub value_is : (b records : List ℕ) → length records ≡ length sides →
      value-r ≡ blocks_value day-hours (taken (blocks_from b records sides hours prices quantities) (decisions (length sides) set))
  pub cost_is : (b records : List ℕ) → length records ≡ length sides →
      cost-r ≡ blocks_cost day-hours (taken (blocks_from b records sides hours prices quantities) (decisions (length sides) set))
  pub value_fits : value-r ≤ most_worth
  pub cost_fits : cost-r ≤ most_worth

-- WHAT IS ASKED of the blocks, for safe arithmetic and indexing, by the columns that trades go by
pub record TradersSized (sides hours quantities : List ℕ) : Type 0 where
  pub few : length sides ≤ block_places
  pub as_many_hours : length sides ≡ length hours
  pub as_many_quantities : length sides ≡ length quantities
  pub quantities_fit : Small most_quantity quantities

-- .. of the prices of the hours
abbrev pub HoursPriced : List ℕ → Type 0
HoursPriced prices = (h : ℕ) → h < last_hour → 1 ≤ get_or prices h 0

-- .. and of the buffer of a book of so many records
abbrev pub Buffer : ℕ → List ℕ → Type 0
Buffer count result = (1 ≤ count) × (count ≤ step_places) × (length result ≡ result_size count)

-- THE HOURS' ROWS: a number of each hour that counts, 0 for hour 3 where it does not.
pub record WhereCounted (often : ℕ) (column r : List ℕ) : Type 0 where
  pub size : length r ≡ last_hour
  pub are : (h : ℕ) → 1 ≤ h → h ≤ last_hour → of_hour r h ≡ when (not (eqb (times_in often h) 0)) (of_hour column h)

-- THE ROWS: what each order gets beside its record, and each taken block's quantity beside its own.
abbrev pub RowsOf : (records values brecords bquantities : List ℕ) (set : ℕ) (rows : List ℕ) → Type 0
RowsOf records values brecords bquantities set rows =
    (bvalues : List ℕ) → length bvalues ≡ length brecords →
    ((i : ℕ) → i < length brecords → get_or bvalues i 0 ≡ cond (eqb (set / 2 ^ i % 2) 1) (get_or bquantities i 0) 0) →
    (k : ℕ) → k < step_places → get_or rows k 0 ≡ beside k records values (beside k brecords bvalues 0)

-- THE RESULT, where the columns are an accepted book's, the set is the published one and the day is its day
abbrev pub StepsOf : List ℕ → Steps → Type 0
StepsOf b steps = StepColumns b steps.ends steps.records steps.sides steps.prices steps.quantities

abbrev pub BlocksOf : List ℕ → Blocks → Type 0
BlocksOf b blocks = BlockColumns block_places b blocks.count blocks.records blocks.sides blocks.hours blocks.prices blocks.quantities

abbrev pub PublishedFrom : (day-hours count : ℕ) (steps : Steps) (brecords bsides bhours bprices bquantities : List ℕ) (set : ℕ) (day : code-day.Day)
    (result : List ℕ) → Type 0
PublishedFrom day-hours count steps brecords bsides bhours bprices bquantities set day result =
    (b : List ℕ) → Accepted b → day_hours b ≡ day-hours → StepsOf b steps →
    BlockColumns (length bsides) b (length bsides) brecords bsides bhours bprices bquantities → decisions (length bsides) set ≡ outcome (day_from b) →
    DayOf (day_from b) (outcome (day_from b)) day → count ≡ record_count b → result ≡ result_bytes b

abbrev pub PublishedIn : (day-hours count : ℕ) (steps : Steps) (blocks : Blocks) (set : ℕ) (day : code-day.Day) (result : List ℕ) → Type 0
PublishedIn day-hours count steps blocks set day result =
    (b : List ℕ) → Accepted b → day_hours b ≡ day-hours → StepsOf b steps → BlocksOf b blocks → decisions blocks.count set ≡ outcome (day_from b) →
    DayOf (day_from b) (outcome (day_from b)) day → count ≡ record_count b → result ≡ result_bytes b

-- WHAT IS ASKED of a call, all of it for safe arithmetic and indexing: it holds of an accepted book's columns, set and day.
pub record Publishable (day-hours count : ℕ) (steps : Steps) (blocks : Blocks) (day : code-day.Day) (result : List ℕ) : Type 0 where
  pub short : day-hours ≤ autumn_hours
  pub steps_fit : StepsSized steps.ends steps.sides steps.prices steps.quantities
  pub in_records : get_or steps.ends last_hour 0 ≤ length steps.records
  pub few_blocks : blocks.count ≤ block_places
  pub block_prices_fit : FirstSmall blocks.count max_price blocks.prices
  pub block_quantities_fit : FirstSmall blocks.count most_quantity blocks.quantities
  pub priced : HoursPriced day.prices
  pub buffer : Buffer count result
