-- THE BRIDGE HOLDS: an accepted book's orders are a day of the rules, with every price, hour and quantity in its range and nothing offered in an hour that
-- does not count; and its blocks are those of the block columns. Assumes nothing.
use Prim.Native.Nat.{ℕ, ◌≤◌}
use mathlib.Core.Bool.{true}
use mathlib.Core.Path.{◌≡◌, refl, ap, sym, ◌∙◌, fun_ext}
use mathlib.Core.List.{List, [], ◌∷◌, map}
use lib.ListN.{length, take, length-map}
use Rattle.rules.specs.Orders.{most_block_quantity}
use Rattle.rules.proofs.BoundsLaws.{limits-small}
use native.Mathlib.Nat.{le_trans}
use Rattle.records.specs.Records.{day_hours, edition, number, portfolio, side_byte, step_at, block_at}
use Rattle.fields.specs.Hours.{counted_hours}
use Rattle.chains.specs.Chains.{step_order, block_order}
use Rattle.book.specs.Refusals.{Accepted}
use Rattle.chains.proofs.Members.{Each, each_map, each-image}
use Rattle.book.proofs.Accepted.{StepRecord, BlockRecord, step-records, block-records, step-hours-counted, day-hours}
use Rattle.fields.proofs.HourLaws.{running-holds}
use Rattle.rules.specs.Orders.{Step, Block, steps_of, canonical}
use Rattle.rules.specs.Day.{autumn_hours, is_counted, each_on_day, day_of}
use Rattle.rules.specs.Day as day
use Rattle.rules.proofs.QuietHours.{StepsCount, Quiet, on-day-counts}
use Rattle.rules.specs.Contender.{PricesInRange, HoursInRange}
use Rattle.orders.specs.Bridge.{step_from, order_from, block_from, block_on, orders_of, day_from}
use Rattle.orders.specs.Columns.{block_records, block_side_at, block_hours_at, block_price_at, block_quantity_at, BlockColumns}
use Rattle.orders.specs.Columns.{block_of, blocks_from}
use Rattle.orders.proofs.FrontLaws.{block-records-front, block-sides-front, block-hours-front, block-prices-front, block-quantities-front}
use Rattle.orders.proofs.RecordLaws.{blocks-all, block-each, block-as-read}
use Rattle.orders.proofs.HourLaws.{side_same}

-- THE DAY'S LISTS
steps-from : (b : List ℕ) (l : List ℕ) → steps_of (map (order_from b) l) ≡ map (step_from b) l
unfolding steps_of order_from
steps-from b [] = refl
steps-from b (k ∷ l) = ap (λ (m : List Step). step_from b k ∷ m) (steps-from b l)

-- The day's steps and blocks are those of the two chains, in chain order
pub day-steps : (b : List ℕ) → (day_from b).steps ≡ map (step_from b) (step_order b)
unfolding day_from day_of orders_of canonical
day-steps b = steps-from b (step_order b)

blocks-on : (b : List ℕ) (l : List ℕ) → each_on_day (day_hours b) (map (block_from b) l) ≡ map (block_on b) l
unfolding each_on_day
blocks-on b [] = refl
blocks-on b (k ∷ l) = ap (λ (m : List Block). block_on b k ∷ m) (blocks-on b l)

pub day-blocks : (b : List ℕ) → (day_from b).blocks ≡ map (block_on b) (block_order b)
unfolding day_from day_of orders_of canonical
day-blocks b = blocks-on b (block_order b)

-- The day follows the book's edition
pub day-edition : (b : List ℕ) → (day_from b).edition ≡ edition b
unfolding day_from day_of orders_of canonical
day-edition b = refl

-- The day has as many hours as the head says, 23 to 25
pub day-hours-read : (b : List ℕ) → (day_from b).hours ≡ day_hours b
unfolding day_from day_of orders_of canonical
day-hours-read b = refl

pub day-short : (b : List ℕ) → Accepted b → (day_from b).hours ≤ autumn_hours
day-short b a = rw (day-hours-read b) (day-hours b a).1

-- RANGES
-- A step of the rules within the ranges of document 01
pub record StepInRange (s : Step) : Type 0 where
  pub hour : (1 ≤ s.hour) × (s.hour ≤ 24)
  pub price : (1 ≤ s.price) × (s.price ≤ 300000)
  pub quantity : (1 ≤ s.quantity) × (s.quantity ≤ 99999)

-- A block of the rules within the ranges of document 01
pub record BlockInRange (s : Block) : Type 0 where
  pub price : (1 ≤ s.price) × (s.price ≤ 300000)
  pub quantity : (1 ≤ s.quantity) × (s.quantity ≤ most_block_quantity)

step-in-range : (b : List ℕ) (k : ℕ) → StepRecord b k → StepInRange (step_from b k)
unfolding step_from
step-in-range b k r = record { hour = r.fields.hour; price = r.fields.price; quantity = r.fields.quantity }

block-in-range : (b : List ℕ) (k : ℕ) → BlockRecord b k → BlockInRange (block_on b k)
unfolding block_from
block-in-range b k r =
    record { price = r.fields.price; quantity = (r.fields.quantity.0, le_trans r.fields.quantity.1 (limits-small (edition b))) }

-- Every step and every block of the day
pub steps-in-range : (b : List ℕ) → Accepted b → Each StepInRange (day_from b).steps
steps-in-range b a =
    rw (day-steps b)
    (each-image StepInRange (step_from b) (step_order b)
    (each_map (StepRecord b) (λ k. StepInRange (step_from b k)) (step_order b) (step-in-range b) (step-records b a)))

pub blocks-in-range : (b : List ℕ) → Accepted b → Each BlockInRange (day_from b).blocks
blocks-in-range b a =
    rw (day-blocks b)
    (each-image BlockInRange (block_on b) (block_order b)
    (each_map (BlockRecord b) (λ k. BlockInRange (block_on b k)) (block_order b) (block-in-range b) (block-records b a)))

-- What the rules ask of a day's steps
prices-of : (l : List Step) → Each StepInRange l → PricesInRange l
prices-of [] h = tt
prices-of (s ∷ l) h = (h.0.price.0, h.0.price.1, prices-of l h.1)

hours-of : (l : List Step) → Each StepInRange l → HoursInRange l
hours-of [] h = tt
hours-of (s ∷ l) h = (h.0.hour.0, h.0.hour.1, hours-of l h.1)

pub prices-in-range : (b : List ℕ) → Accepted b → PricesInRange (day_from b).steps
prices-in-range b a = prices-of (day_from b).steps (steps-in-range b a)

pub hours-in-range : (b : List ℕ) → Accepted b → HoursInRange (day_from b).steps
hours-in-range b a = hours-of (day_from b).steps (steps-in-range b a)

-- Nothing is offered in an hour that does not count
steps-quiet : (hours : ℕ) (b : List ℕ) (l : List ℕ) → Each (λ k. is_counted hours (step_at b k).hour ≡ true) l → StepsCount hours (map (step_from b) l)
unfolding step_from
steps-quiet hours b [] c = tt
steps-quiet hours b (k ∷ l) c = (c.0, steps-quiet hours b l c.1)

pub day-quiet : (b : List ℕ) → Accepted b → Quiet (day_from b)
unfolding day_from day_of orders_of canonical
day-quiet b a =
    record {
      steps = rw (steps-from b (step_order b)) (steps-quiet (day_hours b) b (step_order b) (step-hours-counted b a));
      blocks = on-day-counts (day_hours b) (map (block_from b) (block_order b));
    }

-- BLOCKS OUT OF THEIR COLUMNS
pub block_same : (b : List ℕ) (k : ℕ) → BlockRecord b k
    → block_on b k ≡ block_of (number b k) (portfolio b k) (block_side_at b k) (block_hours_at b k) (block_price_at b k) (block_quantity_at b k)
unfolding block_from block_at
block_same b k r =
    let n = block-as-read b k r in
    let runs = fun_ext (λ h. running-holds (day_hours b) (block_at b k).hours h) in
    rw (n.side, n.hours, n.price, n.quantity, runs, side_same (side_byte b k))

blocks-from : (b : List ℕ) (l : List ℕ) → Each (BlockRecord b) l → map (block_on b) l
    ≡ blocks_from b l (map (block_side_at b) l) (map (block_hours_at b) l) (map (block_price_at b) l) (map (block_quantity_at b) l)
unfolding blocks_from
blocks-from b [] r = refl
blocks-from b (k ∷ l) r = rw (block_same b k r.0, blocks-from b l r.1)

-- The day's blocks are those of the first `count` places of the columns
pub blocks-from-columns : {n : ℕ} (b : List ℕ) (count : ℕ) (records sides hours prices quantities : List ℕ)
    → BlockColumns n b count records sides hours prices quantities → Accepted b
    → (day_from b).blocks
    ≡ blocks_from b (take count records) (take count sides) (take count hours) (take count prices) (take count quantities)
blocks-from-columns b count records sides hours prices quantities c a =
    day-blocks b
    ∙ rw (
      ← blocks-all b a,
      block-records-front c,
      block-sides-front c,
      block-hours-front c,
      block-prices-front c,
      block-quantities-front c,
    ) (blocks-from b (block_records b) (block-each b a))

-- .. and there are `count` of them
pub block-count : {n : ℕ} (b : List ℕ) (count : ℕ) (records sides hours prices quantities : List ℕ)
    → BlockColumns n b count records sides hours prices quantities → Accepted b → length (day_from b).blocks ≡ count
block-count b count records sides hours prices quantities c a =
    rw (day-blocks b, length-map, ← blocks-all b a) (sym c.counted)

-- HOURS OF A BLOCK
-- A block of the rules has as many hours as its 24 bits say, each as often as it counts
pub hour-count : (day-hours number portfolio side hours price quantity : ℕ)
    → day.hour_count day-hours (block_of number portfolio side hours price quantity) ≡ counted_hours day-hours hours
unfolding day.hour_count counted_hours
hour-count day-hours number portfolio side hours price quantity = refl
