-- THE PUBLICATION IS THE RESULT: what is computed out of an accepted book's columns with the published set and its prices is what the definition
-- publishes: the orders' quantities hour after hour, the welfare and the rows. Assumes nothing.
use Prim.Native.Nat.{ℕ, zero, suc, ◌+◌, ◌-◌, ◌*◌, ◌/◌, ◌%◌, ◌^◌, ◌≤◌, ◌<◌}
use mathlib.Core.Bool.{Bool, false, cond}
use mathlib.Core.Path.{◌≡◌, refl, sym, ap, ap₂, ◌∙◌}
use mathlib.Core.List.{List, [], ◌∷◌, ◌++◌}
use native.Mathlib.Omega.{arith}
use lib.Dec.{eqb}
use lib.ListN.{length, take, get_or}
use lib.Seq.{ext_get_or, take_all, get_or-take, length-take-le}
use Rattle.records.specs.Records.{record_count, day_hours, block_at}
use Rattle.chains.specs.Chains.{block_order}
use Rattle.book.specs.Refusals.{Accepted}
use Rattle.rules.specs.Orders.{Step, Order, Block, steps_of, canonical}
use Rattle.rules.specs.Day.{day_of, keep, change_hour, weight, is_counted, taken, decisions, over_blocks, sells, buys, steps_in, sum_to, day_sum, set_prices, traded, executed, welfare, day_value, day_cost}
use Rattle.rules.specs.Day.{blocks_value, blocks_cost}
use Rattle.rules.specs.Outcome.{outcome, for_hours}
use Rattle.rules.specs.Contender.{quantities_in}
use Rattle.rules.proofs.Tests.{by-test}
use Rattle.rules.proofs.SetBits.{bits_at}
use Rattle.rules.proofs.DualityLaws.{value, cost}
use Rattle.rules.proofs.DayLaws.{executed-in, value-by-hour, cost-by-hour}
use Rattle.orders.specs.Bridge.{orders_of, day_from}
use Rattle.orders.specs.Columns.{block_records, by_hour, StepColumns, BlockColumns, blocks_from}
use Rattle.orders.proofs.RecordLaws.{blocks-all}
use Rattle.orders.proofs.FrontLaws.{step-records-front, block-records-front, blocks-in-front}
use Rattle.orders.proofs.HourLaws.{hour-from-columns}
use Rattle.orders.proofs.PlaceLaws.{block-place}
use Rattle.orders.proofs.BridgeLaws.{blocks-from-columns, day-hours-read, prices-in-range, hours-in-range}
use Rattle.places.specs.Layout.{most_quantity}
use Rattle.places.specs.Hours.{FirstSmall, times_in, sum_over, of_hour}
use Rattle.places.specs.Steps.{steps_at}
use Rattle.branches.specs.Meaning.{AnHour}
use Rattle.search.specs.Meaning.{DayOf, StepsAre}
use Rattle.search.specs.declared.Day as code-day
use Rattle.result.specs.Rows.{row_at}
use Rattle.result.specs.Result.{bytes_of, hour_rows, record_rows, beside, block_rows, row_of, result_bytes}
use Rattle.clearing.specs.Publish.{TradersSized, HoursDone, WorthOf, WhereCounted, RowsOf, sales_at, buys_at, in_turn, steps_get, orders_get, orders_in, StandFor}
use Rattle.clearing.proofs.SumLaws.{one_each}
use Rattle.result.proofs.RowLaws.{records-same}
use Rattle.places.proofs.StepLaws.{small-take}
use Rattle.rules.proofs.HourSums.{sum_to-in}
use Rattle.places.proofs.CountedLaws.{times-are, day-sum}
use Rattle.result.proofs.RowsLaws.{
  hour_after_hour,
  published_blocks,
  chosen_is,
  executed_in,
  executed_by_hour,
  rows-by-hour,
  block_rows-length,
  block_rows-at,
}
use Rattle.pricing.proofs.TraderLaws.{traders-same}
use Rattle.result.proofs.PromiseLaws.{where_counted, outcome-count, hours-length, hour-at, bytes-are}

-- THE STEPS of the hours are the day's
pub columns-steps : (b ends records sides prices quantities : List ℕ) → StepColumns b ends records sides prices quantities → Accepted b →
    StepsAre (day_from b) (steps_at ends sides prices quantities)
unfolding steps_at
columns-steps b ends records sides prices quantities columns a h first last =
    sym (hour-from-columns b ends records sides prices quantities columns a h first last)

-- the steps of an hour's orders are the hour's
steps-in : (h : ℕ) (l : List Order) → steps_of (orders_in h l) ≡ steps_in h (steps_of l)
unfolding steps_of
steps-in h [] = refl
steps-in h (o ∷ l) =
    by-test (λ t. steps_of (keep t o (orders_in h l)) ≡ keep t o.step (steps_in h (steps_of l))) (eqb o.step.hour h)
    (λ e. ap (λ m. o.step ∷ m) (steps-in h l)) (λ e. steps-in h l)

-- lists that agree in each of the hours
in_turn-same : (n : ℕ) (q r : ℕ → List ℕ) → ((h : ℕ) → 1 ≤ h → h ≤ n → q h ≡ r h) → in_turn q n ≡ hour_after_hour r n
unfolding in_turn hour_after_hour
in_turn-same zero q r e = refl
in_turn-same (suc n) q r e = ap₂ ◌++◌ (in_turn-same n q r (λ h a k. e h a (omega arith))) (e (suc n) (omega arith) (omega arith))

-- a column of 24 with a number of each hour
column-is : (column : List ℕ) (f : ℕ → ℕ) → length column ≡ 24 → ((h : ℕ) → 1 ≤ h → h ≤ 24 → of_hour column h ≡ f h) → column ≡ for_hours 24 f
column-is column f n e =
    ext_get_or 0 column (for_hours 24 f) (n ∙ sym (hours-length 24 f))
    (λ i k.
    let back : i + 1 - 1 ≡ i = omega arith in
    (rw back at (e (i + 1) (omega arith) (omega arith))) ∙ sym (rw back at (hour-at 24 f (i + 1) (omega arith) (omega arith))))

-- THE ROWS in two goes: the blocks' first, then the steps'
pub rows-twice : (records values brecords bquantities bvals start rows₀ rows : List ℕ) (set : ℕ) → ((k : ℕ) → get_or start k 0 ≡ 0) →
    length brecords ≤ length bvals →
    ((i : ℕ) → i < length brecords → get_or bvals i 0 ≡ cond (eqb (set / 2 ^ i % 2) 1) (get_or bquantities i 0) 0) →
    ((k : ℕ) → k < 2048 → get_or rows₀ k 0 ≡ beside k brecords (take (length brecords) bvals) (get_or start k 0)) →
    ((k : ℕ) → k < 2048 → get_or rows k 0 ≡ beside k records values (get_or rows₀ k 0)) → RowsOf records values brecords bquantities set rows
rows-twice records values brecords bquantities bvals start rows₀ rows set none fits at first second bvalues size same k small =
    let n = length brecords in
    let e : take n bvals ≡ bvalues =
    ext_get_or 0 (take n bvals) bvalues (length-take-le n bvals fits ∙ sym size)
    (λ i l.
    let m : i < n = omega (arith, length-take-le n bvals fits) in
    get_or-take n bvals i 0 m ∙ at i m ∙ sym (same i m)) in
    second k small ∙ rw (first k small, e, none k)

-- AN ACCEPTED BOOK with its columns, the published set and its day
module _ (b ends records sides prices quantities brecords bsides bhours bprices bquantities : List ℕ) (set : ℕ) (found : code-day.Day) (a : Accepted b)
    (columns : StepColumns b ends records sides prices quantities)
    (blocks : BlockColumns (length bsides) b (length bsides) brecords bsides bhours bprices bquantities)
    (chosen : decisions (length bsides) set ≡ outcome (day_from b))
    (of : DayOf (day_from b) (outcome (day_from b)) found)
    (sizeR : length bsides ≡ length brecords) (sizeH : length bsides ≡ length bhours) (sizeP : length bsides ≡ length bprices)
    (sizeQ : length bsides ≡ length bquantities) where
  abbrev steps : ℕ → List Step
  steps = steps_at ends sides prices quantities

  abbrev sales : ℕ → ℕ
  sales = sales_at bsides bhours bquantities set

  abbrev purchases : ℕ → ℕ
  purchases = buys_at bsides bhours bquantities set

  abbrev gets : ℕ → List ℕ
  gets = steps_get (steps_at ends sides prices quantities) (sales_at bsides bhours bquantities set) (buys_at bsides bhours bquantities set) (of_hour found.prices)

  steps-are : StepsAre (day_from b) (steps_at ends sides prices quantities)
  steps-are = columns-steps b ends records sides prices quantities columns a

  -- the day's blocks
  blocks-are : blocks_from b brecords bsides bhours bprices bquantities ≡ (day_from b).blocks
  blocks-are =
      sym (blocks-from-columns b (length bsides) brecords bsides bhours bprices bquantities blocks a
      ∙ rw (
        take_all (length bsides) brecords (omega arith),
        take_all (length bsides) bsides (omega arith),
        take_all (length bsides) bhours (omega arith),
        take_all (length bsides) bprices (omega arith),
        take_all (length bsides) bquantities (omega arith),
      ))

  taken-are : taken (blocks_from b brecords bsides bhours bprices bquantities) (decisions (length bsides) set) ≡ published_blocks b
  taken-are = rw (blocks-are, chosen)

  sales-are : (h : ℕ) → sales h ≡ over_blocks (sells h) (published_blocks b)
  unfolding sales_at
  sales-are h =
      sym (traders-same (sells h) (λ n m s x p q. refl) b brecords bsides bhours bprices bquantities sizeR (omega arith) (omega arith) (omega arith) (decisions (length bsides) set))
      ∙ ap (over_blocks (sells h)) taken-are

  purchases-are : (h : ℕ) → purchases h ≡ over_blocks (buys h) (published_blocks b)
  unfolding buys_at
  purchases-are h =
      sym (traders-same (buys h) (λ n m s x p q. refl) b brecords bsides bhours bprices bquantities sizeR (omega arith) (omega arith) (omega arith) (decisions (length bsides) set))
      ∙ ap (over_blocks (buys h)) taken-are

  gets-are : (h : ℕ) → 1 ≤ h → h ≤ 24 → gets h ≡ executed_in b h
  unfolding executed_in
  gets-are h first last = rw (steps-are h first last, sales-are h, purchases-are h, of.prices_are h record { first = first; last = last })

  -- the book's orders of each hour stand for the columns' steps, and get what these get
  abbrev orders : ℕ → List Order
  orders h = orders_in h (orders_of b).steps

  stand-for : StandFor (steps_at ends sides prices quantities) (λ h. orders_in h (orders_of b).steps) 24
  unfolding day_from day_of canonical
  stand-for h first last = steps-in h (orders_of b).steps ∙ sym (steps-are h first last)

  orders-get : (h : ℕ) → 1 ≤ h → h ≤ 24 → orders_get orders sales purchases (of_hour found.prices) h ≡ executed_in b h
  orders-get h first last = one_each (orders h) ∙ rw (stand-for h first last) (gets-are h first last)

  module _ (often day : ℕ) (on : day_hours b ≡ day) (weighs : often ≡ weight day change_hour) (values : List ℕ) (v c wv wc : ℕ)
      (hours : HoursDone often ends (steps_at ends sides prices quantities) (sales_at bsides bhours bquantities set) (buys_at bsides bhours bquantities set)
      (of_hour found.prices) 24 values v c)
      (worth-on : WorthOf day bsides bhours bprices bquantities set wv wc) where
    same-day : day ≡ (day_from b).hours
    same-day = sym (day-hours-read b ∙ on)

    counts : often ≡ weight (day_from b).hours change_hour
    counts = rw same-day at weighs

    worth : WorthOf (day_from b).hours bsides bhours bprices bquantities set wv wc
    worth = rw same-day at worth-on

    values-are : take (get_or ends 24 0) values ≡ executed_by_hour b 24
    unfolding executed_by_hour
    values-are = hours.gets orders stand-for ∙ in_turn-same 24 (orders_get orders sales purchases (of_hour found.prices)) (executed_in b) orders-get

    -- THE WELFARE
    abbrev S : List Block
    S = published_blocks b

    executed-here : (h : ℕ) → quantities_in h (day_from b).steps (executed (day_from b) (published_blocks b)) ≡ executed_in b h
    unfolding executed_in
    executed-here h = executed-in (day_from b) (prices-in-range b a) (hours-in-range b a) (published_blocks b) h

    -- the day's sum, hour 3 as often as it counts
    over-day : (f : ℕ → ℕ) → day_sum (day_from b).hours f ≡ sum_to 24 (λ h. times_in (weight (day_from b).hours change_hour) h * f h)
    unfolding sum_over
    over-day f = day-sum (day_from b).hours f

    value-is : v + wv ≡ day_value (day_from b) (published_blocks b) (executed (day_from b) (published_blocks b))
    value-is =
        let d = day_from b in
        let sum : v ≡ day_sum d.hours (λ h. value (steps_in h d.steps) (quantities_in h d.steps (executed d S))) =
        hours.value_is ∙ sum_to-in 24 _ _ (λ h x y. rw (gets-are h x y, steps-are h x y, executed-here h, counts)) ∙ sym (over-day _) in
        let of : wv ≡ blocks_value d.hours S = worth.value_is b brecords (sym sizeR) ∙ rw taken-are in
        rw (sum, of)
        (sym (value-by-hour d (prices-in-range b a) (hours-in-range b a) S (executed d S)))

    cost-is : c + wc ≡ day_cost (day_from b) (published_blocks b) (executed (day_from b) (published_blocks b))
    cost-is =
        let d = day_from b in
        let sum : c ≡ day_sum d.hours (λ h. cost (steps_in h d.steps) (quantities_in h d.steps (executed d S))) =
        hours.cost_is ∙ sum_to-in 24 _ _ (λ h x y. rw (gets-are h x y, steps-are h x y, executed-here h, counts)) ∙ sym (over-day _) in
        let of : wc ≡ blocks_cost d.hours S = worth.cost_is b brecords (sym sizeR) ∙ rw taken-are in
        rw (sum, of)
        (sym (cost-by-hour d (prices-in-range b a) (hours-in-range b a) S (executed d S)))

    welfare-are : v + wv - (c + wc) ≡ welfare (day_from b) (outcome (day_from b))
    unfolding welfare
    welfare-are = rw (value-is, cost-is)

    -- THE ROWS
    brecords-here : brecords ≡ block_records b
    brecords-here = sym (take_all (length bsides) brecords (omega arith)) ∙ block-records-front blocks

    brecords-are : brecords ≡ block_order b
    brecords-are = brecords-here ∙ blocks-all b a

    abbrev bvalues : List ℕ
    bvalues = block_rows b (block_order b) (outcome (day_from b))

    bvalues-at : (i : ℕ) → i < length brecords → get_or bvalues i 0 ≡ cond (eqb (set / 2 ^ i % 2) 1) (get_or bquantities i 0) 0
    bvalues-at i k =
        let p = block-place b (length bsides) brecords bsides bhours bprices bquantities blocks a i (omega arith) in
        let inside : i < length (block_order b) = rw brecords-are at k in
        let bit : get_or (outcome (day_from b)) i false ≡ eqb (set / 2 ^ i % 2) 1 = rw (← chosen) (bits_at (length bsides) set i (omega arith)) in
        let q : get_or bquantities i 0 ≡ (block_at b (get_or (block_order b) i 0)).quantity = rw brecords-are at p.quantity_is in
        block_rows-at b (block_order b) (outcome (day_from b)) i (outcome-count b a) inside ∙ rw (bit, q)

    module _ (rows : List ℕ) (rowed : RowsOf (take (get_or ends 24 0) records) (take (get_or ends 24 0) values) brecords bquantities set rows) where
      row_is : (k : ℕ) → k < 2048 → row_at rows k ≡ row_of b k
      row_is k small =
          let n = columns.ends_at 24 (omega arith) in
          let r : take (get_or ends 24 0) records ≡ by_hour b 24 = rw n (step-records-front columns) in
          rowed bvalues (rw brecords-are (block_rows-length b (block_order b) (outcome (day_from b)) (outcome-count b a))) bvalues-at k small
          ∙ rw (r, values-are, brecords-here) (rows-by-hour b a bvalues (rw (chosen_is b)) k)

      -- THE WHOLE
      -- a column of the hours that count
      counted-column : (f : ℕ → ℕ) (column r : List ℕ) → ((h : ℕ) → AnHour h → of_hour column h ≡ f h) → WhereCounted often column r → r ≡ for_hours 24 (where_counted b f)
      unfolding is_counted
      counted-column f column r is w =
          column-is r (where_counted b f) w.size (λ h x y.
          w.are h x y ∙ rw (counts, ← (times-are (day_from b).hours h), is h record { first = x; last = y }))

      pub published-from : (result prices-r traded-r : List ℕ) (count w : ℕ) → WhereCounted often found.prices prices-r →
          WhereCounted often found.quantities traded-r → count ≡ record_count b → count ≤ 2048 →
          w ≡ v + wv - (c + wc) →
          result ≡ bytes_of 8 w ++ (hour_rows prices-r traded-r ++ record_rows (row_at rows) (count - 1) 1) → result ≡ result_bytes b
      published-from result prices-r traded-r count w pr tr same small ew e =
          e ∙ rw (
            bytes-are b a,
            ew,
            welfare-are,
            counted-column (set_prices (day_from b) (published_blocks b)) found.prices prices-r of.prices_are pr,
            counted-column (traded (day_from b) (published_blocks b)) found.quantities traded-r of.traded_are tr,
            records-same (row_at rows) (row_of b) (count - 1) 1 (λ i x y. row_is i (omega arith)),
            same,
          )

-- THE BLOCKS' COLUMNS as the fronts of their arrays, which have room for them
pub record Fronts (count : ℕ) (records sides hours prices quantities : List ℕ) : Type 0 where
  pub few : count ≤ 32
  pub in_records : count ≤ length records
  pub in_sides : count ≤ length sides
  pub in_hours : count ≤ length hours
  pub in_prices : count ≤ length prices
  pub in_quantities : count ≤ length quantities

module _ {count : ℕ} {records sides hours prices quantities : List ℕ} (f : Fronts count records sides hours prices quantities) where
  pub fronts-sized : FirstSmall count most_quantity quantities → TradersSized (take count sides) (take count hours) (take count quantities)
  fronts-sized small =
      record {
        few = omega (arith, f.few, length-take-le count sides f.in_sides);
        as_many_hours = length-take-le count sides f.in_sides ∙ sym (length-take-le count hours f.in_hours);
        as_many_quantities = length-take-le count sides f.in_sides ∙ sym (length-take-le count quantities f.in_quantities);
        quantities_fit = small-take most_quantity count quantities small;
      }

  pub fronts-records : length (take count sides) ≡ length (take count records)
  fronts-records = length-take-le count sides f.in_sides ∙ sym (length-take-le count records f.in_records)

  pub fronts-prices : length (take count sides) ≡ length (take count prices)
  fronts-prices = length-take-le count sides f.in_sides ∙ sym (length-take-le count prices f.in_prices)

  pub fronts-columns : (b : List ℕ) → BlockColumns 32 b count records sides hours prices quantities →
      BlockColumns (length (take count sides)) b (length (take count sides)) (take count records) (take count sides) (take count hours)
      (take count prices) (take count quantities)
  fronts-columns b c = rw (length-take-le count sides f.in_sides) (blocks-in-front c)

  pub fronts-chosen : (set : ℕ) (d : List Bool) → decisions count set ≡ d → decisions (length (take count sides)) set ≡ d
  fronts-chosen set d e = rw (length-take-le count sides f.in_sides) e
