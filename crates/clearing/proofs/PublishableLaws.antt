-- THE PUBLICATION MAY BE CALLED: what it asks holds of an accepted book's columns with the published set's day. Assumes nothing.
use Prim.Native.Nat.{ℕ, ◌+◌, ◌-◌, ◌*◌, ◌≤◌}
use mathlib.Core.Path.{◌≡◌}
use mathlib.Core.List.{List}
use native.Mathlib.Omega.{arith}
use lib.ListN.{length, get_or}
use Rattle.records.specs.Records.{record_count, day_hours}
use Rattle.book.specs.Refusals.{Accepted}
use Rattle.book.proofs.Accepted.{record-count, day-hours}
use Rattle.rules.specs.Day.{set_prices}
use Rattle.rules.specs.Outcome.{outcome}
use Rattle.rules.proofs.BestLaws.{outcome-first}
use Rattle.rules.proofs.DayLaws.{empty-lawful}
use Rattle.orders.specs.Bridge.{day_from}
use Rattle.orders.specs.Columns.{StepColumns}
use Rattle.orders.specs.declared.Steps.{Steps}
use Rattle.orders.specs.declared.Blocks.{Blocks}
use Rattle.orders.proofs.BridgeLaws.{day-quiet, prices-in-range, hours-in-range}
use Rattle.orders.proofs.HourLaws.{ends-start, ends-rise, ends-fit}
use Rattle.orders.proofs.PlaceLaws.{step-place, block-place}
use Rattle.search.specs.Meaning.{DayOf}
use Rattle.places.specs.Steps.{StepsSized}
use Rattle.clearing.specs.Publish.{BlocksOf, Publishable}
use Rattle.search.specs.declared.Day as code-day
use Rattle.search.proofs.TradedLaws.{price-positive}
use Rattle.result.proofs.RowsLaws.{published_blocks}

module _ (b : List ℕ) (a : Accepted b) where
  -- every hour of the outcome has a price
  outcome-priced : (h : ℕ) → 1 ≤ h → h ≤ 24 → 1 ≤ set_prices (day_from b) (published_blocks b) h
  outcome-priced h first last =
      let day = day_from b in
      let prices = prices-in-range b a in
      let hours = hours-in-range b a in
      price-positive day (day-quiet b a) prices hours (outcome day) (outcome-first day (empty-lawful day prices hours)).is_lawful h
      record { first = first; last = last }

  module _ (ends records sides prices quantities : List ℕ) (columns : StepColumns b ends records sides prices quantities) where
    pub steps-sized : get_or ends 24 0 ≤ length sides → get_or ends 24 0 ≤ length prices → get_or ends 24 0 ≤ length quantities →
        StepsSized ends sides prices quantities
    steps-sized ls lp lq =
        record {
          start = ends-start b ends records sides prices quantities columns;
          rise = λ h k. ends-rise b ends records sides prices quantities columns h (h + 1) (omega arith) (omega arith);
          fit = ends-fit b ends records sides prices quantities columns 24 (omega arith);
          in_sides = ls;
          in_prices = lp;
          in_quantities = lq;
          prices_fit = λ i k. (step-place b ends records sides prices quantities columns a i k).price_range.1;
          quantities_fit = λ i k. (step-place b ends records sides prices quantities columns a i k).quantity_range.1;
        }

  pub publishable : (steps : Steps) (blocks : Blocks) (day : code-day.Day) (day-of count : ℕ) (result : List ℕ) → BlocksOf b blocks →
      DayOf (day_from b) (outcome (day_from b)) day → day_hours b ≡ day-of → count ≡ record_count b → length result ≡ 196 + 4 * count →
      get_or steps.ends 24 0 ≤ length steps.records → StepsSized steps.ends steps.sides steps.prices steps.quantities →
      Publishable day-of count steps blocks day result
  publishable steps blocks day day-of count result c d on same size lr sized =
      let place = block-place b blocks.count blocks.records blocks.sides blocks.hours blocks.prices blocks.quantities c a in
      let n = record-count b a in
      record {
        short = rw (← on) (day-hours b a).1;
        steps_fit = sized;
        in_records = lr;
        few_blocks = c.few;
        block_prices_fit = λ i k. (place i k).price_range.1;
        block_quantities_fit = λ i k. (place i k).quantity_range.1;
        priced = λ h k.
            let back : h + 1 - 1 ≡ h = omega arith in
            let p = rw back at (d.prices_are (h + 1) record { first = omega arith; last = omega arith }) in
            omega (arith, outcome-priced (h + 1) (omega arith) (omega arith));
        buffer = (omega (arith, n.0), omega (arith, n.1), size);
      }
