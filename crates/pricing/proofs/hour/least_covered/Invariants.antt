use Rattle.std.proofs.Common.{ℕ, ◌-◌, ◌≤◌}
use Rattle.rules.specs.Orders.{max_price}
use Rattle.pricing.specs.Curves.{hour_with}
use Rattle.pricing.proofs.EndLaws.{Between}
use Rattle.pricing.proofs.hour.least_covered.Given as goal

abbrev pub invariant-loop-low : goal.invariant-loop-low
invariant-loop-low l = record {
  positive : 1 ≤ l.low;
  ordered : l.low ≤ l.high;
  in_range : l.high ≤ max_price;
  between : (h : ℕ) → Between l.margin (hour_with h l.steps.sides.now l.steps.prices.now l.steps.quantities.now l.net) l.low l.high;
}

abbrev pub decreases-loop-low : goal.decreases-loop-low
decreases-loop-low l = l.high - l.low
