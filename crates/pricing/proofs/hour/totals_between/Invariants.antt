use Rattle.std.proofs.Common.{◌≡◌}
use Rattle.pricing.proofs.TotalsLaws.{Counted}
use Rattle.pricing.proofs.hour.totals_between.Given as goal

abbrev pub invariant-loop-i : goal.invariant-loop-i
invariant-loop-i l =
    (l.totals.over ≡ l.over) × (l.totals.to ≡ l.to)
    × Counted l.steps.sides.now l.steps.prices.now l.steps.quantities.now l.over l.to l.totals.above l.totals.upto l.i
