-- the hours before this one have their ranges and their gaps
use Rattle.setup.proofs.SetupTableLaws.{RangesTo}
use Rattle.setup.proofs.rows.fill_ranges.Given as goal

abbrev pub invariant-loop-h : goal.invariant-loop-h
invariant-loop-h l = RangesTo l.initial.gap l.steps.sides.now l.steps.prices.now l.steps.quantities.now l.steps.ends.now l.off l.most l.root l.unit_prices l.gap l.first l.last l.turn l.h
