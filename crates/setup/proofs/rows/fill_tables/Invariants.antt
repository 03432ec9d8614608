-- the rows before that of the hour are filled
use Rattle.setup.proofs.SetupTableLaws.{RowsTo}
use Rattle.setup.proofs.rows.fill_tables.Given as goal

abbrev pub invariant-loop-h : goal.invariant-loop-h
invariant-loop-h l = RowsTo l.initial.unit_prices l.steps.sides.now l.steps.prices.now l.steps.quantities.now l.steps.ends.now l.off l.most l.unit_prices l.h
