-- `setup::fill_tables` meets its contract: the rows before that of the hour are filled. Assumes nothing.
use Rattle.std.proofs.Common.{◌+◌, ◌*◌, ◌≤◌, length, get_or, arith, ◌∙◌}
use Rattle.places.specs.Hours.{row_width}
use Rattle.setup.specs.Setup.{row_places}
use Rattle.places.proofs.CellLaws.{row_fits}
use Rattle.setup.proofs.SetupTableLaws.{hour-held, part_length, row-wide, rows_next}
use Rattle.setup.proofs.rows.fill_tables.Goals as goal

pub hour-requires : goal.hour-requires
hour-requires c = hour-held _ _ _ _ c.loop-h.h c.requires.steps.0 c.requires.steps.1 c.loop-h-test.true

pub loop-h-preserved : goal.loop-h-preserved
loop-h-preserved c =
    let v = c.loop-h in
    let k = c.loop-h-test.true in
    let fit = c.requires.table.1 in
    let w = row_width c.args.unit_prices.now in
    let here : v.h * w + row_places (get_or c.args.most v.h 0) ≤ length v.unit_prices =
    omega (arith, row_fits c.args.unit_prices.now v.h _ k (fit v.h k), v.invariant.size) in
    rows_next _ _ _ _ _ _ _ fit _ c.fill_prices.new.out _ _ v.invariant k
    (c.fill_prices.auto.out ∙ part_length w v.unit_prices v.h _ here) (row-wide _ v.h _)
    (rw (← c.hour.ensures.sides, ← c.hour.ensures.prices, ← c.hour.ensures.quantities) c.fill_prices.ensures.table)
