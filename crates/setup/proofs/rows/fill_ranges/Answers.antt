-- `setup::fill_ranges` meets its contract: the hours before this one have their ranges and their gaps. Assumes nothing.
use Rattle.std.proofs.Common.{◌+◌, ◌*◌, ◌≤◌, length, get_or, arith, ◌∙◌}
use Rattle.places.specs.Hours.{row_width}
use Rattle.setup.specs.Setup.{row_places}
use Rattle.places.proofs.CellLaws.{row_fits}
use Rattle.setup.proofs.SetupTableLaws.{hour-held, part_length, part-row, row-wide, ranges-next}
use Rattle.setup.proofs.rows.fill_ranges.Goals as goal

pub hour-requires : goal.hour-requires
hour-requires c = hour-held _ _ _ _ c.loop-h.h c.requires.held.0 c.requires.held.1 c.loop-h-test.true

pub fill_hour-range-requires : goal.fill_hour-range-requires
fill_hour-range-requires c =
    let v = c.loop-h in
    let k = c.loop-h-test.true in
    let q = c.requires.held in
    let t = c.requires.tables in
    let table = c.args.unit_prices.now in
    let w = row_width c.args.gap.now in
    let in_gap : v.h * w + row_places (get_or c.args.most v.h 0) ≤ length v.gap = omega (arith, row_fits c.args.gap.now v.h _ k (q.5 v.h k), v.invariant.size) in
    let in_prices : v.h * w + row_places (get_or c.args.most v.h 0) ≤ length table = omega (arith, row_fits c.args.gap.now v.h _ k (q.5 v.h k), t.0) in
    record {
      held = (c.requires.within v.h k, q.2 v.h, q.3 v.h, part_length w v.gap v.h _ in_gap);
      table = (part_length w table v.h _ in_prices, rw (part-row w table v.h _, c.hour.ensures.sides, c.hour.ensures.prices, c.hour.ensures.quantities) (t.1 v.h k));
    }

pub loop-h-preserved : goal.loop-h-preserved
loop-h-preserved c =
    let v = c.loop-h in
    let k = c.loop-h-test.true in
    let f = c.fill_hour-range in
    let fit = c.requires.held.5 in
    let w = row_width c.args.gap.now in
    let in_gap : v.h * w + row_places (get_or c.args.most v.h 0) ≤ length v.gap = omega (arith, row_fits c.args.gap.now v.h _ k (fit v.h k), v.invariant.size) in
    ranges-next _ _ _ _ _ _ _ _ _ fit _ _ _ _ _ v.h _ _ _ _ v.invariant k
    (f.auto.gap ∙ part_length w v.gap v.h _ in_gap) (row-wide w v.h _) f.ensures.fits.1
    (rw (← c.hour.ensures.sides, ← c.hour.ensures.prices, ← c.hour.ensures.quantities) (rw (part-row w c.args.unit_prices.now v.h _) at f.ensures.ranged))
