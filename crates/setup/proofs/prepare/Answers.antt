-- `setup::prepare` meets its contract: the tables and columns filled one after the other are those of the day. Assumes nothing.
use Rattle.std.proofs.Common.{rules, ◌≡◌, ◌≤◌, length, refl, sym, ◌∙◌}
use Rattle.rules.specs.Day.{change_hour}
use Rattle.rules.proofs.BoundsLaws.{weight-small}
use Rattle.setup.proofs.SetupLaws.{rows_fit, off-fits, set-up, ready}
use Rattle.setup.proofs.SetupTwinLaws.{completed, blocks-sized, rows_empty}
use Rattle.setup.proofs.SetupBlockLaws.{bought-within}
use Rattle.setup.proofs.prepare.Goals as goal

pub fill_tables-requires-clause-table : goal.fill_tables-requires-clause-table
fill_tables-requires-clause-table c =
    let t = c.requires.tables in
    (t.0, rows_fit _ _ _ _ _ _ c.traded_by_hour-most.ensures c.requires.room, t.2)

pub root_prices-root-requires-clause-tables : goal.root_prices-root-requires-clause-tables
root_prices-root-requires-clause-tables c =
    let new = c.fill_tables.new.unit_prices in
    let same : length new ≡ length c.args.unit_prices.now = c.fill_tables.auto.unit_prices in
    let fit = rows_fit _ _ _ _ _ _ c.traded_by_hour-most.ensures c.requires.room in
    let within = bought-within _ _ _ _ _ _ c.traded_by_hour-off.ensures c.traded_by_hour-most.ensures in
    (rw (← same) at c.requires.tables.0, c.fill_tables.ensures.small, off-fits new c.traded_by_hour-off.result c.traded_by_hour-most.result (search rules) within (rw (← same) at fit))

pub fill_ranges-ranges-requires-clause-held : goal.fill_ranges-ranges-requires-clause-held
fill_ranges-ranges-requires-clause-held c =
    let t = c.requires.tables in
    let same = sym t.1 in
    let fit = rows_fit _ _ _ _ _ _ c.traded_by_hour-most.ensures c.requires.room in
    (c.requires.steps.0, c.requires.steps.1, c.traded_by_hour-most.ensures.small, c.root_prices-root.ensures, rw same at t.0, rw same at fit)

pub fill_ranges-ranges-requires-clause-within : goal.fill_ranges-ranges-requires-clause-within
fill_ranges-ranges-requires-clause-within c = bought-within _ _ _ _ _ _ c.traded_by_hour-off.ensures c.traded_by_hour-most.ensures

pub counted_prices-counted-requires : goal.counted_prices-counted-requires
counted_prices-counted-requires c = (c.root_prices-root.ensures, rw c.change_weight-often.ensures (weight-small _ change_hour c.requires.day))

pub with_rows-traded-requires : goal.with_rows-traded-requires
with_rows-traded-requires c =
    (c.requires.blocks.few, rows_empty _ _ _ _ c.widened-wide.ensures c.with_parents-linked.ensures c.block_columns-columns.ensures.small)

pub returns-clause-sized : goal.returns-clause-sized
returns-clause-sized c =
    let same = c.fill_tables.auto.unit_prices in
    let t = c.requires.tables in
    let gap_size = c.fill_ranges-ranges.auto.gap ∙ t.1 ∙ sym same in
    let r = c.fill_ranges-ranges.ensures.small in
    let joined = c.joined.ensures in
    let sized = blocks-sized _ _ _ _ _ _ _ c.requires.blocks.few c.requires.parents c.widened-wide.ensures c.with_parents-linked.ensures c.with_rows-traded.ensures c.with_twins.ensures in
    let often : c.change_weight-often.result ≤ 2 = rw c.change_weight-often.ensures (weight-small _ change_hour c.requires.day) in
    rw (joined.0, joined.1, joined.2, joined.3, joined.4)
    (set-up _ (rw (← same) at t.0) gap_size r.0 r.1 (rw (t.1 ∙ sym same) at r.3) c.fill_tables.ensures.small sized often c.requires.blocks.few)

pub returns-clause-ready : goal.returns-clause-ready
returns-clause-ready c =
    let same = c.fill_tables.auto.unit_prices in
    let t = c.requires.tables in
    let gap_size = c.fill_ranges-ranges.auto.gap ∙ t.1 ∙ sym same in
    let fit = rows_fit _ _ _ _ _ _ c.traded_by_hour-most.ensures c.requires.room in
    let joined = c.joined.ensures in
    let all = completed _ _ _ _ _ _ _ c.requires.blocks.few c.requires.parents c.widened-wide.ensures c.with_parents-linked.ensures c.with_rows-traded.ensures
    c.with_twins.ensures _ _ _ _ _ _ c.block_columns-columns.ensures.blocks in
    rw (joined.0, joined.1, joined.2, joined.3, joined.4)
    (ready _ _ _ _ _ _ _ _ _ _ _ _ _ c.traded_by_hour-off.result c.traded_by_hour-most.result c.root_prices-root.result c.fill_tables.new.unit_prices
    _ _ _ _ _ _ _ gap_size (search rules) (rw (← same) at fit) c.traded_by_hour-off.ensures c.traded_by_hour-most.ensures
    (rw (← same) at c.fill_tables.ensures.rows) (rw (t.1 ∙ sym same) at c.fill_ranges-ranges.ensures.ranges) c.change_weight-often.ensures refl
    (rw c.counted_prices-counted.ensures.0 at all))
