-- `clearing::publish::publish_columns` meets its contract: its parts are the result's. Assumes nothing.
use Rattle.rules.specs.Day.{change_hour}
use Rattle.rules.proofs.BoundsLaws.{weight-small}
use Rattle.clearing.proofs.PublishLaws.{published-from}
use Rattle.clearing.proofs.publish.publish_columns.Goals as goal

pub fill_hours-sums-requires : goal.fill_hours-sums-requires
fill_hours-sums-requires c =
    let p = c.requires in
    (rw c.change_weight-often.ensures (weight-small _ change_hour p.0), p.1, p.3, p.1.fit, p.1.fit)

pub returns : goal.returns
returns c =
    let p = c.requires in
    let k = c.args.blocks.now in
    λ b a hours steps blocks chosen of same.
    published-from b _ _ _ _ _ _ _ _ _ _ c.args.set c.args.found a steps blocks chosen of k.as_many_records k.sized.as_many_hours k.as_many_prices
    k.sized.as_many_quantities _ _ hours c.change_weight-often.ensures _ _ _ _ _ c.fill_hours-sums.ensures c.blocks_worth-worth.ensures c.rows_of-rows.result
    c.rows_of-rows.ensures _ _ _ c.args.count _ c.where_counted-price_column.ensures c.where_counted-traded_column.ensures same p.4.1 c.saturating_sub-welfare.ensures
    c.write_result.ensures
