-- `clearing::publish::rows_of` meets its contract: the blocks' rows, then the steps'. Assumes nothing.
use Rattle.std.proofs.Common.{◌≡◌, ◌≤◌, length, replicate, arith, rules}
use Rattle.orders.proofs.ColumnLaws.{zeros}
use Rattle.clearing.proofs.PublishLaws.{rows-twice}
use Rattle.clearing.proofs.publish.rows_of.Goals as goal

pub returns : goal.returns
returns c =
    let b = c.args.blocks.now in
    let whole : length c.block_values-bvalues.result ≡ 32 = search rules in
    let fits : length b.records.now ≤ length c.block_values-bvalues.result = omega (arith, b.as_many_records, b.sized.few) in
    rows-twice c.args.records.now c.args.values.now b.records.now b.quantities.now c.block_values-bvalues.result (replicate 2048 0) c.with_rows-rows.result
    c.with_rows.result c.args.set (zeros 2048) fits c.block_values-bvalues.ensures c.with_rows-rows.ensures c.with_rows.ensures
