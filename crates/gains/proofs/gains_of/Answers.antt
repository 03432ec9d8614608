-- `gains_of` meets its contract: the gains of the first i blocks are filled in. Assumes nothing.
use Rattle.std.proofs.Common.{arith}
use Rattle.orders.proofs.ColumnLaws.{filled_next, filled-all}
use Rattle.gains.specs.Gains.{gain_column}
use Rattle.gains.proofs.GainLaws.{prices-small, day-few, often-few, price-few, gain-read}
use Rattle.gains.proofs.gains_of.Goals as goal

pub counted_prices-counted-requires : goal.counted_prices-counted-requires
counted_prices-counted-requires c =
    let a = c.requires.0 in
    (rw (c.prices_in.ensures, c.requires.1) (prices-small _ a), rw c.change_weight.ensures (often-few _ a _ c.day_hours-day.ensures))

pub gain_of-requires : goal.gain_of-requires
gain_of-requires c =
    let a = c.requires.0 in (
      c.counted_prices-counted.ensures.1,
      rw c.day_hours-day.ensures (day-few _ a),
      price-few _ a _ _ _ _ _ _ c.blocks_of-blocks.ensures c.loop-i.i c.loop-i-test.true,
    )

pub loop-i-preserved : goal.loop-i-preserved
loop-i-preserved c =
    let loop = c.loop-i in
    let blocks = c.blocks_of-blocks.ensures in
    let gain =
    rw (c.counted_prices-counted.ensures.0, c.change_weight.ensures, c.prices_in.ensures, c.day_hours-day.ensures) at c.gain_of.ensures
    in
    filled_next 32 _ _ loop.i _ _ (omega (arith, blocks.counted)) (omega (arith, blocks.few))
    (gain-read _ c.requires.0 _ _ _ _ _ _ blocks loop.i c.loop-i-test.true _ _ _ c.row_in-row.ensures gain) loop.invariant

pub returns : goal.returns
unfolding gain_column
returns c = filled-all 32 _ _ c.loop-i.i _ (omega (arith, c.blocks_of-blocks.ensures.counted)) c.loop-i.invariant
