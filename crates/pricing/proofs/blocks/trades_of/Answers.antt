-- `pricing::blocks::trades_of` meets its contract: what the first i blocks of the set sell and buy in the hour. Assumes nothing.
use Rattle.std.proofs.Common.{arith}
use Rattle.pricing.proofs.TradeLaws.{summed-next, summed-all}
use Rattle.pricing.proofs.blocks.trades_of.Goals as goal

pub loop-i-preserved : goal.loop-i-preserved
loop-i-preserved c =
    summed-next _ _ _ _ c.requires.0 _ _ _ _ _ _ _ c.loop-i.invariant c.loop-i-test.true (omega (arith, c.type_inv.quantities c.loop-i.i))
    c.add-trades.ensures.0 c.add-trades.ensures.1

pub returns : goal.returns
returns c = summed-all _ _ _ _ c.requires.0 _ _ _ _ _ c.loop-i.invariant c.loop-i-test.false
