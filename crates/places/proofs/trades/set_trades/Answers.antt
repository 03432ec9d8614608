-- `places::trades::set_trades` meets its contract: the blocks from number i on are added. Assumes nothing.
use Rattle.places.proofs.TradeLaws.{trades-start, trades-next}
use Rattle.places.proofs.trades.set_trades.Goals as goal

pub loop-i-init : goal.loop-i-init
loop-i-init c = trades-start _ _ _

pub loop-i-preserved : goal.loop-i-preserved
loop-i-preserved c =
    trades-next _ _ _ _ _ _ _ _ c.loop-i.invariant c.loop-i-test.true (c.requires.0.rows_fit _) c.moved_where-sold.ensures c.moved_where-bought.ensures
