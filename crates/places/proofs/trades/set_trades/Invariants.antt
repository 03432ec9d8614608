-- the blocks from number i on are added
use Rattle.places.proofs.TradeLaws.{TradesTo}
use Rattle.places.proofs.trades.set_trades.Given as goal

abbrev pub invariant-loop-i : goal.invariant-loop-i
invariant-loop-i l = TradesTo l.blocks l.count l.set l.i l.sales l.buys
