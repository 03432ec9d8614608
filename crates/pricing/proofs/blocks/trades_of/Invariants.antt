use Rattle.pricing.proofs.TradeLaws.{Summed}
use Rattle.pricing.proofs.blocks.trades_of.Given as goal

abbrev pub invariant-loop-i : goal.invariant-loop-i
invariant-loop-i l = Summed l.sides l.hours l.quantities l.hour l.set l.trades.sales l.trades.buys l.rest l.i
