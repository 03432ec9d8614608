-- what the blocks before i trade
use Rattle.setup.proofs.SetupBlockLaws.{TradedTo}
use Rattle.setup.proofs.blocks.traded_by_hour.Given as goal

abbrev pub invariant-loop-i : goal.invariant-loop-i
invariant-loop-i l = TradedTo l.blocks.sides l.blocks.hours l.blocks.quantities l.all l.i l.sum
