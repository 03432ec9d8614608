-- the blocks before i are written
use Rattle.setup.proofs.SetupBlockLaws.{WrittenTo}
use Rattle.setup.proofs.blocks.block_columns.Given as goal

abbrev pub invariant-loop-i : goal.invariant-loop-i
invariant-loop-i l = WrittenTo l.day l.blocks.sides l.blocks.hours l.blocks.prices l.blocks.quantities l.root l.blocks.count l.i l.columns
