-- the largest of the hours before this one
use Rattle.setup.proofs.SetupBlockLaws.{LargestTo}
use Rattle.setup.proofs.blocks.largest.Given as goal

abbrev pub invariant-loop-number : goal.invariant-loop-number
invariant-loop-number l = LargestTo l.number-items l.number-index l.most
