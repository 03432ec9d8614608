-- the rows of the blocks before i
use Rattle.result.proofs.RowLaws.{Valued}
use Rattle.result.proofs.block_values.Given as goal

abbrev pub invariant-loop-i : goal.invariant-loop-i
invariant-loop-i l = Valued l.quantities l.set l.values l.i
