-- the numbers before k of the rows stand
use Rattle.setup.proofs.SetupTwinLaws.{RowsDone}
use Rattle.setup.proofs.blocks.with_rows.Given as goal

abbrev pub invariant-loop-k : goal.invariant-loop-k
invariant-loop-k l = RowsDone l.blocks l.count l.k l.r
