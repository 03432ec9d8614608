use Rattle.branches.proofs.DecisionLaws.{GainsTo}
use Rattle.branches.proofs.judge.out_gains.Given as goal

abbrev pub invariant-loop-i : goal.invariant-loop-i
invariant-loop-i l = GainsTo l.blocks l.count l.at l.out l.i l.gains
