use Rattle.branches.proofs.DecisionLaws.{RuledTo}
use Rattle.branches.proofs.judge.ruled_out.Given as goal

abbrev pub invariant-loop-i : goal.invariant-loop-i
invariant-loop-i l = RuledTo l.blocks l.count l.at l.set l.out l.high l.low l.i l.r l.gains
