-- the first i places have one more where they should
use Rattle.shares.proofs.PassLaws.{Giving}
use Rattle.shares.proofs.leftover.give.Given as goal

abbrev pub invariant-loop-i : goal.invariant-loop-i
invariant-loop-i l = Giving l.cut l.most l.rests l.initial.out l.out l.room l.i
