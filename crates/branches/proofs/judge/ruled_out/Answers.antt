-- `branches::judge::ruled_out` meets its contract: the bits of the blocks up to number i, a parent's before its children's, and what they would gain. Assumes
-- nothing.
use Rattle.std.proofs.Common.{arith}
use Rattle.branches.proofs.DecisionLaws.{ruled-start, ruled-next}
use Rattle.branches.proofs.judge.ruled_out.Goals as goal

pub loop-i-init : goal.loop-i-init
loop-i-init c = ruled-start _ _ _ _ _ _ _ c.requires.2

pub loop-i-preserved : goal.loop-i-preserved
loop-i-preserved c =
    rw c.from-gains.ensures (ruled-next _ _ _ _ _ _ _ c.requires.0.parents_fit c.requires.1 _ _ _ _ _ _ _ _ c.loop-i.invariant c.loop-i-test.true
    c.is_out.ensures c.is_gone-gone.ensures c.is_ruled_out-test.ensures (rw c.bit.ensures at c.choose-r.ensures)
    c.choose.ensures (omega arith))
