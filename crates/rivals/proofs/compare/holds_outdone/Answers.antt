-- `rivals::compare::holds_outdone` meets its contract: the first blocks are in the set or outdone. Assumes nothing.
use Rattle.std.proofs.Common.{arith}
use Rattle.rivals.proofs.TestLaws.{below_none, below_more}
use Rattle.rivals.proofs.compare.holds_outdone.Goals as goal

pub loop-j-init : goal.loop-j-init
loop-j-init c = below_none _

pub loop-j-preserved : goal.loop-j-preserved
loop-j-preserved c = below_more _ _ c.loop-j.invariant (c.is_matched.ensures c.if-not-is_matched.false)

pub returns : goal.returns
returns c = λ _ j k. c.loop-j.invariant j (omega (arith, c.loop-j-test.false))
