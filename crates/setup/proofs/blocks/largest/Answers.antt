-- `setup::largest` meets its contract: the largest of the hours so far. Assumes nothing.
use Rattle.std.proofs.Common.{rules}
use Rattle.setup.proofs.SetupBlockLaws.{largest-start, largest-next, largest-all}
use Rattle.setup.proofs.blocks.largest.Goals as goal

pub loop-number-init : goal.loop-number-init
loop-number-init c = largest-start _

pub loop-number-preserved : goal.loop-number-preserved
loop-number-preserved c = largest-next _ _ _ _ c.loop-number.invariant c.loop-number-test.true c.max-most.ensures

pub returns : goal.returns
returns c = largest-all _ _ _ (search rules) c.loop-number.invariant c.loop-number-test.false
