-- `setup::parent_marks` meets its contract: the numbers named before j are marked. Assumes nothing.
use Rattle.setup.proofs.SetupTwinLaws.{marked_start, marked_next, marked_all}
use Rattle.setup.proofs.twins.parent_marks.Goals as goal

pub loop-j-init : goal.loop-j-init
loop-j-init c = marked_start _

pub loop-j-preserved : goal.loop-j-preserved
loop-j-preserved c = marked_next _ _ _ c.loop-j.invariant c.requires.1 c.loop-j-test.true

pub returns : goal.returns
returns c = marked_all _ _ _ c.loop-j.invariant c.loop-j-test.false
