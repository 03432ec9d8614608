-- `places::added::moved` meets its contract: the first h places are moved. Assumes nothing.
use Rattle.places.proofs.HourColumnLaws.{moved-next}
use Rattle.places.proofs.added.moved.Goals as goal

pub loop-h-preserved : goal.loop-h-preserved
loop-h-preserved c = moved-next _ _ _ _ _ _ c.loop-h.invariant c.loop-h-test.true
