-- `places::cells::least_gaps` meets its contract: the least gaps of the hours before this one. Assumes nothing.
use Rattle.std.proofs.Common.{◌+◌, ◌*◌}
use Rattle.places.specs.Hours.{row_width}
use Rattle.places.proofs.CellLaws.{least_start, least-next}
use Rattle.places.proofs.cells.least_gaps.Goals as goal

pub loop-h-init : goal.loop-h-init
loop-h-init c = least_start _ _ _ _

pub loop-h-preserved : goal.loop-h-preserved
loop-h-preserved c =
    rw c.from-sum.ensures
    (least-next _ _ _ _ _ _ _ c.loop-h.invariant c.loop-h-test.true (rw c.max.ensures at c.min-place.ensures)
    (c.type_inv.gap (c.loop-h.h * row_width c.args.gap.now + c.min-place.result)).fits)
