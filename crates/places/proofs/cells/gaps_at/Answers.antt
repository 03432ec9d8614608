-- `places::cells::gaps_at` meets its contract: the first h hours clear, and their gaps are added up. Assumes nothing.
use Rattle.std.proofs.Common.{◌+◌, ◌*◌, get_or}
use Rattle.places.specs.Hours.{row_width}
use Rattle.places.proofs.CellLaws.{gaps-start, gaps-next, gaps-out, gaps-all}
use Rattle.places.proofs.cells.gaps_at.Goals as goal

pub loop-h-init : goal.loop-h-init
loop-h-init c = gaps-start _ _ _ _

pub returns-then-place-first : goal.returns-then-place-first
returns-then-place-first c = gaps-out c.args.gap.now _ _ _ _ c.loop-h-test.true c.if-place-first.true

pub loop-h-preserved : goal.loop-h-preserved
loop-h-preserved c =
    let a = c.args in
    let at = c.loop-h.h * row_width a.gap.now + get_or a.places c.loop-h.h 0 in
    rw c.from-sum.ensures (gaps-next _ _ _ _ _ _ c.loop-h.invariant c.loop-h-test.true c.if-place-first.false (c.type_inv.gap at).fits)

pub returns : goal.returns
returns c = gaps-all _ _ _ _ _ _ c.loop-h.invariant c.loop-h-test.false
