-- `places::cells::counted_gaps` meets its contract: each hour once, then hour 3 as often as it counts. Assumes nothing.
use Rattle.std.proofs.Common.{refl, arith, get_or}
use Rattle.rules.specs.Day.{change_hour}
use Rattle.places.specs.Layout.{change_row}
use Rattle.places.proofs.CellLaws.{place_inside}
use Rattle.places.proofs.CountedLaws.{own-part, gaps-counted}
use Rattle.places.proofs.cells.counted_gaps.Goals as goal

-- the gap of hour 3, which clears at its place, is within the table
pub bounds-gap-width : goal.bounds-gap-width
bounds-gap-width c =
    let a = c.args in
    let clears = (c.in_ok-sum.ensures.in_range change_hour (omega arith) (omega arith)).1 in
    omega (arith, place_inside a.gap.now change_row (get_or a.places change_row 0) c.requires.0 (omega arith) (omega (arith, clears, c.requires.3 change_row)))

pub counted_sum-requires : goal.counted_sum-requires
counted_sum-requires c = (own-part c.in_ok-sum.ensures refl, c.in_ok-sum.ensures.fits, c.requires.4)

pub returns : goal.returns
returns c = gaps-counted c.in_ok-sum.ensures refl _ _ c.counted_sum.ensures.0 c.counted_sum.ensures.1
