-- `places::cells::counted_least_gaps` meets its contract: each hour once, then hour 3 as often as it counts. Assumes nothing.
use Rattle.std.proofs.Common.{◌≡◌, ◌+◌, ◌*◌, get_or}
use Rattle.rules.specs.Day.{change_hour}
use Rattle.places.specs.Layout.{change_row}
use Rattle.places.specs.Hours.{row_width, least_gap}
use Rattle.places.proofs.CountedLaws.{counted_is, own-within}
use Rattle.places.proofs.cells.counted_least_gaps.Goals.{After-min-place}
use Rattle.places.proofs.cells.counted_least_gaps.Goals as goal

-- the gap of hour 3 is the one that counts
own_is : (c : After-min-place) → let a = c.args in
    get_or a.gap.now (change_row * row_width a.gap.now + c.min-place.result) 0 ≡ least_gap a.gap.now a.turn.now a.from a.to change_hour
own_is c = rw (c.min-place.ensures, c.max.ensures)

pub counted_sum-requires : goal.counted_sum-requires
counted_sum-requires c =
    let once = c.least_gaps-once.ensures in
    (rw (own_is (goal.at.counted_sum-requires c).After-min-place, once.0) (own-within _), once.1, c.requires.3)

pub returns : goal.returns
returns c =
    (counted_is _ _ _ _ _ c.least_gaps-once.ensures.0 (own_is (goal.at.returns c).After-min-place) c.counted_sum.ensures.0, c.counted_sum.ensures.1)
