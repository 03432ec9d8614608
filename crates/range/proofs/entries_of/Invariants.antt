-- each column has the numbers of the entries passed, and all of them are in range
use Rattle.std.proofs.Common.{◌≡◌, false}
use Rattle.fields.specs.Tests.{some_below}
use Rattle.range.specs.Range.{out_of_range}
use Rattle.range.specs.Corners.{side_number, least_quantity, greatest_quantity}
use Rattle.range.proofs.RangeLaws.{Filled}
use Rattle.range.proofs.entries_of.Given as goal

abbrev pub invariant-loop-i : goal.invariant-loop-i
invariant-loop-i l =
    (some_below l.i (out_of_range l.list) ≡ false) × Filled side_number l.list l.i l.sides × Filled (λ e. e.price) l.list l.i l.prices
    × Filled least_quantity l.list l.i l.least × Filled greatest_quantity l.list l.i l.greatest
