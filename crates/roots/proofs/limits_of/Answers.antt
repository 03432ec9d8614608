-- `roots::limits_of` meets its contract: a price in each of at most 24 hours, counted at most twice. Assumes nothing.
use Rattle.std.proofs.Common.{◌<◌, arith, length, length-set, refl, get_or}
use Rattle.book.specs.Bounds.{most_blocks}
use Rattle.places.specs.Layout.{most_limit}
use Rattle.orders.proofs.ColumnLaws.{zeros}
use Rattle.roots.proofs.SizeLaws.{limit-fits, set-small}
use Rattle.roots.proofs.limits_of.Goals as goal

pub loop-i-init : goal.loop-i-init
loop-i-init c = (refl, λ i. omega (arith, zeros most_blocks i))

pub overflow_mul-limits : goal.overflow_mul-limits
overflow_mul-limits c =
    let fits = limit-fits (get_or c.args.blocks.now.prices c.loop-i.i 0) c.args.day (get_or c.args.blocks.now.hours c.loop-i.i 0) c.requires.day
    (c.requires.blocks.1 c.loop-i.i c.loop-i-test.true) in
    rw c.counted_hours.ensures (record { fits = omega (arith, fits) })

pub loop-i-preserved : goal.loop-i-preserved
loop-i-preserved c =
    let v = c.loop-i in
    let inside : v.i < length v.limits = omega (arith, v.invariant.0, c.loop-i-test.true, c.requires.blocks.0) in
    let fits = limit-fits (get_or c.args.blocks.now.prices v.i 0) c.args.day (get_or c.args.blocks.now.hours v.i 0) c.requires.day
    (c.requires.blocks.1 v.i c.loop-i-test.true) in
    (rw length-set v.invariant.0, set-small most_limit v.limits v.i _ inside (rw c.counted_hours.ensures fits) v.invariant.1)
