-- `setup::with_block` meets its contract: the losses fit. Assumes nothing.
use Rattle.std.proofs.Common.{arith}
use Rattle.places.specs.Layout.{most_limit}
use Rattle.orders.specs.Columns.{side_for}
use Rattle.setup.specs.Setup.{written}
use Rattle.roots.proofs.SizeLaws.{side-le, product-fits}
use Rattle.setup.proofs.blocks.with_block.Goals as goal

pub overflow_mul-r : goal.overflow_mul-r
overflow_mul-r c =
    let over = c.saturating_sub-over in
    let under = c.saturating_sub-under in
    let fits = side-le (side_for c.args.side) over.result under.result most_limit (omega (arith, over.ensures, c.requires.3)) (omega (arith, under.ensures, c.requires.2)) in
    record { fits = omega (arith, product-fits c.args.quantity c.by_side.result c.requires.1 (omega (arith, c.by_side.ensures, fits))) }

pub overflow_mul-r-2 : goal.overflow_mul-r-2
overflow_mul-r-2 c =
    let over = c.saturating_sub-over in
    let under = c.saturating_sub-under in
    let fits = side-le (side_for c.args.side) under.result over.result most_limit (omega (arith, under.ensures, c.requires.2)) (omega (arith, over.ensures, c.requires.3)) in
    record { fits = omega (arith, product-fits c.args.quantity c.by_side-2.result c.requires.1 (omega (arith, c.by_side-2.ensures, fits))) }

pub returns : goal.returns
unfolding written
returns c = rw (c.from.ensures, c.by_side.ensures, c.by_side-2.ensures, c.saturating_sub-over.ensures, c.saturating_sub-under.ensures)
