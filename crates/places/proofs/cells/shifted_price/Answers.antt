-- `places::cells::shifted_price` meets its contract: it is the definition, and what is added fits. Assumes nothing.
use Rattle.std.proofs.Common.{arith}
use Rattle.rules.specs.Orders.{max_price}
use Rattle.rules.specs.Shift.{last_shift, shifted}
use Rattle.rules.proofs.BoundsLaws.{product_le}
use Rattle.places.proofs.cells.shifted_price.Goals as goal

pub overflow_mul-result : goal.overflow_mul-result
overflow_mul-result c =
    let p = c.requires in
    omega (arith, product_le c.saturating_sub.result c.args.t max_price last_shift (omega (arith, c.saturating_sub.ensures)) p.0)

pub overflow_add-result : goal.overflow_add-result
overflow_add-result c =
    let p = c.requires in
    omega (arith, p.1, product_le c.saturating_sub.result c.args.t max_price last_shift (omega (arith, c.saturating_sub.ensures)) p.0)

pub returns : goal.returns
unfolding shifted
returns c = rw c.saturating_sub.ensures
