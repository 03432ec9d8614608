-- `clearing::publish::block_worth` meets its contract: a block's worth is at most its quantity times the most that it asks for. Assumes nothing.
use Rattle.std.proofs.Common.{arith}
use Rattle.clearing.proofs.WorthLaws.{worth-fits}
use Rattle.clearing.proofs.publish.block_worth.Goals as goal

pub overflow_mul-limit : goal.overflow_mul-limit
overflow_mul-limit c =
    let a = c.args in
    omega (arith, (worth-fits a.day a.price a.quantity a.hours c.requires.0 c.requires.1 c.requires.2 _ c.counted_hours.ensures).0)

pub overflow_mul-quantity : goal.overflow_mul-quantity
overflow_mul-quantity c =
    let a = c.args in
    omega (arith, (worth-fits a.day a.price a.quantity a.hours c.requires.0 c.requires.1 c.requires.2 _ c.counted_hours.ensures).1)

pub returns-then-chosen : goal.returns-then-chosen
returns-then-chosen c =
    let a = c.args in
    let fits = (worth-fits a.day a.price a.quantity a.hours c.requires.0 c.requires.1 c.requires.2 _ c.counted_hours.ensures).1 in
    (rw (c.if-chosen.true, ← c.counted_hours.ensures) c.from.ensures, omega (arith, c.from.ensures, fits))
