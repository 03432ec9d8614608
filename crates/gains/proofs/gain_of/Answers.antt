-- `gain_of` meets its contract. Assumes nothing.
use Rattle.std.proofs.Common.{arith}
use Rattle.gains.proofs.GainLaws.{limit-small, gain-fits}
use Rattle.gains.proofs.gain_of.Goals as goal

pub overflow_mul-limit : goal.overflow_mul-limit
overflow_mul-limit c =
    let a = c.args in
    record { fits = rw c.counted_hours.ensures (omega (arith, limit-small a.day a.hours a.price c.requires.1 c.requires.2)) }

pub overflow_mul-result : goal.overflow_mul-result
overflow_mul-result c = record { fits = gain-fits c.from.result c.from-2.result (omega (arith, c.from.ensures)) (omega (arith, c.from-2.ensures)) }

pub returns : goal.returns
returns c = rw (c.from.ensures, c.from-2.ensures, c.abs_diff.ensures, c.price_sum.ensures.0, c.counted_hours.ensures)
