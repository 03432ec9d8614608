-- `pricing::hour::answer_of` meets its contract: one law for each way out. Assumes nothing.
use Rattle.std.proofs.Common.{arith}
use Rattle.pricing.proofs.AnswerLaws.{buys-fall-short, sells-fall-short, ends-answer}
use Rattle.pricing.proofs.hour.answer_of.Goals as goal

pub returns-then-lowest-from : goal.returns-then-lowest-from
returns-then-lowest-from c =
    buys-fall-short _ _ _ _ _ _ _ _ c.totals_at-lowest.ensures c.totals_at-highest.ensures (omega (arith, c.from.ensures, c.if-lowest-from.true))

pub returns-then-highest-from-lt-BIAS : goal.returns-then-highest-from-lt-BIAS
returns-then-highest-from-lt-BIAS c =
    sells-fall-short _ _ _ _ _ _ _ _ c.totals_at-lowest.ensures c.totals_at-highest.ensures
    (omega (arith, c.from-2.ensures, c.if-highest-from-lt-BIAS.true))

pub overflow_add-result : goal.overflow_add-result
overflow_add-result c = omega (arith, (c.least_covered-low.ensures 1).in_range, (c.least_covered-high.ensures 1).in_range)

pub returns : goal.returns
returns c =
    ends-answer _ _ _ _ _ _ _ _ c.totals_at-lowest.ensures c.totals_at-highest.ensures (omega (arith, c.from.ensures, c.if-lowest-from.false))
    (omega (arith, c.from-2.ensures, c.if-highest-from-lt-BIAS.false)) _ _ c.least_covered-low.ensures c.least_covered-high.ensures
