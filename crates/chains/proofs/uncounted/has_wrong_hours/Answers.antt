-- `chains::uncounted::has_wrong_hours` meets its contract: on a 23-hour day what the walks along the chains found. Assumes nothing.
use Rattle.std.proofs.Common.{arith}
use borrow.Author.Tests.{eq-eqb, ne_eqb}
use Rattle.rules.specs.Day.{spring_hours}
use Rattle.chains.specs.Causes.{uncounted_on, wrong_hours}
use Rattle.chains.proofs.Distinct.{on_some}
use Rattle.chains.proofs.uncounted.has_wrong_hours.Goals as goal

pub returns-then-day_hours-ne-SPRING_HOURS : goal.returns-then-day_hours-ne-SPRING_HOURS
unfolding wrong_hours
returns-then-day_hours-ne-SPRING_HOURS c = rw (← c.day_hours.ensures, ne_eqb _ _ c.if-day_hours-ne-SPRING_HOURS.true)

pub returns : goal.returns
unfolding wrong_hours
returns c =
    rw (
      ← c.day_hours.ensures,
      eq-eqb c.day_hours.result spring_hours (omega (arith, c.if-day_hours-ne-SPRING_HOURS.false)),
      c.is_uncounted_on.ensures,
      c.is_uncounted_on-2.ensures,
      c.is_uncounted_on-3.ensures,
    )
    (on_some (uncounted_on c.args.book.now))
