-- `book::causes::has_too_many_steps` meets its contract: an older edition and a short chain have none too many; else what the walk along the steps found.
-- Assumes nothing.
use mathlib.Core.Path.{sym}
use mathlib.Core.Bool.{and-false}
use native.Mathlib.Omega.{arith}
use borrow.Author.Tests.{le-leb}
use Rattle.book.specs.Refusals.{too_many_steps}
use Rattle.chains.proofs.StepCounts.{few-steps}
use Rattle.book.proofs.StepLimits.{no-limit-before}
use Rattle.book.proofs.causes.has_too_many_steps.Goals as goal

pub returns-then-edition_of-lt-FIRST_STEP_LIMIT_EDITION : goal.returns-then-edition_of-lt-FIRST_STEP_LIMIT_EDITION
returns-then-edition_of-lt-FIRST_STEP_LIMIT_EDITION c =
    sym (no-limit-before _ (omega (arith, c.edition_of.ensures, c.if-edition_of-lt-FIRST_STEP_LIMIT_EDITION.true)))

pub returns-then-steps-le-MOST_STEPS_IN_HOUR : goal.returns-then-steps-le-MOST_STEPS_IN_HOUR
unfolding too_many_steps
returns-then-steps-le-MOST_STEPS_IN_HOUR c = rw (few-steps _ _ _ c.requires c.if-steps-le-MOST_STEPS_IN_HOUR.true, and-false)

pub returns : goal.returns
unfolding too_many_steps
returns c = rw (← c.edition_of.ensures, le-leb _ _ c.if-edition_of-lt-FIRST_STEP_LIMIT_EDITION.false) c.has_more_steps.ensures
