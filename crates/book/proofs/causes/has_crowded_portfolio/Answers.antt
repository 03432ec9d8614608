-- `book::causes::has_crowded_portfolio` meets its contract: the portfolios before this one are not crowded. Assumes nothing.
use mathlib.Core.Path.{◌≡◌, sym}
use mathlib.Core.Bool.{true, false}
use native.Mathlib.Omega.{arith}
use borrow.Author.Count.{below_more}
use borrow.Author.Tests.{lt-ltb, le-ltb}
use Rattle.chains.proofs.StepCounts.{one_passes, all-fail}
use Rattle.book.specs.Refusals.{too_many_of}
use Rattle.book.proofs.causes.has_crowded_portfolio.Goals as goal

pub returns-then-most-count : goal.returns-then-most-count
unfolding too_many_of
returns-then-most-count c =
    sym (one_passes _ _ c.loop-count.count-index c.loop-count-test.true
    (rw (
      ← (c.counts_by_portfolio-counts.ensures c.loop-count.count-index c.loop-count-test.true),
      ← c.edition_of.ensures,
      ← c.most_blocks_of_portfolio-most.ensures,
    ) (lt-ltb _ _ c.if-most-count.true)))

pub loop-count-preserved : goal.loop-count-preserved
unfolding too_many_of
loop-count-preserved c =
    below_more _ _ c.loop-count.invariant
    (rw (
      ← (c.counts_by_portfolio-counts.ensures c.loop-count.count-index c.loop-count-test.true),
      ← c.edition_of.ensures,
      ← c.most_blocks_of_portfolio-most.ensures,
    ) (le-ltb _ _ c.if-most-count.false))

pub returns : goal.returns
returns c = sym (all-fail _ _ (λ p h. c.loop-count.invariant p (omega (arith, c.loop-count-test.false))))
