-- `chains::steps::has_more_steps` meets its contract: each portfolio has in each hour the steps counted and those that are left to follow, and a counter at its
-- limit has one step too many with the next. Assumes nothing.
use Rattle.std.proofs.Common.{arith, ◌∙◌, ap, sym}
use Rattle.chains.specs.Chains.{step_order}
use Rattle.chains.specs.Passes.{to_follow}
use Rattle.chains.proofs.StepCounts.{counting-starts, counting-passes, counting_more, counting-over, counting-ends}
use Rattle.chains.proofs.steps.has_more_steps.Goals as goal

pub loop-i-init : goal.loop-i-init
unfolding step_order
loop-i-init c =
    counting-starts _ _ (ap to_follow c.into_iter-i-iterator.ensures.into_iter_gives ∙ c.chained-i-items.ensures ∙ rw c.first_step.ensures)

pub returns-then-counts-at-ge-MOST_STEPS_IN_HOUR : goal.returns-then-counts-at-ge-MOST_STEPS_IN_HOUR
returns-then-counts-at-ge-MOST_STEPS_IN_HOUR c =
    sym (counting-over _ _ _ _ _ _ _ c.loop-i.invariant c.in-Some.ensures.steps (c.from-hour.ensures ∙ c.hour_byte.ensures) (c.from.ensures ∙ c.portfolio_of.ensures)
    c.if-hour-lt-HOUR_NUMBERS.true (omega (arith, c.from.ensures)) c.if-counts-at-ge-MOST_STEPS_IN_HOUR.true)

pub loop-i-preserved-then-hour-lt-HOUR_NUMBERS : goal.loop-i-preserved-then-hour-lt-HOUR_NUMBERS
loop-i-preserved-then-hour-lt-HOUR_NUMBERS c =
    counting_more _ _ _ _ _ _ _ c.loop-i.invariant c.in-Some.ensures.steps (c.from-hour.ensures ∙ c.hour_byte.ensures) (c.from.ensures ∙ c.portfolio_of.ensures)
    c.if-hour-lt-HOUR_NUMBERS.true (omega (arith, c.from.ensures)) c.if-counts-at-ge-MOST_STEPS_IN_HOUR.false

pub loop-i-preserved : goal.loop-i-preserved
loop-i-preserved c =
    counting-passes _ _ _ _ _ _ c.loop-i.invariant c.in-Some.ensures.steps (c.from-hour.ensures ∙ c.hour_byte.ensures) c.if-hour-lt-HOUR_NUMBERS.false

pub returns : goal.returns
returns c = sym (counting-ends _ _ _ c.loop-i.invariant c.in-None.ensures.steps.0)
