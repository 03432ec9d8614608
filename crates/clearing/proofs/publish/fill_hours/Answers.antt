-- `clearing::publish::fill_hours` meets its contract: the hours before h are done. Assumes nothing.
use Rattle.std.proofs.Common.{◌≡◌, ◌+◌, ◌-◌, arith}
use Rattle.places.proofs.StepLaws.{hour-inside}
use Rattle.rules.proofs.BoundsLaws.{product_le}
use Rattle.clearing.specs.Publish.{most_worth}
use Rattle.clearing.proofs.HoursLaws.{trades-are, trades-most, hours-none, hours-more}
use Rattle.clearing.proofs.publish.fill_hours.Goals as goal

pub loop-h-init : goal.loop-h-init
loop-h-init c = hours-none _ c.requires.0 _ _ _ _ _ _ _ _ c.requires.1.start

pub put_hour-sums-requires : goal.put_hour-sums-requires
put_hour-sums-requires c =
    let h = c.loop-h-test.true in
    let t = trades-most _ _ _ _ _ _ _ c.args.blocks.now.sized c.trades_of-trades.ensures in
    let inside = hour-inside _ _ _ _ c.loop-h.h c.requires.1 h in
    (h, c.requires.1, omega (arith, c.requires.3, inside, c.loop-h.auto.values), c.requires.2 c.loop-h.h h, t.0, t.1, omega (arith, c.requires.4, inside, c.loop-h.auto.rests))

pub overflow_mul-value : goal.overflow_mul-value
overflow_mul-value c = omega (arith, product_le _ _ 2 most_worth c.times_of-times.ensures.1 c.put_hour-sums.ensures.done.value_fits)

pub overflow_add-value : goal.overflow_add-value
overflow_add-value c = omega (arith, product_le _ _ 2 most_worth c.times_of-times.ensures.1 c.put_hour-sums.ensures.done.value_fits, c.loop-h.invariant.value_fits, c.loop-h.auto.h-end)

pub overflow_mul-cost : goal.overflow_mul-cost
overflow_mul-cost c = omega (arith, product_le _ _ 2 most_worth c.times_of-times.ensures.1 c.put_hour-sums.ensures.done.cost_fits)

pub overflow_add-cost : goal.overflow_add-cost
overflow_add-cost c = omega (arith, product_le _ _ 2 most_worth c.times_of-times.ensures.1 c.put_hour-sums.ensures.done.cost_fits, c.loop-h.invariant.cost_fits, c.loop-h.auto.h-end)

pub loop-h-preserved : goal.loop-h-preserved
loop-h-preserved c =
    let h = c.loop-h-test.true in
    let t = trades-are _ _ _ _ _ _ _ c.trades_of-trades.ensures in
    let one : c.loop-h.h + 1 - 1 ≡ c.loop-h.h = omega arith in
    hours-more _ c.requires.0 _ _ _ _ _ _ _ c.loop-h.h _ _ _ _ _ _ _ _ _ _ h c.times_of-times.ensures.0 c.times_of-times.ensures.1 t.0 t.1 (rw one)
    (c.requires.1.rise c.loop-h.h h) c.loop-h.invariant c.put_hour-sums.ensures
