-- `fields::hours::counted_hours` meets its contract: hour 3 as often as it counts. Assumes nothing.
use Rattle.std.proofs.Common.{rules, arith}
use Rattle.fields.proofs.HourLaws.{hours-counted, change-within, counted-room}
use Rattle.fields.proofs.hours.counted_hours.Goals as goal

pub overflow_sub-result : goal.overflow_sub-result
overflow_sub-result c = rw (c.change_hour_of-once.ensures.0, c.hour_count.ensures) (change-within _)

pub overflow_mul-result : goal.overflow_mul-result
overflow_mul-result c = record { fits = rw c.change_weight.ensures (counted-room c.args.day 0 _ (search rules) c.change_hour_of-once.ensures.1).0 }

pub overflow_add-result : goal.overflow_add-result
overflow_add-result c = record { fits = rw (c.change_weight.ensures, c.hour_count.ensures) (counted-room c.args.day _ _ (search rules) c.change_hour_of-once.ensures.1).1 }

pub returns : goal.returns
returns c =
    rw (c.change_weight.ensures, c.hour_count.ensures, c.change_hour_of-once.ensures.0)
    (omega (arith, hours-counted c.args.day c.args.hours, change-within c.args.hours))
