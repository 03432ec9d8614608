-- `fields::hours::running_hours` meets its contract: without hour 3 where it does not count. Assumes nothing.
use Rattle.std.proofs.Common.{sym, ◌∙◌}
use Rattle.fields.proofs.HourLaws.{change-taken}
use Rattle.fields.specs.Hours.{running_hours}
use Rattle.fields.proofs.hours.running_hours.Goals as goal

pub overflow_sub-result : goal.overflow_sub-result
overflow_sub-result c = (change-taken _ _ c.change_hour_of.ensures.0).0

pub returns-then-is_counted : goal.returns-then-is_counted
unfolding running_hours
returns-then-is_counted c = rw (sym c.is_counted.ensures ∙ c.if-is_counted.true)

pub returns-else-is_counted : goal.returns-else-is_counted
unfolding running_hours
returns-else-is_counted c = rw (sym c.is_counted.ensures ∙ c.if-is_counted.false, (change-taken c.args.hours _ c.change_hour_of.ensures.0).1)
