-- `fields::hours::is_counted` meets its contract: every hour but hour 3 counts. Assumes nothing.
use Rattle.std.proofs.Common.{sym}
use Rattle.rules.specs.Day.{is_counted}
use Rattle.fields.proofs.HourLaws.{other-counted}
use Rattle.fields.proofs.hours.is_counted.Goals as goal

pub returns-then-hour-eq-CHANGE_HOUR : goal.returns-then-hour-eq-CHANGE_HOUR
unfolding is_counted
returns-then-hour-eq-CHANGE_HOUR c = rw (c.change_weight.ensures, c.if-hour-eq-CHANGE_HOUR.true)

pub returns-else-hour-eq-CHANGE_HOUR : goal.returns-else-hour-eq-CHANGE_HOUR
returns-else-hour-eq-CHANGE_HOUR c = sym (other-counted _ _ c.if-hour-eq-CHANGE_HOUR.false)
