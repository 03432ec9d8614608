-- `clearing::publish::where_counted` meets its contract: hour 3 is taken out where it does not count. Assumes nothing.
use Rattle.std.proofs.Common.{rules}
use Rattle.clearing.proofs.HoursLaws.{change-out, change-left}
use Rattle.clearing.proofs.publish.where_counted.Goals as goal

pub returns-then-often-eq0 : goal.returns-then-often-eq0
returns-then-often-eq0 c = change-out _ _ (search rules) c.if-often-eq0.true

pub returns-else-often-eq0 : goal.returns-else-often-eq0
returns-else-often-eq0 c = change-left _ _ (search rules) c.if-often-eq0.false
