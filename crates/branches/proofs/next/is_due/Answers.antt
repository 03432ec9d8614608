-- `branches::next::is_due` meets its contract: there is no twin, or its bit tells. Assumes nothing.
use Rattle.branches.proofs.DecisionLaws.{due-none, due-some}
use Rattle.branches.proofs.next.is_due.Goals as goal

pub returns-then-behind-eq0 : goal.returns-then-behind-eq0
returns-then-behind-eq0 c = due-none _ _ _ c.if-behind-eq0.true

pub returns : goal.returns
returns c = due-some _ _ _ c.if-behind-eq0.false
