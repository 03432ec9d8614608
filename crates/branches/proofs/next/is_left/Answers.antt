-- `branches::next::is_left` meets its contract: no block is named, or its bit tells. Assumes nothing.
use Rattle.branches.proofs.DecisionLaws.{left-none, left-some}
use Rattle.branches.proofs.next.is_left.Goals as goal

pub returns-then-name-eq0 : goal.returns-then-name-eq0
returns-then-name-eq0 c = left-none _ _ c.if-name-eq0.true

pub returns : goal.returns
returns c = left-some _ _ c.if-name-eq0.false
