-- `branches::next::is_barred` meets its contract: the parent or the twin is left out. Assumes nothing.
use Rattle.branches.proofs.DecisionLaws.{barred-is}
use Rattle.branches.proofs.next.is_barred.Goals as goal

pub returns : goal.returns
returns c = barred-is _ _ _ _ _ c.is_left.ensures c.is_left-2.ensures
