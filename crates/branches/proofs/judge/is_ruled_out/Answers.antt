-- `branches::judge::is_ruled_out` meets its contract: it is the definition. Assumes nothing.
use Rattle.branches.proofs.DecisionLaws.{ruled-before, ruled-now}
use Rattle.branches.proofs.judge.is_ruled_out.Goals as goal

pub returns-then-was-gone : goal.returns-then-was-gone
returns-then-was-gone c = ruled-before _ _ _ _ _ _ c.if-was-gone.true

pub returns : goal.returns
returns c = ruled-now _ _ _ _ _ _ c.if-was-gone.false _ c.keeps_limit.ensures
