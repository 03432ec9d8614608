-- `branches::judge::is_gone` meets its contract: no block is named, it is decided, or its bit tells. Assumes nothing.
use Rattle.std.proofs.Common.{◌∙◌}
use Rattle.branches.proofs.DecisionLaws.{gone-none, gone-decided, gone-open}
use Rattle.branches.proofs.judge.is_gone.Goals as goal

pub returns-then-name-eq0 : goal.returns-then-name-eq0
returns-then-name-eq0 c = gone-none _ _ _ _ c.if-name-eq0.true

pub returns-then-i-at : goal.returns-then-i-at
returns-then-i-at c = gone-decided _ _ _ _ c.if-name-eq0.false c.if-i-at.true

pub returns : goal.returns
returns c = c.is_out.ensures ∙ gone-open _ _ _ _ c.if-name-eq0.false c.if-i-at.false
