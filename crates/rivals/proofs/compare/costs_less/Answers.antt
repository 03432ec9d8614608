-- `rivals::compare::costs_less` meets its contract: by loss, and at the same loss by ties. Assumes nothing.
use Rattle.rivals.proofs.TestLaws.{less-by-loss, less-by-tie}
use Rattle.rivals.proofs.compare.costs_less.Goals as goal

pub returns-then-other-node : goal.returns-then-other-node
returns-then-other-node c = λ _. less-by-loss _ _ _ _ c.requires c.if-other-node.true

pub returns : goal.returns
returns c = λ e. less-by-tie _ _ _ _ e
