-- `search::decide::limit_at` meets its contract: the two answers of its test. Assumes nothing.
use Rattle.search.proofs.LimitLaws.{limit-raised, limit-plain}
use Rattle.search.proofs.decide.limit_at.Goals as goal

pub returns-then-here-tie : goal.returns-then-here-tie
returns-then-here-tie c = limit-raised _ _ _ c.if-here-tie.true

pub returns : goal.returns
returns c = limit-plain _ _ _ c.if-here-tie.false
