-- `by_side` meets its contract. Assumes nothing.
use Rattle.accounts.proofs.PostingLaws.{sold-told}
use Rattle.accounts.proofs.by_side.Goals as goal

pub returns-else-side-eq0 : goal.returns-else-side-eq0
returns-else-side-eq0 c = sold-told _ _ _ c.if-side-eq0.false
