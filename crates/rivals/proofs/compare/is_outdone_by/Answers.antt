-- `rivals::compare::is_outdone_by` meets its contract: side, hours and limit of the two blocks. Assumes nothing.
use borrow.Author.Tests.{leb-true}
use Rattle.rivals.proofs.TestLaws.{outdone-buy, outdone-sell}
use Rattle.rivals.proofs.compare.is_outdone_by.Goals as goal

pub returns-then-blocks-j-eq0 : goal.returns-then-blocks-j-eq0
returns-then-blocks-j-eq0 c = λ e. outdone-buy _ _ _ c.if-blocks-j.false c.if-blocks-j-2.false c.if-blocks-j-eq0.true (leb-true _ _ e)

pub returns : goal.returns
returns c = λ e. outdone-sell _ _ _ c.if-blocks-j.false c.if-blocks-j-2.false c.if-blocks-j-eq0.false (leb-true _ _ e)
