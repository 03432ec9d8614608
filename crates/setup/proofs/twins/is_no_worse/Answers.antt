-- `setup::is_no_worse` meets its contract: a side that is not 0 sells. Assumes nothing.
use Rattle.setup.specs.Setup.{no_worse}
use Rattle.pricing.proofs.TotalsLaws.{side-sell}
use Rattle.setup.proofs.twins.is_no_worse.Goals as goal

pub returns-then-side-eq0 : goal.returns-then-side-eq0
unfolding no_worse
returns-then-side-eq0 c = rw c.if-side-eq0.true

pub returns-else-side-eq0 : goal.returns-else-side-eq0
unfolding no_worse
returns-else-side-eq0 c = rw (side-sell _ c.if-side-eq0.false)
