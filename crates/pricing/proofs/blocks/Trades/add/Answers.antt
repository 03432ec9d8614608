-- `pricing::blocks::Trades::add` meets its contract: one law for each way the block goes. Assumes nothing.
use Rattle.pricing.proofs.TradeLaws.{bought-more, sold-more, not-traded}
use Rattle.pricing.proofs.blocks.Trades.add.Goals as goal

pub returns-then-side-eq0 : goal.returns-then-side-eq0
returns-then-side-eq0 c = rw c.from.ensures (bought-more _ _ _ _ _ c.if-chosen-runs.true c.if-side-eq0.true)

pub returns-else-side-eq0 : goal.returns-else-side-eq0
returns-else-side-eq0 c = rw c.from-else-side-eq0.ensures (sold-more _ _ _ _ _ c.if-chosen-runs.true c.if-side-eq0.false)

pub returns-else-chosen-runs : goal.returns-else-chosen-runs
returns-else-chosen-runs c = not-traded _ c.args.quantity _ _ c.args.side c.if-chosen-runs.false
