-- `pricing::execution::traded_at` meets its contract: what is bought over one cent below the price is what is bought at or above it. Assumes nothing.
use Rattle.std.proofs.Common.{◌∙◌}
use Rattle.pricing.proofs.TradedLaws.{traded-at-is}
use Rattle.pricing.proofs.execution.traded_at.Goals as goal

pub returns : goal.returns
returns c =
    traded-at-is _ _ _ _ _ _ _ _ _ _ c.saturating_sub.ensures c.totals_between-totals.ensures (c.min.ensures ∙ rw (c.from.ensures, c.from-2.ensures))
