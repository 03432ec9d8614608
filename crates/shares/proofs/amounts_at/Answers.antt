-- `shares::amounts_at` meets its contract: the totals at the price and one cent below say what stands at it. Assumes nothing.
use Rattle.shares.proofs.AmountLaws.{amounts-are}
use Rattle.shares.proofs.amounts_at.Goals as goal

pub returns : goal.returns
returns c =
    amounts-are _ _ _ _ _ _ _ _ _ c.requires c.totals_at-at.ensures c.totals_at-before.ensures _ _ _ _ _ _
    c.saturating_sub-demand.ensures c.saturating_sub-offer.ensures (rw c.from.ensures at c.saturating_sub.ensures) c.min-buys.ensures
    (rw c.from-2.ensures at c.saturating_sub-2.ensures) c.min-sells.ensures
