-- `pricing::hour::Totals::add` meets its contract: each side's quantity is added once or not at all. Assumes nothing.
use Rattle.std.proofs.Common.{refl}
use Rattle.pricing.proofs.TotalsLaws.{order-added}
use Rattle.pricing.proofs.hour.Totals.add.Goals as goal

pub returns : goal.returns
returns c =
    let a = c.args in
    let t = order-added a.self.over a.self.to a.price c.from-wide.result a.self.above a.self.upto a.side _ _ c.from.ensures c.from-2.ensures in
    rw (← c.from-wide.ensures) (refl, refl, t.0, t.1)
