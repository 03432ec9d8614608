-- `places::trades::hours_traded` meets its contract: what is traded in the hours before h. Assumes nothing.
use Rattle.std.proofs.Common.{arith}
use Rattle.places.proofs.StepLaws.{hour-part, small-part}
use Rattle.places.proofs.TradeLaws.{traded-next, hour-of-columns}
use Rattle.places.proofs.trades.hours_traded.Goals as goal

pub hour-requires : goal.hour-requires
hour-requires c =
    let part = hour-part _ _ _ _ c.loop-h.h c.requires.1 c.loop-h-test.true in
    record {
      inside = record { an_hour = c.loop-h-test.true; ordered = part.ordered; fits = part.fit };
      has_end = omega (arith, c.requires.0, c.loop-h-test.true);
      in_sides = part.in_sides;
      in_prices = part.in_prices;
      in_quantities = part.in_quantities;
    }

pub traded_at-requires : goal.traded_at-requires
traded_at-requires c =
    let part = hour-part _ _ _ _ c.loop-h.h c.requires.1 c.loop-h-test.true in
    (rw c.hour.ensures.quantities (small-part _ _ _ _ part.ordered part.quantities_fit), omega (arith, c.requires.2 c.loop-h.h))

pub loop-h-preserved : goal.loop-h-preserved
loop-h-preserved c =
    let e = c.hour.ensures in
    traded-next _ _ _ _ _ _ _ c.loop-h.invariant c.loop-h-test.true
    (hour-of-columns _ _ _ _ _ _ _ _ _ (c.requires.1.rise c.loop-h.h c.loop-h-test.true)
    (rw (e.sides, e.prices, e.quantities) at c.traded_at.ensures))
