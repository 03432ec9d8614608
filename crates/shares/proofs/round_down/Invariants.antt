-- the first i steps have what they get, and what is left of the amounts is what they leave
use Rattle.std.proofs.Common.{◌≡◌, ◌-◌}
use Rattle.rules.specs.Hour.{total}
use Rattle.orders.specs.Columns.{steps_from}
use Rattle.pricing.proofs.TotalsLaws.{rest_of}
use Rattle.shares.specs.Shares.{first_share, buy_floor, sell_floor}
use Rattle.shares.proofs.PassLaws.{Filled}
use Rattle.shares.proofs.round_down.Given as goal

abbrev pub invariant-loop-i : goal.invariant-loop-i
invariant-loop-i l =
    let s = l.steps in
    let a = l.amounts in record {
      first : Filled (first_share l.price a.buys.amount a.buys.held a.sells.amount a.sells.held) s.sides.now s.prices.now s.quantities.now l.out l.i;
      buys : a.buys.amount - total (buy_floor l.price a.buys.amount a.buys.held) (steps_from 0 s.sides.now s.prices.now s.quantities.now)
          ≡ l.left.buys - total (buy_floor l.price a.buys.amount a.buys.held) (rest_of 0 s.sides.now s.prices.now s.quantities.now l.i);
      sells : a.sells.amount - total (sell_floor l.price a.sells.amount a.sells.held) (steps_from 0 s.sides.now s.prices.now s.quantities.now)
          ≡ l.left.sells - total (sell_floor l.price a.sells.amount a.sells.held) (rest_of 0 s.sides.now s.prices.now s.quantities.now l.i);
    }
