-- `shares::round_down` meets its contract: the first i steps have what they get. Assumes nothing.
use Rattle.std.proofs.Common.{get_or}
use Rattle.orders.specs.Columns.{side_for}
use Rattle.shares.specs.Shares.{buy_floor, sell_floor}
use Rattle.shares.proofs.AmountLaws.{taken_is}
use Rattle.shares.proofs.PassLaws.{filled_more, filled-all, left-more, left-all}
use Rattle.shares.proofs.round_down.Goals as goal

pub loop-i-preserved : goal.loop-i-preserved
loop-i-preserved c =
    let v = c.loop-i in
    let p = c.args.price in
    let b = c.args.amounts.buys in
    let m = c.args.amounts.sells in
    let s = c.args.steps.now in
    let got = c.first-got in
    let inside = c.loop-i-test.true in
    let taken = taken_is p (get_or s.prices.now v.i 0) (get_or s.quantities.now v.i 0) b.amount b.held m.amount m.held got.result (side_for (get_or s.sides.now v.i 0)) got.ensures in
    record {
      first = filled_more _ _ _ _ s.sized _ _ _ v.invariant.first inside got.ensures;
      buys = rw c.after-left.ensures.0 (left-more (buy_floor p b.amount b.held) _ _ _ s.sized _ _ _ _ inside v.invariant.buys taken.0);
      sells = rw c.after-left.ensures.1 (left-more (sell_floor p m.amount m.held) _ _ _ s.sized _ _ _ _ inside v.invariant.sells taken.1);
    }

pub returns : goal.returns
returns c =
    let p = c.args.price in
    let b = c.args.amounts.buys in
    let m = c.args.amounts.sells in
    let l = c.loop-i.invariant in
    record {
      first = filled-all _ _ _ _ _ _ l.first c.loop-i-test.false;
      buys = left-all (buy_floor p b.amount b.held) _ _ _ _ _ _ c.loop-i-test.false l.buys;
      sells = left-all (sell_floor p m.amount m.held) _ _ _ _ _ _ c.loop-i-test.false l.sells;
    }
