-- `clearing::publish::fill_hour` meets its contract: the shares are the executed quantities, within the steps' own. Assumes nothing.
use Rattle.std.proofs.Common.{◌+◌, ◌-◌, arith}
use Rattle.shares.proofs.AmountLaws.{amounts-held, executed-by}
use Rattle.clearing.proofs.SumLaws.{executed-small, hour-done}
use Rattle.clearing.proofs.publish.fill_hour.Goals as goal

pub share_out-requires : goal.share_out-requires
share_out-requires c =
    let pre = c.requires in
    (pre.5, pre.0, pre.6, amounts-held _ _ _ _ _ _ _ _ _ c.amounts_at-amounts.ensures)

pub sums_of-requires : goal.sums_of-requires
sums_of-requires c =
    let pre = c.requires in (
      omega (arith, pre.0, c.share_out.auto.out),
      pre.4,
      executed-small 99999 _ _ _ _ _ _ (executed-by _ _ _ _ _ _ _ _ _ _ c.amounts_at-amounts.ensures c.share_out.ensures) pre.5,
    )

pub returns : goal.returns
returns c =
    let pre = c.requires in
    let t = c.args.trades in
    hour-done _ _ _ _ t.sales t.buys (2097152 + t.sales - t.buys) _ _ _
    (omega (arith, c.args.steps.now.sized.as_many_quantities, pre.0, c.share_out.auto.out)) (omega (arith, pre.3))
    (executed-by _ _ _ _ _ _ _ _ _ _ c.amounts_at-amounts.ensures c.share_out.ensures) c.sums_of.ensures
