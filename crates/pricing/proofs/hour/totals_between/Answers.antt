-- `pricing::hour::totals_between` meets its contract: the totals of the first i steps. Assumes nothing.
use Rattle.std.proofs.Common.{◌^◌, ◌<◌, ◌∙◌, refl, arith, rules, get_or}
use Rattle.pricing.proofs.TotalsLaws.{counted_none, counted_next, counted-all}
use Rattle.pricing.proofs.hour.totals_between.Goals as goal

pub loop-i-init : goal.loop-i-init
loop-i-init c = (refl, refl, counted_none _ _ _ _ _)

pub add-totals-requires : goal.add-totals-requires
add-totals-requires c =
    let k = c.loop-i.invariant.2 in
    let sized = c.args.steps.now.sized in
    (omega (arith, k.above_fits, k.inside, sized.not_too_many), omega (arith, k.upto_fits, k.inside, sized.not_too_many))

pub loop-i-preserved : goal.loop-i-preserved
loop-i-preserved c =
    let s = c.args.steps.now in
    let small : get_or s.quantities.now c.loop-i.i 0 < 2 ^ 32 = search rules in
    let over = c.loop-i.invariant.0 in
    let to = c.loop-i.invariant.1 in
    let e = rw (over, to) at c.add-totals.ensures in (
      c.add-totals.ensures.0 ∙ over,
      c.add-totals.ensures.1 ∙ to,
      counted_next _ _ _ s.sized _ _ _ _ _ _ _ c.loop-i.invariant.2 c.loop-i-test.true small e.2 e.3,
    )

pub returns : goal.returns
returns c = counted-all _ _ _ c.args.steps.now.sized _ _ _ _ _ c.loop-i.invariant.2 c.loop-i-test.false
