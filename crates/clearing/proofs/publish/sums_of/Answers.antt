-- `clearing::publish::sums_of` meets its contract: the sums so far and those of the rest are the whole. Assumes nothing.
use Rattle.std.proofs.Common.{arith}
use Rattle.rules.proofs.BoundsLaws.{product_le}
use Rattle.clearing.proofs.SumLaws.{summing-none, summing-next, summing-all, with-values}
use Rattle.clearing.proofs.publish.sums_of.Goals as goal

pub loop-i-init : goal.loop-i-init
loop-i-init c = summing-none _ _ _

pub add-sums-requires : goal.add-sums-requires
add-sums-requires c =
    let k = c.loop-i.invariant in
    let few = c.args.steps.now.sized.not_too_many in (
      omega (arith, k.value_fits, k.inside, few),
      omega (arith, k.cost_fits, k.inside, few),
      rw (c.from.ensures, c.from-in-loop-i.ensures) (omega (arith, product_le _ _ 99999 300000 (c.requires.2 c.loop-i.i) (c.requires.1 c.loop-i.i))),
    )

pub loop-i-preserved : goal.loop-i-preserved
loop-i-preserved c =
    let s = c.args.steps.now in
    summing-next _ _ _ (with-values s.sized c.requires.0) _ _ _ _ _ c.requires.1 c.requires.2 c.loop-i.invariant c.loop-i-test.true
    (rw (c.from.ensures, c.from-in-loop-i.ensures) at c.add-sums.ensures.0) (rw (c.from.ensures, c.from-in-loop-i.ensures) at c.add-sums.ensures.1)

pub returns : goal.returns
returns c = summing-all _ _ _ (with-values c.args.steps.now.sized c.requires.0) _ _ _ c.loop-i.invariant c.loop-i-test.false
