-- `setup::traded_by_hour` meets its contract: what the blocks before i trade. Assumes nothing.
use Rattle.std.proofs.Common.{arith}
use Rattle.setup.proofs.SetupBlockLaws.{traded-start, traded-fits, traded-next, traded-all}
use Rattle.setup.proofs.blocks.traded_by_hour.Goals as goal

pub loop-i-init : goal.loop-i-init
loop-i-init c = traded-start _ _ _ _

pub moved-more-requires : goal.moved-more-requires
moved-more-requires c =
    let v = c.loop-i in
    let k = c.loop-i-test.true in (
      λ j. omega (arith, v.invariant.small j, c.requires.0, k),
      omega (arith, traded-fits c.args.blocks.now.sides c.args.blocks.now.hours c.args.blocks.now.quantities c.args.all v.i _ _ (c.requires.1 v.i k) c.choose.ensures c.by_side-traded.ensures),
    )

pub loop-i-preserved : goal.loop-i-preserved
loop-i-preserved c =
    traded-next _ _ _ _ _ c.loop-i.sum _ _ _ c.loop-i.invariant (c.requires.1 c.loop-i.i c.loop-i-test.true) c.choose.ensures
    c.by_side-traded.ensures c.moved-more.ensures.0 c.moved-more.ensures.1

pub returns : goal.returns
returns c = traded-all _ _ _ _ _ _ _ c.loop-i.invariant (omega (arith, c.loop-i.auto.i-end, c.loop-i-test.false)) c.requires.0
