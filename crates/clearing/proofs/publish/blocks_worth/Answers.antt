-- `clearing::publish::blocks_worth` meets its contract: the blocks before i are counted. Assumes nothing.
use Rattle.clearing.proofs.WorthLaws.{worthed-next, worthed-all}
use Rattle.clearing.proofs.publish.blocks_worth.Goals as goal

pub loop-i-preserved : goal.loop-i-preserved
loop-i-preserved c =
    let b = c.args.blocks.now in
    let w = c.block_worth-worth.ensures in
    worthed-next _ _ _ _ _ b.sized b.as_many_prices _ _ _ _ c.loop-i.i _ _ _ c.loop-i.invariant c.loop-i-test.true w.1 w.0 c.add-sums.ensures.0 c.add-sums.ensures.1

pub returns : goal.returns
returns c =
    let b = c.args.blocks.now in
    worthed-all _ _ _ _ _ b.sized b.as_many_prices _ _ _ _ _ c.loop-i.invariant c.loop-i-test.false
