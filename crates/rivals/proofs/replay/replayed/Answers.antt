-- `rivals::replay::replayed` meets its contract: the first blocks are decided as in the set. Assumes nothing.
use Rattle.std.proofs.Common.{◌≡◌, arith}
use Rattle.rivals.proofs.ReplayLaws.{replays-none}
use Rattle.rivals.proofs.replay.replayed.Goals as goal

pub loop-i-init : goal.loop-i-init
loop-i-init c = replays-none _ _

pub loop-i-preserved : goal.loop-i-preserved
loop-i-preserved c = c.with_next-node.ensures

pub returns : goal.returns
returns c =
    let e : c.loop-i.i ≡ c.args.at = omega (arith, c.loop-i-test.false) in
    rw e at c.loop-i.invariant
