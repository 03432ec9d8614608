-- `branches::next::take` meets its contract: the set, the loss and the places of the node with the block taken. Assumes nothing.
use Rattle.std.proofs.Common.{arith}
use Rattle.branches.proofs.NextLaws.{node-taken}
use Rattle.branches.proofs.next.take.Goals as goal

pub returns : goal.returns
returns c =
    let m = c.moved_where-moved.ensures in
    rw c.from.ensures (node-taken _ _ _ _ c.requires.0 c.requires.2 m.0 _ c.bit.ensures
    (omega arith) m.1)
