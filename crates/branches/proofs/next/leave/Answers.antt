-- `branches::next::leave` meets its contract: the loss, the rank and the places of the node with the block left out. Assumes nothing.
use Rattle.std.proofs.Common.{arith}
use Rattle.branches.proofs.NextLaws.{node-left}
use Rattle.branches.proofs.next.leave.Goals as goal

pub returns : goal.returns
returns c =
    let m = c.moved_where-moved.ensures in
    rw (c.from.ensures, c.from-2.ensures) (node-left _ _ _ _ c.requires.0 c.requires.2 m.0 (omega arith) (omega arith) m.1)
