-- `places::reach::rest_of` meets its contract: the blocks from number i on are added. Assumes nothing.
use Rattle.std.proofs.Common.{rules}
use Rattle.places.proofs.ReachLaws.{rest-start, rest-next}
use Rattle.places.proofs.reach.rest_of.Goals as goal

pub loop-i-init : goal.loop-i-init
loop-i-init c = rest-start _ _ _ _ _ _ _ c.requires.2 (search rules) c.requires.4

pub loop-i-preserved : goal.loop-i-preserved
loop-i-preserved c =
    let moves = rw c.is_out.ensures at c.moves_of-moves.ensures in
    rest-next _ _ _ _ _ _ _ _ _ _ _ _ c.loop-i.invariant c.loop-i-test.true (c.requires.0.rows_fit _)
    (rw (moves.0, moves.1) at c.with_moves-rest.ensures)
