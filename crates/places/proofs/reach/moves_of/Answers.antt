-- `places::reach::moves_of` meets its contract: it is the definition. Assumes nothing.
use Rattle.places.proofs.ReachLaws.{moves-are}
use Rattle.places.proofs.reach.moves_of.Goals as goal

pub returns : goal.returns
returns c = rw (c.from.ensures, c.from-2.ensures) (moves-are _ _ _ _ _)
