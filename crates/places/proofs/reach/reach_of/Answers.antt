-- `places::reach::reach_of` meets its contract: the reach of the hours before this one. Assumes nothing.
use Rattle.places.proofs.ReachLaws.{reach-next, reach_none}
use Rattle.places.proofs.reach.reach_of.Goals as goal

pub loop-h-preserved : goal.loop-h-preserved
loop-h-preserved c = reach-next _ _ _ _ _ _ _ _ _ _ c.loop-h.invariant c.loop-h-test.true c.max-lowest.ensures c.min-highest.ensures

pub returns-else-balances : goal.returns-else-balances
returns-else-balances c = let i = c.loop-h.invariant in reach_none _ _ _ _ _ _ _ (rw c.if-balances.false at i)
