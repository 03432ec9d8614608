-- The number of undecided blocks falls from call to call. Assumes nothing.
use Rattle.search.proofs.explore.+explore.Given as goal

abbrev pub decreases-explore : goal.decreases-explore
decreases-explore l = l.left
