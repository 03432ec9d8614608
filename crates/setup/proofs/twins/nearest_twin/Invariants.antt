-- what is found among the blocks before j is such a twin
use Rattle.setup.specs.Setup.{TwinFound}
use Rattle.setup.proofs.twins.nearest_twin.Given as goal

abbrev pub invariant-loop-j : goal.invariant-loop-j
invariant-loop-j l = TwinFound l.blocks l.i l.ahead l.found
