-- the sums so far and those of the rest are the whole
use Rattle.clearing.proofs.SumLaws.{Summing}
use Rattle.clearing.proofs.publish.sums_of.Given as goal

abbrev pub invariant-loop-i : goal.invariant-loop-i
invariant-loop-i l = Summing l.steps.sides.now l.steps.prices.now l.values l.sums.value l.sums.cost l.i
