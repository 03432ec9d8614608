-- the blocks before i are counted
use Rattle.clearing.proofs.WorthLaws.{Worthed}
use Rattle.clearing.proofs.publish.blocks_worth.Given as goal

abbrev pub invariant-loop-i : goal.invariant-loop-i
invariant-loop-i l =
    Worthed l.day l.blocks.sides.now l.blocks.hours.now l.blocks.prices.now l.blocks.quantities.now l.set l.sums.value l.sums.cost l.rest l.i
