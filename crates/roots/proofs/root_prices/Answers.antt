-- `roots::root_prices` meets its contract: the best so far are prices, and so are those on their way. Assumes nothing.
use Rattle.std.proofs.Common.{arith}
use Rattle.rules.specs.Day.{change_hour}
use Rattle.rules.proofs.BoundsLaws.{weight-small}
use Rattle.roots.proofs.root_prices.Goals.{then-loss-least, else-loss-least}
use Rattle.roots.proofs.root_prices.Goals as goal

pub invariant_of-asked : goal.invariant_of-asked
invariant_of-asked c =
    let blocks = c.requires.blocks in
    record {
      few = (blocks.0, blocks.2);
      fits = rw c.change_weight.ensures (weight-small _ change_hour c.requires.day);
    }

pub loop-n-init : goal.loop-n-init
loop-n-init c =
    let tables = c.requires.tables in
    (c.held-best.ensures, c.held-best.ensures, λ i. omega (arith, tables.0.1, tables.2 i))

pub loop-n-preserved : goal.loop-n-preserved
loop-n-preserved c = (
  elim c.if-loss-least.branch [ then-loss-least w ↦ rw w.best-is c.moved_on-next.ensures.0 | else-loss-least w ↦ rw w.best-is c.loop-n.invariant.0 ],
  c.moved_on-next.ensures.0,
  c.moved_on-next.ensures.1,
)
