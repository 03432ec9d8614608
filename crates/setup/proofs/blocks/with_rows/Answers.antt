-- `setup::with_rows` meets its contract: the numbers before k of the rows stand. Assumes nothing.
use Rattle.std.proofs.Common.{rules, arith}
use Rattle.setup.proofs.SetupTwinLaws.{trade-small, rows-begun, rows_more, rows_whole}
use Rattle.setup.proofs.blocks.with_rows.Goals as goal

pub loop-k-init : goal.loop-k-init
loop-k-init c = rows-begun _ _ (search rules) c.requires.1

pub overflow_mul-r : goal.overflow_mul-r
overflow_mul-r c = omega (arith, trade-small c.args.blocks c.args.count c.loop-k.k c.requires.1 c.requires.0 c.loop-k-test.true)

pub loop-k-preserved : goal.loop-k-preserved
loop-k-preserved c = rows_more _ _ _ _ c.loop-k.invariant c.requires.1 c.requires.0 c.loop-k-test.true

pub returns : goal.returns
returns c = rows_whole _ _ _ _ c.loop-k.invariant c.loop-k-test.false
