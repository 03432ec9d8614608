-- `setup::with_parents` meets its contract: the parents of the blocks before i stand. Assumes nothing.
use Rattle.std.proofs.Common.{rules}
use Rattle.setup.proofs.SetupTwinLaws.{parents-start, parents-next, parents-all}
use Rattle.setup.proofs.blocks.with_parents.Goals as goal

pub loop-i-init : goal.loop-i-init
loop-i-init c = parents-start _ _ (search rules)

pub loop-i-preserved : goal.loop-i-preserved
loop-i-preserved c = parents-next _ _ _ _ c.loop-i.invariant c.loop-i-test.true

pub returns : goal.returns
returns c = parents-all _ _ _ _ c.loop-i.invariant c.loop-i-test.false
