-- `guess::sets::gaining` meets its contract: of the first i blocks those that gain. Assumes nothing.
use mathlib.Core.Path.{refl}
use Rattle.guess.specs.Sets.{gainers}
use Rattle.guess.proofs.SetLaws.{gainers-next}
use Rattle.guess.proofs.sets.gaining.Goals as goal

pub loop-i-init : goal.loop-i-init
unfolding gainers
loop-i-init c = refl

pub loop-i-preserved : goal.loop-i-preserved
loop-i-preserved c = gainers-next c.args.blocks.now c.loop-i.i c.loop-i.set c.loop-i.invariant
