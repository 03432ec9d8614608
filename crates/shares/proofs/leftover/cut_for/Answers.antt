-- `shares::leftover::cut_for` meets its contract: the cut lies from low to high. Assumes nothing.
use Rattle.std.proofs.Common.{arith}
use Rattle.rules.proofs.ShareLaws.{at_least-zero}
use Rattle.shares.proofs.leftover.cut_for.Goals as goal

pub loop-low-init : goal.loop-low-init
loop-low-init c = (omega arith, omega arith, c.requires.2, omega (arith, at_least-zero c.args.rests.now))
