-- the blocks from number i on keep their limits
use Rattle.std.proofs.Common.{◌≡◌}
use Rattle.places.specs.Blocks.{all_keep}
use Rattle.places.proofs.limits.keeps_limits.Given as goal

abbrev pub invariant-loop-i : goal.invariant-loop-i
invariant-loop-i l = all_keep l.blocks l.set l.high l.low l.count ≡ all_keep l.blocks l.set l.high l.low l.i
