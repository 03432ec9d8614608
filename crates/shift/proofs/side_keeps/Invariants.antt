-- the blocks of the side from number i on keep their limits
use Rattle.std.proofs.Common.{◌≡◌}
use Rattle.shift.specs.Columns.{side_keeps}
use Rattle.shift.proofs.side_keeps.Given as goal

abbrev pub invariant-loop-i : goal.invariant-loop-i
invariant-loop-i l = side_keeps l.sells l.blocks l.set l.prices l.count ≡ side_keeps l.sells l.blocks l.set l.prices l.i
