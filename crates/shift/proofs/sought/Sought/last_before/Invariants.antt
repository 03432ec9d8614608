-- the test turns between the two shifts, which come nearer
use Rattle.std.proofs.Common.{◌-◌}
use Rattle.shift.specs.Sought.{kept_at}
use Rattle.shift.proofs.ChosenLaws.{TurnsWithin}
use Rattle.shift.proofs.sought.Sought.last_before.Given as goal

abbrev pub invariant-loop-from : goal.invariant-loop-from
invariant-loop-from l = TurnsWithin (kept_at l.self l.sells) l.sells l.first l.last l.from l.to

abbrev pub decreases-loop-from : goal.decreases-loop-from
decreases-loop-from l = l.to - l.from
