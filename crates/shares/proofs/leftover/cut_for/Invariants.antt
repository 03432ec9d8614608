-- the cut lies from low to high
use Rattle.std.proofs.Common.{suc, ◌-◌, ◌≤◌}
use Rattle.rules.specs.Execution.{at_least}
use Rattle.shares.proofs.leftover.cut_for.Given as goal

abbrev pub invariant-loop-low : goal.invariant-loop-low
invariant-loop-low l =
    (l.low ≤ l.high) × (l.high ≤ l.total) × (at_least (suc l.high) l.rests ≤ l.left) × (l.left ≤ at_least l.low l.rests)

abbrev pub decreases-loop-low : goal.decreases-loop-low
decreases-loop-low l = l.high - l.low
