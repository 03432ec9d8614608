-- each block before i gains at most the most
use Rattle.std.proofs.Common.{◌*◌, ◌≤◌}
use Rattle.places.specs.Layout.{most_quantity, most_limit}
use Rattle.roots.proofs.losses.gains_at.Given as goal

abbrev pub invariant-loop-i : goal.invariant-loop-i
invariant-loop-i l = l.gains ≤ l.i * (most_quantity * most_limit)
