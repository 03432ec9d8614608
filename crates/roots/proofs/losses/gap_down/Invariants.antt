-- each place from i on adds at most a price
use Rattle.std.proofs.Common.{◌+◌, ◌*◌, ◌≤◌}
use Rattle.rules.specs.Orders.{max_price}
use Rattle.places.specs.Layout.{last_place, last_and_above}
use Rattle.roots.proofs.losses.gap_down.Given as goal

abbrev pub invariant-loop-i : goal.invariant-loop-i
invariant-loop-i l = l.sum + l.i * max_price ≤ (last_place + last_and_above) * max_price
