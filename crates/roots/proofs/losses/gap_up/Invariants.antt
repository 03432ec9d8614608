-- each place before i adds at most a price
use Rattle.std.proofs.Common.{◌*◌, ◌≤◌}
use Rattle.rules.specs.Orders.{max_price}
use Rattle.roots.proofs.losses.gap_up.Given as goal

abbrev pub invariant-loop-i : goal.invariant-loop-i
invariant-loop-i l = l.sum ≤ l.i * max_price
