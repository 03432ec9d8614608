-- both ends so far are prices
use Rattle.std.proofs.Common.{◌≤◌}
use Rattle.rules.specs.Orders.{max_price}
use Rattle.roots.proofs.held.ends_of.Given as goal

abbrev pub invariant-loop-i : goal.invariant-loop-i
invariant-loop-i l = (l.least ≤ max_price) × (l.most ≤ max_price)
