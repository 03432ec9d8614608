-- each hour before h loses at most the most
use Rattle.std.proofs.Common.{◌+◌, ◌*◌, ◌≤◌}
use Rattle.rules.specs.Orders.{max_price}
use Rattle.places.specs.Layout.{last_place, last_and_above}
use Rattle.roots.proofs.losses.gaps_from.Given as goal

abbrev pub invariant-loop-h : goal.invariant-loop-h
invariant-loop-h l = l.sum ≤ 4 * l.h * ((last_place + last_and_above) * max_price)
