-- the prices are prices, and k places are added up
use Rattle.std.proofs.Common.{◌*◌}
use Rattle.rules.specs.Orders.{max_price}
use Rattle.places.specs.Layout.{last_place}
use Rattle.places.specs.Hours.{Small}
use Rattle.roots.proofs.moves.moved_on.Given as goal

abbrev pub invariant-loop-k : goal.invariant-loop-k
invariant-loop-k l = Small max_price l.root × Small (l.k * last_place) l.sum
