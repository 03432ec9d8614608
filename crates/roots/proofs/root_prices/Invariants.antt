-- the best so far are prices, and so are those on their way
use Rattle.std.proofs.Common.{◌*◌}
use Rattle.rules.specs.Orders.{max_price}
use Rattle.places.specs.Layout.{last_place}
use Rattle.places.specs.Hours.{Small}
use Rattle.roots.proofs.root_prices.Given as goal

abbrev pub invariant-loop-n : goal.invariant-loop-n
invariant-loop-n l = Small max_price l.best × Small max_price l.trail.prices × Small (l.n * last_place) l.trail.sum
