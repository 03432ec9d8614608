-- the bounds so far are prices
use Rattle.std.proofs.Common.{◌≡◌, ◌≤◌, length}
use Rattle.rules.specs.Orders.{max_price}
use Rattle.places.specs.Layout.{hour_places}
use Rattle.places.specs.Hours.{Small}
use Rattle.roots.proofs.held.bounds_of.Given as goal

abbrev pub invariant-loop-h : goal.invariant-loop-h
invariant-loop-h l =
    (length l.least ≡ hour_places) × Small max_price l.least × (length l.most ≡ hour_places) × Small max_price l.most × (l.ends.least ≤ max_price) × (l.ends.most ≤ max_price)
