-- the prices so far are prices
use Rattle.std.proofs.Common.{◌≡◌, length}
use Rattle.rules.specs.Orders.{max_price}
use Rattle.places.specs.Layout.{hour_places}
use Rattle.places.specs.Hours.{Small}
use Rattle.roots.proofs.held.held.Given as goal

abbrev pub invariant-loop-h : goal.invariant-loop-h
invariant-loop-h l = (length l.r ≡ hour_places) × Small max_price l.r
