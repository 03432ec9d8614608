-- the averages so far are places
use Rattle.std.proofs.Common.{◌≡◌, length}
use Rattle.places.specs.Layout.{hour_places}
use Rattle.places.specs.Hours.{Small}
use Rattle.roots.proofs.moves.averaged.Given as goal

abbrev pub invariant-loop-h : goal.invariant-loop-h
invariant-loop-h l = (length l.r ≡ hour_places) × Small l.last l.r
