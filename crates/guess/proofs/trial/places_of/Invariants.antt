-- each block so far moves the places on by no more than the most that is let
use Prim.Native.Nat.{◌*◌}
use Rattle.places.specs.Layout.{most_added}
use Rattle.places.specs.Hours.{Small}
use Rattle.guess.proofs.trial.places_of.Given as goal

abbrev pub invariant-loop-i : goal.invariant-loop-i
invariant-loop-i l = Small (l.i * most_added) l.places
