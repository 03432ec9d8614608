-- the sum over the first h hours; a row's numbers are small
use Prim.Native.Nat.{◌*◌, ◌≤◌}
use mathlib.Core.Path.{◌≡◌}
use Rattle.rules.specs.Day.{sum_to}
use Rattle.places.specs.Layout.{most_added}
use Rattle.places.specs.Blocks.{row_quantity}
use Rattle.guess.proofs.trial.size_of.Given as goal

abbrev pub invariant-loop-h : goal.invariant-loop-h
invariant-loop-h l = (l.sum ≤ l.h * most_added) × (l.sum ≡ sum_to l.h (row_quantity l.blocks l.i))
