-- the first i blocks looked at
use mathlib.Core.Path.{◌≡◌}
use Rattle.guess.specs.Sets.{all_with_parents}
use Rattle.guess.proofs.sets.closed.Given as goal

abbrev pub invariant-loop-i : goal.invariant-loop-i
invariant-loop-i l = l.r ≡ all_with_parents l.blocks l.initial.r l.i
