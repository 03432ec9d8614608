-- of the first i blocks those that gain
use mathlib.Core.Path.{◌≡◌}
use Rattle.guess.specs.Sets.{gainers}
use Rattle.guess.proofs.sets.gaining.Given as goal

abbrev pub invariant-loop-i : goal.invariant-loop-i
invariant-loop-i l = l.set ≡ gainers l.blocks l.i
