-- each decision so far loses a number of 32 bits
use Prim.Native.Nat.{◌*◌, ◌^◌, ◌≤◌}
use Rattle.guess.proofs.trial.losses_of.Given as goal

abbrev pub invariant-loop-i : goal.invariant-loop-i
invariant-loop-i l = l.sum ≤ l.i * 2 ^ 32
