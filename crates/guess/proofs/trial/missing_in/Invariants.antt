-- the worst so far is one of the blocks
use Prim.Native.Nat.{◌<◌}
use Rattle.std.proofs.Common.{IfSome}
use Rattle.book.specs.Bounds.{most_blocks}
use Rattle.guess.proofs.trial.missing_in.Given as goal

abbrev pub invariant-loop-i : goal.invariant-loop-i
invariant-loop-i l = IfSome l.worst (λ worst. worst < most_blocks)
