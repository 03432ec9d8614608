use Rattle.std.proofs.Common.{◌≡◌, false}
use Rattle.passes.specs.Passes.{is_linked}
use Rattle.passes.proofs.stages.is_linked.Given as goal

abbrev pub invariant-loop-i : goal.invariant-loop-i
invariant-loop-i l = is_linked l.blocks l.i ≡ false
