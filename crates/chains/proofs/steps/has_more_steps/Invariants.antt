use Rattle.chains.specs.Passes.{to_follow}
use Rattle.chains.proofs.StepCounts.{Counted}
use Rattle.chains.proofs.steps.has_more_steps.Given as goal

abbrev pub invariant-loop-i : goal.invariant-loop-i
invariant-loop-i l = Counted l.book l.counts (to_follow l.i-iterator)
