use Rattle.rivals.specs.Tests.{Replays}
use Rattle.rivals.proofs.replay.replayed.Given as goal

abbrev pub invariant-loop-i : goal.invariant-loop-i
invariant-loop-i l = Replays l.blocks l.i l.set l.node
