-- The limit is held, and grows from pass to pass; the table keeps its slots. Assumes nothing.
use Rattle.std.proofs.Common.{◌-◌, ◌*◌, ◌≡◌, length}
use Rattle.places.specs.Layout.{last_limit}
use Rattle.passes.specs.Passes.{LimitHeld}
use Rattle.passes.proofs.heavy.find_heavy.Given as goal

abbrev pub invariant-loop-limit : goal.invariant-loop-limit
invariant-loop-limit l = LimitHeld l.limit × (length l.table ≡ 32768)

abbrev pub decreases-loop-limit : goal.decreases-loop-limit
decreases-loop-limit l = 2 * last_limit - l.limit
