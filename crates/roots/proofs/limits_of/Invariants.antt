-- the limits so far are in their range
use Rattle.std.proofs.Common.{◌≡◌, length}
use Rattle.book.specs.Bounds.{most_blocks}
use Rattle.places.specs.Layout.{most_limit}
use Rattle.places.specs.Hours.{Small}
use Rattle.roots.proofs.limits_of.Given as goal

abbrev pub invariant-loop-i : goal.invariant-loop-i
invariant-loop-i l = (length l.limits ≡ most_blocks) × Small most_limit l.limits
