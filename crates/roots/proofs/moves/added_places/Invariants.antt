-- each block before i has moved an hour on by at most its quantity
use Rattle.std.proofs.Common.{ℕ, ◌+◌, ◌*◌, ◌≤◌, get_or}
use Rattle.places.specs.Layout.{most_quantity}
use Rattle.roots.proofs.moves.added_places.Given as goal

abbrev pub invariant-loop-i : goal.invariant-loop-i
invariant-loop-i l = (j : ℕ) → get_or l.places j 0 ≤ get_or l.fn.sum j 0 + l.i * most_quantity
