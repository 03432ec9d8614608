use Rattle.std.proofs.Common.{◌≡◌, drop}
use Rattle.orders.specs.Columns.{place_among}
use Rattle.orders.proofs.parents.place_of.Given as goal

abbrev pub invariant-loop-i : goal.invariant-loop-i
invariant-loop-i l = place_among l.book 0 l.records l.number ≡ place_among l.book l.i (drop l.i l.records) l.number
