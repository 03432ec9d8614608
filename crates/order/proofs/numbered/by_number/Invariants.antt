-- the bits of the blocks from number i on stand
use Prim.Native.Nat.{◌-◌}
use mathlib.Core.Path.{◌≡◌}
use Rattle.order.proofs.NumberLaws.{numbered_from}
use Rattle.order.proofs.numbered.by_number.Given as goal

abbrev pub invariant-loop-i : goal.invariant-loop-i
invariant-loop-i l = l.numbered ≡ numbered_from l.order.places l.set (l.count - l.i) l.i
