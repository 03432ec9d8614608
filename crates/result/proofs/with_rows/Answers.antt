-- `with_rows` meets its contract: the values from i on are at their records. Assumes nothing.
use Prim.Native.Nat.{◌-◌}
use mathlib.Core.Path.{◌≡◌}
use native.Mathlib.Omega.{arith}
use borrow.Author.Rules.{rules}
use Rattle.result.proofs.RowLaws.{Filled, filled-start, filled-stored, filled-passed}
use Rattle.result.proofs.with_rows.Goals as goal

pub loop-i-init : goal.loop-i-init
loop-i-init c = filled-start _ _ _ (search rules)

pub loop-i-preserved-then-k-lt-STEP_PLACES : goal.loop-i-preserved-then-k-lt-STEP_PLACES
loop-i-preserved-then-k-lt-STEP_PLACES c =
    rw c.from-k.ensures
    (filled-stored _ _ _ _ c.loop-i.i (c.loop-i.i - 1) c.requires (omega arith) (omega arith) c.loop-i.invariant (omega (arith, c.from-k.ensures)))

pub loop-i-preserved : goal.loop-i-preserved
loop-i-preserved c =
    filled-passed _ _ _ _ c.loop-i.i (c.loop-i.i - 1) c.requires (omega arith) (omega arith) c.loop-i.invariant (omega (arith, c.from-k.ensures))

pub returns : goal.returns
returns c = (let none : c.loop-i.i ≡ 0 = omega arith in rw none at c.loop-i.invariant).at
