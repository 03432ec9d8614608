-- `block_values` meets its contract: the rows of the blocks before i. Assumes nothing.
use native.Mathlib.Omega.{arith}
use Rattle.result.proofs.RowLaws.{Valued, valued-start, valued-taken, valued-passed}
use Rattle.result.proofs.block_values.Goals.{then-set-i-eq1, else-set-i-eq1}
use Rattle.result.proofs.block_values.Goals as goal

pub loop-i-init : goal.loop-i-init
loop-i-init c = valued-start _ _

pub loop-i-preserved : goal.loop-i-preserved
loop-i-preserved c =
    elim c.if-set-i-eq1.branch [
      | then-set-i-eq1 w ↦ rw w.values-is (valued-taken _ _ _ _ c.loop-i.invariant (omega arith) w.if-set-i-eq1.true)
      | else-set-i-eq1 w ↦ rw w.values-is (valued-passed _ _ _ _ c.loop-i.invariant w.if-set-i-eq1.false)
    ]

pub returns : goal.returns
returns c = λ i h. c.loop-i.invariant.done i (omega arith)
