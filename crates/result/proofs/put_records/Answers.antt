-- `put_records` meets its contract: the rows of the records before k are written. Assumes nothing.
use mathlib.Core.Path.{◌≡◌, refl, ◌∙◌}
use native.Mathlib.Omega.{arith}
use Rattle.result.specs.Result.{record_rows}
use Rattle.text.proofs.BufferLaws.{splice-none}
use Rattle.result.proofs.ByteLaws.{be-four}
use Rattle.result.proofs.RowLaws.{record-turn}
use Rattle.result.proofs.put_records.Goals as goal

pub loop-k-init : goal.loop-k-init
unfolding record_rows
loop-k-init c = (refl, splice-none _ _)

pub loop-k-preserved : goal.loop-k-preserved
loop-k-preserved c =
    let row = rw (c.to_be_bytes.ensures, be-four) at c.put.ensures in (
      c.put.auto.res ∙ c.loop-k.invariant.0,
      record-turn _ _ _ _ c.args.count c.loop-k.k c.requires.2 (omega arith) c.loop-k-test.true c.loop-k.invariant.1 row,
    )
