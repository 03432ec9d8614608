-- `put_hours` meets its contract: the hours before h are written. Assumes nothing.
use mathlib.Core.Path.{◌≡◌, refl, ◌∙◌}
use lib.ListN.{length}
use borrow.Author.Rules.{rules}
use Rattle.result.specs.Result.{hour_rows}
use Rattle.text.proofs.BufferLaws.{splice-none}
use Rattle.result.proofs.ByteLaws.{be-four}
use Rattle.result.proofs.RowLaws.{hour-turn, hours-done}
use Rattle.result.proofs.put_hours.Goals as goal

pub loop-h-init : goal.loop-h-init
unfolding hour_rows
loop-h-init c = (refl, splice-none _ _)

pub loop-h-preserved : goal.loop-h-preserved
loop-h-preserved c =
    let lp : length c.args.prices ≡ 24 = search rules in
    let lq : length c.args.quantities ≡ 24 = search rules in
    let price = rw (c.to_be_bytes.ensures, be-four) at c.put.ensures in
    let quantity = rw (c.to_be_bytes-in-loop-h.ensures, be-four) at c.put-in-loop-h.ensures in (
      c.put-in-loop-h.auto.res ∙ c.put.auto.res ∙ c.loop-h.invariant.0,
      hour-turn _ _ _ c.requires lp lq _ _ _ c.loop-h.h c.loop-h-test.true c.loop-h.invariant.1 price quantity,
    )

pub returns : goal.returns
returns c =
    let lp : length c.args.prices ≡ 24 = search rules in
    let lq : length c.args.quantities ≡ 24 = search rules in
    hours-done _ _ _ c.requires lp lq _ c.loop-h.h c.loop-h-test.false c.loop-h.invariant.1
