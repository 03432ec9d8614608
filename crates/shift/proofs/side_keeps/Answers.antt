-- `shift::side_keeps` meets its contract: the blocks of the side from number i on keep their limits. Assumes nothing.
use Rattle.std.proofs.Common.{◌≡◌, ◌-◌, ◌/◌, ◌%◌, ◌^◌, Bool, true, false, ◌&&◌, eqb, sym, ◌∙◌}
use Rattle.shift.specs.Columns.{held_of_side}
use Rattle.shift.proofs.SideLaws.{held-is, side-none, side-fails, side-passes, side-skips}
use Rattle.shift.proofs.side_keeps.Goals.{After-is_of_side-meant}
use Rattle.shift.proofs.side_keeps.Goals as goal

-- whether a block is held and of the side
held_of : (c : After-is_of_side-meant) (answer : Bool) →
    (eqb (c.args.set / 2 ^ (c.loop-i.i - 1) % 2) 1 && c.is_of_side-meant.result) ≡ answer →
    held_of_side c.args.sells c.args.blocks.now c.args.set (c.loop-i.i - 1) ≡ answer
held_of c answer e =
    let a = c.args in
    held-is a.sells a.blocks.now a.set a.prices.now (c.loop-i.i - 1) c.is_of_side-meant.result answer c.is_of_side-meant.ensures e

pub returns-then-not-keeps_limit : goal.returns-then-not-keeps_limit
returns-then-not-keeps_limit c =
    sym (c.loop-i.invariant ∙ side-fails _ _ _ _ _ c.loop-i-test.true
    (held_of (goal.at.returns-then-not-keeps_limit c).After-is_of_side-meant true c.if-chosen-meant.true)
    (sym c.keeps_limit.ensures ∙ c.if-not-keeps_limit.true))

pub loop-i-preserved-else-not-keeps_limit : goal.loop-i-preserved-else-not-keeps_limit
loop-i-preserved-else-not-keeps_limit c =
    c.loop-i.invariant ∙ side-passes _ _ _ _ _ c.loop-i-test.true
    (held_of (goal.at.loop-i-preserved-else-not-keeps_limit c).After-is_of_side-meant true c.if-chosen-meant.true)
    (sym c.keeps_limit.ensures ∙ c.if-not-keeps_limit.false)

pub loop-i-preserved : goal.loop-i-preserved
loop-i-preserved c =
    c.loop-i.invariant ∙ side-skips _ _ _ _ _ c.loop-i-test.true
    (held_of (goal.at.loop-i-preserved c).After-is_of_side-meant false c.if-chosen-meant.false)

pub returns : goal.returns
returns c = sym (c.loop-i.invariant ∙ side-none _ _ _ _ _ c.loop-i-test.false)
