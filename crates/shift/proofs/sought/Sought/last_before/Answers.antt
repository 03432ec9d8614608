-- `shift::sought::Sought::last_before` meets its contract: the test turns between the two shifts, which come nearer. Assumes nothing.
use Rattle.std.proofs.Common.{arith}
use Rattle.shift.proofs.ChosenLaws.{turn-met, turn-lower, turn-upper}
use Rattle.shift.proofs.sought.Sought.last_before.Goals as goal

pub loop-from-init : goal.loop-from-init
loop-from-init c =
    let p = c.requires in
    record { starts = omega arith; apart = p.apart.0; ends = omega arith; here = p.first_value; there = p.last_value }

pub overflow_add-from : goal.overflow_add-from
overflow_add-from c = omega (arith, c.requires.apart.1, c.loop-from.invariant)

pub loop-from-preserved-then-kept-sells : goal.loop-from-preserved-then-kept-sells
loop-from-preserved-then-kept-sells c =
    turn-lower _ _ _ _ _ _ c.loop-from.invariant _ _ (omega arith) (omega arith) c.side_kept_at-kept.ensures c.if-kept-sells.true

pub loop-from-preserved : goal.loop-from-preserved
loop-from-preserved c =
    turn-upper _ _ _ _ _ _ c.loop-from.invariant _ _ (omega arith) (omega arith) c.side_kept_at-kept.ensures c.if-kept-sells.false

pub returns : goal.returns
returns c = turn-met _ _ _ _ _ _ c.loop-from.invariant (omega (arith, c.loop-from-test.false))
