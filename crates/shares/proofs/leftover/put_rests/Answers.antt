-- `shares::leftover::put_rests` meets its contract: the first i places have their remainders. Assumes nothing.
use Rattle.std.proofs.Common.{◌*◌, ◌%◌, ap, ◌∙◌}
use Rattle.shares.proofs.PassLaws.{filled_more, filled-all}
use Rattle.shares.proofs.ShareOutLaws.{remainders-are}
use Rattle.shares.proofs.leftover.put_rests.Goals as goal

pub loop-i-preserved : goal.loop-i-preserved
loop-i-preserved c =
    let e = c.rest_of.ensures ∙ ap (λ x. x * c.args.portion.amount % c.args.portion.held) c.held_at-own.ensures in
    filled_more _ _ _ _ c.args.steps.now.sized _ _ _ c.loop-i.invariant c.loop-i-test.true e

pub returns : goal.returns
returns c =
    let a = c.args in
    let s = a.steps.now in
    filled-all _ _ _ _ _ _ c.loop-i.invariant c.loop-i-test.false
    ∙ remainders-are a.buys a.price a.portion.amount a.portion.held s.sides.now s.prices.now s.quantities.now
