-- `shares::leftover::give_leftover` meets its contract: the cut gives the tenths out. Assumes nothing.
use Rattle.std.proofs.Common.{sym, ◌∙◌}
use Rattle.shares.proofs.ShareOutLaws.{none_left, left-few, none-over-total, given-by-cut, rests-long}
use Rattle.shares.proofs.leftover.give_leftover.Goals as goal

pub returns-then-left-eq0 : goal.returns-then-left-eq0
returns-then-left-eq0 c =
    let a = c.args in
    let s = a.steps.now in
    none_left a.out.now _ a.left c.if-left-eq0.true
    (sym c.requires.0 ∙ sym (rests-long a.buys a.price a.portion.amount a.portion.held s.sides.now s.prices.now s.quantities.now s.sized))

pub cut_for-cut-requires : goal.cut_for-cut-requires
cut_for-cut-requires c =
    let o = c.requires.2 in
    let some = c.if-left-eq0.false in
    let rests = c.put_rests.ensures in
    (o.fits, left-few _ _ _ _ _ o some rests, none-over-total _ _ _ _ _ o some rests)

pub returns : goal.returns
returns c =
    let cut = c.cut_for-cut in
    given-by-cut _ _ _ _ _ c.requires.2 c.if-left-eq0.false c.put_rests.ensures cut.result c.above.result c.args.out.now _
    cut.ensures.above cut.ensures.from c.above.ensures c.give.ensures
