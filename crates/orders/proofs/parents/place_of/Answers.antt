-- `orders::parents::place_of` meets its contract: the record is where it is among those that are left. Assumes nothing.
use Rattle.std.proofs.Common.{sym, ◌∙◌, add-one}
use Rattle.orders.proofs.LinkLaws.{place_here, place-later, place_none}
use Rattle.orders.proofs.parents.place_of.Goals as goal

pub returns-then-number_of-number : goal.returns-then-number_of-number
returns-then-number_of-number c =
    let v = c.loop-i in
    sym (v.invariant ∙ place_here _ _ v.i _ c.loop-i-test.true (sym c.number_of.ensures ∙ c.if-number_of-number.true) ∙ sym (add-one _))

pub loop-i-preserved : goal.loop-i-preserved
loop-i-preserved c =
    let v = c.loop-i in
    v.invariant ∙ place-later _ _ v.i _ c.loop-i-test.true (λ e. c.if-number_of-number.false (c.number_of.ensures ∙ e))

pub returns : goal.returns
returns c = let v = c.loop-i in sym (v.invariant ∙ place_none _ _ v.i _ c.loop-i-test.false)
