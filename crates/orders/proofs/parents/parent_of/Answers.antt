-- `orders::parents::parent_of` meets its contract: the link is on the chain where it is on the rest that is left to follow. Assumes nothing.
use Rattle.std.proofs.Common.{sym, ◌∙◌, eq-eqb, ne_eqb}
use Rattle.chains.specs.Chains.{link_order}
use Rattle.orders.specs.Columns.{parent_among}
use Rattle.orders.proofs.parents.parent_of.Goals as goal

pub loop-i-init : goal.loop-i-init
unfolding link_order
loop-i-init c = rw (c.into_iter-i-iterator.ensures.into_iter_gives, c.chained-i-items.ensures, c.first_link.ensures)

pub returns-then-link-number : goal.returns-then-link-number
unfolding parent_among
returns-then-link-number c =
    sym (c.loop-i.invariant ∙ rw (c.in-Some.ensures.steps, ← c.link_at-link.ensures, eq-eqb _ _ c.if-link-number.true))

pub loop-i-preserved : goal.loop-i-preserved
unfolding parent_among
loop-i-preserved c = c.loop-i.invariant ∙ rw (c.in-Some.ensures.steps, ← c.link_at-link.ensures, ne_eqb _ _ c.if-link-number.false)

pub returns : goal.returns
unfolding parent_among
returns c = sym (c.loop-i.invariant ∙ rw c.in-None.ensures.steps.0)
