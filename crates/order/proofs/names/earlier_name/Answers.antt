-- `order::names::earlier_name` meets its contract. Assumes nothing.
use mathlib.Core.Path.{sym, ◌∙◌}
use Rattle.order.proofs.NameLaws.{earlier-none, earlier-behind, earlier-kept}
use Rattle.order.proofs.names.earlier_name.Goals as goal

pub returns-then-count-name : goal.returns-then-count-name
returns-then-count-name c = earlier-none _ _ _ _ c.if-count-name.true

pub returns-then-not-stands_before : goal.returns-then-not-stands_before
returns-then-not-stands_before c = earlier-behind _ _ _ _ (sym c.stands_before.ensures ∙ c.if-not-stands_before.true)

pub returns : goal.returns
returns c =
    c.placed_name.ensures ∙ earlier-kept _ _ _ _ c.if-count-name.false (sym c.stands_before.ensures ∙ c.if-not-stands_before.false)
