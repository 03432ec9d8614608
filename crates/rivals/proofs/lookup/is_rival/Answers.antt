-- `rivals::lookup::is_rival` meets its contract: one law for the tests. Assumes nothing.
use Rattle.std.proofs.Common.{sym, ◌∙◌}
use Rattle.rivals.proofs.CheaperLaws.{rivalled}
use Rattle.rivals.proofs.TestLaws.{same-places}
use Rattle.rivals.proofs.lookup.is_rival.Goals as goal

pub returns : goal.returns
returns c = λ e.
    rivalled (c.holds_outdone.ensures c.if-not-holds_outdone.false) (c.holds_parents.ensures c.if-not-holds_parents.false)
    (c.leaves_no_child.ensures c.if-not-leaves_no_child.false) c.replayed-other.ensures
    (same-places _ _ (sym c.if-ne.false ∙ c.ne.ensures)) (c.costs_less.ensures e)
