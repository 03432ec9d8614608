-- `shift::shift_of` meets its contract: a law for each way out. Assumes nothing.
use Rattle.std.proofs.Common.{sym, ◌∙◌}
use Rattle.shift.proofs.ChosenLaws.{second-fails, middle-way, middle-apart}
use Rattle.shift.proofs.shift_of.Goals as goal

pub returns-then-sold-bought : goal.returns-then-sold-bought
returns-then-sold-bought c = middle-way _ _ _ _ _ _ _ _ c.side_kept_at-sold.ensures c.side_kept_at-bought.ensures c.if-sold-bought.true

pub lower_shift-requires : goal.lower_shift-requires
lower_shift-requires c = sym c.side_kept_at-bought.ensures ∙ second-fails _ _ c.if-sold-bought.false c.if-sold.true

pub higher_shift-requires : goal.higher_shift-requires
higher_shift-requires c = sym c.side_kept_at-sold.ensures ∙ c.if-sold.false

pub returns : goal.returns
returns c = middle-apart _ _ _ _ _ _ (sym c.side_kept_at-sold.ensures ∙ c.if-sold.false) (sym c.side_kept_at-bought.ensures ∙ c.if-bought.false)
