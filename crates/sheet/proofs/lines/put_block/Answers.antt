-- `put_block` meets its contract: two fields, one after the other. Assumes nothing.
use mathlib.Core.Path.{◌∙◌}
use Rattle.sheet.proofs.LineLaws.{flag-is, room-number, room-flag, put-block-line}
use Rattle.sheet.proofs.lines.put_block.Goals as goal

pub put_field-behind_number-requires : goal.put_field-behind_number-requires
put_field-behind_number-requires c = rw c.from.ensures (room-number _ _ _ _ c.requires)

pub put_field-requires : goal.put_field-requires
put_field-requires c = room-flag _ _ _ _ c.requires _ _ (rw c.from.ensures at c.put_field-behind_number.ensures) _ (c.from-2.ensures ∙ flag-is _)

pub returns : goal.returns
returns c =
    put-block-line _ _ _ _ c.requires _ _ (rw c.from.ensures at c.put_field-behind_number.ensures) _ (c.from-2.ensures ∙ flag-is _) _ _ c.put_field.ensures
