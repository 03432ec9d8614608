-- `put_family` meets its contract: two fields, one after the other. Assumes nothing.
use Rattle.families.proofs.LineLaws.{room-number, room-gain, put-family-line}
use Rattle.families.proofs.lines.put_family.Goals as goal

pub put_field-behind_number-requires : goal.put_field-behind_number-requires
put_field-behind_number-requires c = rw c.from.ensures (room-number _ _ _ _ c.requires)

pub put_field-requires : goal.put_field-requires
put_field-requires c = room-gain _ _ _ _ c.requires _ _ (rw c.from.ensures at c.put_field-behind_number.ensures)

pub returns : goal.returns
returns c = put-family-line _ _ _ _ c.requires _ _ (rw c.from.ensures at c.put_field-behind_number.ensures) _ _ c.put_field.ensures
