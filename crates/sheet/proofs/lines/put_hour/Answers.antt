-- `put_hour` meets its contract: three fields, one after another. Assumes nothing.
use Rattle.sheet.proofs.LineLaws.{room-hour, room-price, room-traded, put-hour-line}
use Rattle.sheet.proofs.lines.put_hour.Goals as goal

pub put_field-behind_hour-requires : goal.put_field-behind_hour-requires
put_field-behind_hour-requires c = rw c.from.ensures (room-hour _ _ _ _ _ c.requires)

pub put_field-behind_price-requires : goal.put_field-behind_price-requires
put_field-behind_price-requires c =
    rw c.from-2.ensures (room-price _ _ _ _ _ c.requires _ _ (rw c.from.ensures at c.put_field-behind_hour.ensures))

pub put_field-requires : goal.put_field-requires
put_field-requires c =
    rw c.from-3.ensures
    (room-traded _ _ _ _ _ c.requires _ _ (rw c.from.ensures at c.put_field-behind_hour.ensures) _ _
    (rw c.from-2.ensures at c.put_field-behind_price.ensures))

pub returns : goal.returns
returns c =
    put-hour-line _ _ _ _ _ c.requires _ _ (rw c.from.ensures at c.put_field-behind_hour.ensures) _ _
    (rw c.from-2.ensures at c.put_field-behind_price.ensures) _ _ (rw c.from-3.ensures at c.put_field.ensures)
