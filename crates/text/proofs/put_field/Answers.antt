-- `put_field` meets its contract. Assumes nothing.
use Rattle.std.proofs.Common.{refl, arith}
use Rattle.text.specs.Text.{field}
use Rattle.text.proofs.TextLaws.{room-first, room-byte, put_byte}
use Rattle.text.proofs.put_field.Goals as goal

pub put_decimal-behind-requires : goal.put_decimal-behind-requires
unfolding field
put_decimal-behind-requires c = room-first _ _ _ _ c.requires

pub bounds-out-behind : goal.bounds-out-behind
unfolding field
bounds-out-behind c = room-byte _ _ _ _ c.requires _ _ c.put_decimal-behind.ensures _ refl

pub overflow_add-result : goal.overflow_add-result
unfolding field
overflow_add-result c = omega (arith, room-byte _ _ _ _ c.requires _ _ c.put_decimal-behind.ensures _ refl)

pub returns : goal.returns
unfolding field
returns c = put_byte _ _ _ _ c.requires _ _ c.put_decimal-behind.ensures _ refl
