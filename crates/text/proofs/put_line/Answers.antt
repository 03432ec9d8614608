-- `put_line` meets its contract. Assumes nothing.
use Rattle.text.proofs.TextLaws.{room-first, room-then, put_then}
use Rattle.text.proofs.put_line.Goals as goal

pub put_text-behind_words-requires : goal.put_text-behind_words-requires
put_text-behind_words-requires c = room-first _ _ _ _ c.requires

pub put_field-requires : goal.put_field-requires
put_field-requires c = room-then _ _ _ _ c.requires _ _ c.put_text-behind_words.ensures

pub returns : goal.returns
returns c = put_then _ _ _ _ c.requires _ _ c.put_text-behind_words.ensures _ _ c.put_field.ensures
