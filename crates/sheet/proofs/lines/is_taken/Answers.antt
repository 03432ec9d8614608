-- `is_taken` meets its contract. Assumes nothing.
use Rattle.sheet.specs.Lines.{taken_at}
use Rattle.sheet.proofs.lines.is_taken.Goals as goal

pub returns : goal.returns
unfolding taken_at
returns c = rw (c.row_in.ensures, c.from.ensures, c.block_quantity.ensures)
