-- `put_refusal` meets its contract: the refusal's number on its line. Assumes nothing.
use Rattle.text.specs.Text.{text}
use Rattle.sheet.specs.Sheet.{refused_line}
use Rattle.sheet.proofs.put_refusal.Goals as goal

pub put_line-requires : goal.put_line-requires
unfolding refused_line text
put_line-requires c = rw (c.from-2.ensures, c.from.ensures) c.requires

pub returns : goal.returns
unfolding refused_line text
returns c = rw (c.from-2.ensures, c.from.ensures) at c.put_line.ensures
