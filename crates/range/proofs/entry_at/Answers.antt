-- `range::entry_at` meets its contract: each field is read at its bytes. Assumes nothing.
use Rattle.range.specs.Range.{entry_at}
use Rattle.range.proofs.entry_at.Goals as goal

pub returns : goal.returns
unfolding entry_at
returns c = rw (c.u32_at.ensures, c.u32_at-2.ensures, c.u32_at-3.ensures, c.u32_at-4.ensures)
