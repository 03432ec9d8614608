-- `book::causes::has_wrong_size` meets its contract: the code is the definition. Assumes nothing.
use Rattle.book.specs.Refusals.{wrong_size}
use Rattle.book.proofs.causes.has_wrong_size.Goals as goal

pub returns : goal.returns
unfolding wrong_size
returns c = rw (c.is_within.ensures, c.record_count-count.ensures)
