-- `book::causes::has_early_links` meets its contract: the code is the definition. Assumes nothing.
use Rattle.book.specs.Refusals.{links_too_early}
use Rattle.book.proofs.causes.has_early_links.Goals as goal

pub returns : goal.returns
unfolding links_too_early
returns c = rw (c.edition_of.ensures, c.first_link.ensures)
