-- `book::causes::has_wrong_head` meets its contract: the code is the definition. Assumes nothing.
use Rattle.book.specs.Refusals.{wrong_head}
use Rattle.book.proofs.causes.has_wrong_head.Goals as goal

pub returns : goal.returns
unfolding wrong_head
returns c =
    rw (
      c.is_nonzero.ensures,
      c.has_early_links.ensures,
      c.is_within-2.ensures,
      c.edition_of.ensures,
      c.is_within.ensures,
      c.day_hours.ensures,
    )
