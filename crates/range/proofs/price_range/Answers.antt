-- `range::price_range` meets its contract: the list is refused, or the two corners are priced. Assumes nothing.
use mathlib.Core.Path.{◌≡◌, sym, ◌∙◌}
use native.Mathlib.Omega.{arith}
use lib.ListN.{length}
use borrow.Author.Rules.{rules}
use Rattle.std.proofs.lemmas.Result.{err_from_is_err_and}
use Rattle.book.proofs.Refused.{passed, stops}
use Rattle.range.proofs.RangeLaws.{refused-size, refused-field, entries-few, columns-front, range-answered}
use Rattle.range.proofs.price_range.Goals as goal

pub returns-in_err-refuse : goal.returns-in_err-refuse
returns-in_err-refuse c =
    let up = err_from_is_err_and c.from_residual.result c.from_residual.ensures.1 in
    let refused = stops _ _ _ c.in_err-refuse.ensures in
    rw (up.1, up.2, refused.1) (sym (refused-size _ (sym c.has_wrong_size.ensures ∙ refused.0)))

pub entries_of-requires : goal.entries_of-requires
entries_of-requires c = entries-few _ (sym c.has_wrong_size.ensures ∙ passed _ _ c.in_ok-refuse.ensures)

pub returns-in_default : goal.returns-in_default
returns-in_default c = sym (refused-field _ (sym c.has_wrong_size.ensures ∙ passed _ _ c.in_ok-refuse.ensures) c.in_default.ensures)

pub shared_ref_as_front-sides : goal.shared_ref_as_front-sides
shared_ref_as_front-sides c = entries-few _ (sym c.has_wrong_size.ensures ∙ passed _ _ c.in_ok-refuse.ensures)

pub returns : goal.returns
returns c =
    range-answered _ _ _ _ _ (sym c.has_wrong_size.ensures ∙ passed _ _ c.in_ok-refuse.ensures) c.in-Some.ensures _ _ c.price_of-least.ensures
    c.price_of-greatest.ensures
