-- `clearing::clear` meets its promise: the book's refusal, then 7, then the result. Assumes nothing.
use native.Mathlib.Omega.{arith}
use mathlib.Core.Path.{refl, sym, ◌∙◌}
use borrow.Author.Tests.{eqb-true, eqb-false, not-true, not-false}
use Rattle.std.proofs.lemmas.Result.{err_from_is_err_and}
use Rattle.book.proofs.Accepted.{accepted}
use Rattle.book.proofs.Refused.{answer-accepted, passed, stops}
use Rattle.result.proofs.PromiseLaws.{promise-refused-book, promise-refused-buffer, promise-published}
use Rattle.clearing.proofs.clear.Goals as goal

pub returns-in_err-read : goal.returns-in_err-read
returns-in_err-read c =
    let up = err_from_is_err_and c.from_residual.result c.from_residual.ensures.1 in
    rw (up.1, up.2) (promise-refused-book _ _ _ _ (sym c.in_err-read.ensures) refl)

pub returns-in_err-refuse : goal.returns-in_err-refuse
returns-in_err-refuse c =
    let up = err_from_is_err_and c.from_residual-in_err-refuse.result c.from_residual-in_err-refuse.ensures.1 in
    let a = accepted _ (answer-accepted _ _ (sym c.in_ok-read.ensures)).0 in
    let refused = stops _ _ _ c.in_err-refuse.ensures in
    rw (up.1, up.2, refused.1)
    (promise-refused-buffer _ _ _ a (λ e. eqb-false _ _ (not-true _ refused.0) (omega (arith, e, c.record_count.ensures))) refl)

pub clear_accepted-requires : goal.clear_accepted-requires
clear_accepted-requires c = (
  accepted _ (answer-accepted _ _ (sym c.in_ok-read.ensures)).0,
  omega (arith, eqb-true _ _ (not-false _ (passed _ _ c.in_ok-refuse.ensures)), c.record_count.ensures),
)

pub returns : goal.returns
returns c =
    promise-published _ _ _ (accepted _ (answer-accepted _ _ (sym c.in_ok-read.ensures)).0)
    (omega (arith, eqb-true _ _ (not-false _ (passed _ _ c.in_ok-refuse.ensures)), c.record_count.ensures)) c.clear_accepted.ensures
