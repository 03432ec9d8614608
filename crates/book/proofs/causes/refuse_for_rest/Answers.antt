-- `book::causes::refuse_for_rest` meets its contract: each test that refuses gives the book's refusal, as those before it hold not. Assumes nothing.
use mathlib.Core.Path.{◌≡◌, refl, sym, ◌∙◌}
use mathlib.Core.Bool.{false}
use native.Mathlib.Omega.{arith}
use Rattle.std.proofs.lemmas.Result.{err_from_is_err_and}
use Rattle.chains.specs.Causes.{broken_chain}
use Rattle.book.specs.Numbers.{refusal_numbered}
use Rattle.book.proofs.Refused.{Left, without-size, next, passed, stopped, broken-found, field_found, stray-found, many-found, steps-long, ends}
use Rattle.book.proofs.causes.refuse_for_rest.Goals as goal

pub returns-in_err-refuse : goal.returns-in_err-refuse
unfolding refusal_numbered
returns-in_err-refuse c =
    let b = c.args.book.now in
    let pre = c.requires in
    let two = without-size b pre.0 in
    let up = err_from_is_err_and c.from_residual.result c.from_residual.ensures.1 in
    rw (up.1, up.2) (stopped _ _ two c.has_wrong_head.ensures refl (omega arith) c.in_err-refuse.ensures)

pub returns-in_err-refuse-2 : goal.returns-in_err-refuse-2
unfolding refusal_numbered
returns-in_err-refuse-2 c =
    let b = c.args.book.now in
    let pre = c.requires in
    let two = without-size b pre.0 in
    let three = next _ two c.has_wrong_head.ensures c.in_ok-refuse.ensures in
    let up = err_from_is_err_and c.from_residual-in_err-refuse-2.result c.from_residual-in_err-refuse-2.ensures.1 in
    rw (up.1, up.2) (stopped _ _ three (broken-found b _ _ _ pre.1 pre.2 pre.3) refl (omega arith) c.in_err-refuse-2.ensures)

pub returns-in_err-refuse-3 : goal.returns-in_err-refuse-3
unfolding refusal_numbered
returns-in_err-refuse-3 c =
    let b = c.args.book.now in
    let pre = c.requires in
    let two = without-size b pre.0 in
    let three = next _ two c.has_wrong_head.ensures c.in_ok-refuse.ensures in
    let four = next _ three (broken-found b _ _ _ pre.1 pre.2 pre.3) c.in_ok-refuse-2.ensures in
    let up = err_from_is_err_and c.from_residual-in_err-refuse-3.result c.from_residual-in_err-refuse-3.ensures.1 in
    rw (up.1, up.2) (stopped _ _ four (field_found b _ _ _ pre.1 pre.2 pre.3) refl (omega arith) c.in_err-refuse-3.ensures)

pub returns-in_err-refuse-4 : goal.returns-in_err-refuse-4
unfolding refusal_numbered
returns-in_err-refuse-4 c =
    let b = c.args.book.now in
    let pre = c.requires in
    let two = without-size b pre.0 in
    let three = next _ two c.has_wrong_head.ensures c.in_ok-refuse.ensures in
    let four = next _ three (broken-found b _ _ _ pre.1 pre.2 pre.3) c.in_ok-refuse-2.ensures in
    let five = next _ four (field_found b _ _ _ pre.1 pre.2 pre.3) c.in_ok-refuse-3.ensures in
    let unbroken : broken_chain b ≡ false = sym (broken-found b _ _ _ pre.1 pre.2 pre.3) ∙ passed _ _ c.in_ok-refuse-2.ensures in
    let up = err_from_is_err_and c.from_residual-in_err-refuse-4.result c.from_residual-in_err-refuse-4.ensures.1 in
    rw (up.1, up.2) (stopped _ _ five (stray-found b _ _ _ _ _ pre.1 pre.2 pre.3 c.record_count-count.ensures c.are_short-is_short.ensures pre.0 unbroken) refl (omega arith) c.in_err-refuse-4.ensures)

pub returns-in_err-refuse-5 : goal.returns-in_err-refuse-5
unfolding refusal_numbered
returns-in_err-refuse-5 c =
    let b = c.args.book.now in
    let pre = c.requires in
    let two = without-size b pre.0 in
    let three = next _ two c.has_wrong_head.ensures c.in_ok-refuse.ensures in
    let four = next _ three (broken-found b _ _ _ pre.1 pre.2 pre.3) c.in_ok-refuse-2.ensures in
    let five = next _ four (field_found b _ _ _ pre.1 pre.2 pre.3) c.in_ok-refuse-3.ensures in
    let unbroken : broken_chain b ≡ false = sym (broken-found b _ _ _ pre.1 pre.2 pre.3) ∙ passed _ _ c.in_ok-refuse-2.ensures in
    let six = next _ five (stray-found b _ _ _ _ _ pre.1 pre.2 pre.3 c.record_count-count.ensures c.are_short-is_short.ensures pre.0 unbroken) c.in_ok-refuse-4.ensures in
    let up = err_from_is_err_and c.from_residual-in_err-refuse-5.result c.from_residual-in_err-refuse-5.ensures.1 in
    rw (up.1, up.2) (stopped _ _ six (many-found b _ _ pre.2 c.has_crowded_portfolio.ensures) refl (omega arith) c.in_err-refuse-5.ensures)

pub returns-in_err-refuse-6 : goal.returns-in_err-refuse-6
unfolding refusal_numbered
returns-in_err-refuse-6 c =
    let b = c.args.book.now in
    let pre = c.requires in
    let two = without-size b pre.0 in
    let three = next _ two c.has_wrong_head.ensures c.in_ok-refuse.ensures in
    let four = next _ three (broken-found b _ _ _ pre.1 pre.2 pre.3) c.in_ok-refuse-2.ensures in
    let five = next _ four (field_found b _ _ _ pre.1 pre.2 pre.3) c.in_ok-refuse-3.ensures in
    let unbroken : broken_chain b ≡ false = sym (broken-found b _ _ _ pre.1 pre.2 pre.3) ∙ passed _ _ c.in_ok-refuse-2.ensures in
    let six = next _ five (stray-found b _ _ _ _ _ pre.1 pre.2 pre.3 c.record_count-count.ensures c.are_short-is_short.ensures pre.0 unbroken) c.in_ok-refuse-4.ensures in
    let nine = next _ six (many-found b _ _ pre.2 c.has_crowded_portfolio.ensures) c.in_ok-refuse-5.ensures in
    let up = err_from_is_err_and c.from_residual-in_err-refuse-6.result c.from_residual-in_err-refuse-6.ensures.1 in
    rw (up.1, up.2) (stopped _ _ nine c.has_wrong_hours.ensures refl (omega arith) c.in_err-refuse-6.ensures)

pub returns-in_err-refuse-7 : goal.returns-in_err-refuse-7
unfolding refusal_numbered
returns-in_err-refuse-7 c =
    let b = c.args.book.now in
    let pre = c.requires in
    let two = without-size b pre.0 in
    let three = next _ two c.has_wrong_head.ensures c.in_ok-refuse.ensures in
    let four = next _ three (broken-found b _ _ _ pre.1 pre.2 pre.3) c.in_ok-refuse-2.ensures in
    let five = next _ four (field_found b _ _ _ pre.1 pre.2 pre.3) c.in_ok-refuse-3.ensures in
    let unbroken : broken_chain b ≡ false = sym (broken-found b _ _ _ pre.1 pre.2 pre.3) ∙ passed _ _ c.in_ok-refuse-2.ensures in
    let six = next _ five (stray-found b _ _ _ _ _ pre.1 pre.2 pre.3 c.record_count-count.ensures c.are_short-is_short.ensures pre.0 unbroken) c.in_ok-refuse-4.ensures in
    let nine = next _ six (many-found b _ _ pre.2 c.has_crowded_portfolio.ensures) c.in_ok-refuse-5.ensures in
    let ten = next _ nine c.has_wrong_hours.ensures c.in_ok-refuse-6.ensures in
    let up = err_from_is_err_and c.from_residual-in_err-refuse-7.result c.from_residual-in_err-refuse-7.ensures.1 in
    rw (up.1, up.2) (stopped _ _ ten c.has_wrong_link.ensures refl (omega arith) c.in_err-refuse-7.ensures)

pub has_too_many_steps-requires : goal.has_too_many_steps-requires
has_too_many_steps-requires c = steps-long _ _ c.requires.1

pub returns : goal.returns
unfolding refusal_numbered
returns c =
    let b = c.args.book.now in
    let pre = c.requires in
    let two = without-size b pre.0 in
    let three = next _ two c.has_wrong_head.ensures c.in_ok-refuse.ensures in
    let four = next _ three (broken-found b _ _ _ pre.1 pre.2 pre.3) c.in_ok-refuse-2.ensures in
    let five = next _ four (field_found b _ _ _ pre.1 pre.2 pre.3) c.in_ok-refuse-3.ensures in
    let unbroken : broken_chain b ≡ false = sym (broken-found b _ _ _ pre.1 pre.2 pre.3) ∙ passed _ _ c.in_ok-refuse-2.ensures in
    let six = next _ five (stray-found b _ _ _ _ _ pre.1 pre.2 pre.3 c.record_count-count.ensures c.are_short-is_short.ensures pre.0 unbroken) c.in_ok-refuse-4.ensures in
    let nine = next _ six (many-found b _ _ pre.2 c.has_crowded_portfolio.ensures) c.in_ok-refuse-5.ensures in
    let ten = next _ nine c.has_wrong_hours.ensures c.in_ok-refuse-6.ensures in
    let eleven = next _ ten c.has_wrong_link.ensures c.in_ok-refuse-7.ensures in
    ends _ eleven c.has_too_many_steps.ensures refl (omega arith) c.refuse-8.ensures
