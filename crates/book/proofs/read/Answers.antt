-- `book::read` meets its contract: the first test, the rest, and none. Assumes nothing.
use mathlib.Core.Path.{refl, sym, ◌∙◌}
use native.Mathlib.Omega.{arith}
use Rattle.std.proofs.lemmas.Result.{err_from_is_err_and}
use Rattle.book.specs.Numbers.{refusal_numbered}
use Rattle.book.specs.Answers.{reading}
use Rattle.book.proofs.Refused.{all-left, passed, stopped, steps-counted, blocks-counted, answer-none, answer-some, answered-none, answered_some}
use Rattle.book.proofs.read.Goals as goal

pub returns-in_err-refuse : goal.returns-in_err-refuse
unfolding refusal_numbered reading
returns-in_err-refuse c =
    let up = err_from_is_err_and c.from_residual.result c.from_residual.ensures.1 in
    rw (up.1, up.2) (stopped _ _ (all-left _) c.has_wrong_size.ensures refl (omega arith) c.in_err-refuse.ensures)

pub refuse_for_rest-requires : goal.refuse_for_rest-requires
refuse_for_rest-requires c =
    (sym c.has_wrong_size.ensures ∙ passed _ _ c.in_ok-refuse.ensures, c.survey_of-steps.ensures, c.survey_of-blocks.ensures, c.survey_of-links.ensures)

pub returns-in_err-refuse_for_rest : goal.returns-in_err-refuse_for_rest
unfolding reading
returns-in_err-refuse_for_rest c =
    let up = err_from_is_err_and c.from_residual-in_err-refuse_for_rest.result c.from_residual-in_err-refuse_for_rest.ensures.1 in
    let refused = answer-some _ _ _ (sym c.in_err-refuse_for_rest.ensures) in
    rw (up.1, up.2, refused.1) (sym (answered_some _ _ refused.0))

pub returns : goal.returns
unfolding reading
returns c =
    let none = answer-none _ _ _ (sym c.in_ok-refuse_for_rest.ensures) in
    rw (answered-none _ _ none.0, steps-counted _ _ c.survey_of-steps.ensures, blocks-counted _ _ c.survey_of-blocks.ensures)
