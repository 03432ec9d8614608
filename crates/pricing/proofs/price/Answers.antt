-- `pricing::price` meets its contract: the book's refusal, then 8, then the hour's answer. Assumes nothing.
use mathlib.Core.Path.{sym, ap, ◌∙◌}
use native.Mathlib.Omega.{arith}
use Rattle.std.specs.Prelude.{Ok}
use Rattle.std.proofs.lemmas.Result.{err_from_is_err_and}
use Rattle.book.proofs.Refused.{passed, stops}
use Rattle.pricing.proofs.CallLaws.{call-refused, call-wrong, call-answered, hour-answered, call-bounds, tested-is}
use Rattle.pricing.proofs.price.Goals as goal

pub returns-in_err-counted : goal.returns-in_err-counted
returns-in_err-counted c =
    let up = err_from_is_err_and c.from_residual.result c.from_residual.ensures.1 in
    rw (up.1, up.2) (sym (call-refused _ _ _ _ (sym c.in_err-counted.ensures)))

pub returns-in_err-refuse : goal.returns-in_err-refuse
returns-in_err-refuse c =
    let up = err_from_is_err_and c.from_residual-in_err-refuse.result c.from_residual-in_err-refuse.ensures.1 in
    let t = tested-is _ _ _ _ c.in_ok-counted.ensures _ _ _ _ c.day_hours.ensures c.has_hour.ensures c.from.ensures c.names_absent.ensures in
    let refused = stops _ _ _ c.in_err-refuse.ensures in
    rw (up.1, up.2, refused.1) (sym (call-wrong _ t.0 _ _ (sym t.1 ∙ refused.0)))

pub net_in-requires : goal.net_in-requires
net_in-requires c =
    let t = tested-is _ _ _ _ c.in_ok-counted.ensures _ _ _ _ c.day_hours.ensures c.has_hour.ensures c.from.ensures c.names_absent.ensures in
    let e = call-bounds _ t.0 _ _ (sym t.1 ∙ passed _ _ c.in_ok-refuse.ensures) in
    (t.0, e.0, e.1)

pub answer_in-requires : goal.answer_in-requires
answer_in-requires c =
    let t = tested-is _ _ _ _ c.in_ok-counted.ensures _ _ _ _ c.day_hours.ensures c.has_hour.ensures c.from.ensures c.names_absent.ensures in
    let e = call-bounds _ t.0 _ _ (sym t.1 ∙ passed _ _ c.in_ok-refuse.ensures) in
    (t.0, omega (arith, e.0), omega (arith, e.1))

pub returns : goal.returns
returns c =
    let t = tested-is _ _ _ _ c.in_ok-counted.ensures _ _ _ _ c.day_hours.ensures c.has_hour.ensures c.from.ensures c.names_absent.ensures in
    let right = sym t.1 ∙ passed _ _ c.in_ok-refuse.ensures in
    ap Ok (c.answer_in.ensures ∙ hour-answered _ _ _ _ c.net_in.ensures) ∙ sym (call-answered _ t.0 _ _ right)
