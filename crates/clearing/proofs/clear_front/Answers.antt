-- `clearing::clear_front` meets its contract: the front is the result, or the refusal is the book's own. Assumes nothing.
use Prim.Native.Nat.{◌≤◌}
use mathlib.Core.Path.{◌≡◌}
use native.Mathlib.Omega.{arith}
use Rattle.std.proofs.lemmas.Result.{err_from_is_err_and}
use Rattle.records.specs.Records.{record_count}
use Rattle.clearing.proofs.FrontLaws.{front-refused, front-accepted, front-fits, front-is}
use Rattle.clearing.proofs.clear_front.Goals as goal

pub returns-in_err-clear : goal.returns-in_err-clear
returns-in_err-clear c =
    let up = err_from_is_err_and c.from_residual.result c.from_residual.ensures.1 in
    let few : c.from.result ≤ 2048 = omega (arith, c.min-rows.ensures, c.from.ensures) in
    let counts : record_count c.args.book.now ≤ 2048 → c.from.result ≡ record_count c.args.book.now =
    λ h. omega (arith, c.record_count.ensures, c.min-rows.ensures, c.from.ensures) in
    rw (up.1, up.2) (front-refused _ _ _ few counts c.requires _ _ c.in_err-clear.ensures)

pub returns : goal.returns
returns c =
    let few : c.from.result ≤ 2048 = omega (arith, c.min-rows.ensures, c.from.ensures) in
    let counts : record_count c.args.book.now ≤ 2048 → c.from.result ≡ record_count c.args.book.now =
    λ h. omega (arith, c.record_count.ensures, c.min-rows.ensures, c.from.ensures) in (
      front-accepted _ _ _ few counts c.requires _ c.in_ok-clear.ensures,
      front-fits _ _ _ few counts c.requires _ c.in_ok-clear.ensures,
      front-is _ _ _ few counts c.requires _ c.in_ok-clear.ensures,
    )
