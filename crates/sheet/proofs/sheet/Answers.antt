-- `sheet` meets its contract: the lines of the result, or the line of the refusal. Assumes nothing.
use mathlib.Core.Path.{◌≡◌, sym}
use native.Mathlib.Omega.{arith}
use lib.ListN.{length}
use borrow.Author.Rules.{rules}
use Rattle.sheet.proofs.SheetLaws.{lines-room, lines-put, refused-room, refusal-put, put-short}
use Rattle.sheet.proofs.sheet.Goals as goal

pub put_lines-requires : goal.put_lines-requires
put_lines-requires c =
    let room : length c.args.out.now ≡ 781 = search rules in
    lines-room _ _ c.in-Ok.ensures.0 c.in-Ok.ensures.2 (λ i. omega (arith, c.type_inv.book i)) _ (omega arith)

pub put_refusal-requires : goal.put_refusal-requires
put_refusal-requires c =
    let room : length c.args.out.now ≡ 781 = search rules in
    refused-room _ _ room

pub returns-in-Ok : goal.returns-in-Ok
returns-in-Ok c =
    let put = lines-put _ _ c.in-Ok.ensures.0 c.in-Ok.ensures.2 _ _ _ c.put_lines.ensures in
    record { put = put; fits = put-short _ (λ i. omega (arith, c.type_inv.book i)) _ _ _ put }

pub returns-in-Err : goal.returns-in-Err
returns-in-Err c =
    let put = refusal-put _ _ (sym c.in-Err.ensures) _ _ _ c.put_refusal.ensures in
    record { put = put; fits = put-short _ (λ i. omega (arith, c.type_inv.book i)) _ _ _ put }
