-- `families` meets its contract: the report out of the result, or the line of the refusal. Assumes nothing.
use mathlib.Core.Path.{◌≡◌, sym}
use native.Mathlib.Omega.{arith}
use lib.ListN.{length}
use borrow.Author.Rules.{rules}
use Rattle.family_sheet.proofs.FamilySheetLaws.{refused-has-room, refusal-put, put-short}
use Rattle.family_sheet.proofs.families.Goals as goal

pub put_report-requires : goal.put_report-requires
put_report-requires c =
    let room : length c.args.out.now ≡ 587 = search rules in
    ((c.in-Ok.ensures.0, c.in-Ok.ensures.2), omega arith)

pub put_refusal-requires : goal.put_refusal-requires
put_refusal-requires c =
    let room : length c.args.out.now ≡ 587 = search rules in
    refused-has-room _ _ room

pub returns-in-Ok : goal.returns-in-Ok
returns-in-Ok c =
    record { put = c.put_report.ensures; fits = put-short _ (λ i. omega (arith, c.type_inv.book i)) _ _ _ c.put_report.ensures }

pub returns-in-Err : goal.returns-in-Err
returns-in-Err c =
    let put = refusal-put _ _ (sym c.in-Err.ensures) _ _ _ c.put_refusal.ensures in
    record { put = put; fits = put-short _ (λ i. omega (arith, c.type_inv.book i)) _ _ _ put }
