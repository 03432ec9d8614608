-- `cash` meets its contract: the sheet out of the result, or the line of the refusal. Assumes nothing.
use mathlib.Core.Path.{◌≡◌}
use native.Mathlib.Omega.{arith}
use lib.ListN.{length}
use borrow.Author.Rules.{rules}
use Rattle.cash.proofs.CashSheetLaws.{refused-has-room, refusal-put, put-short}
use Rattle.cash.proofs.cash.Goals as goal

pub put_sheet-requires : goal.put_sheet-requires
put_sheet-requires c =
    let room : length c.args.out.now ≡ 22564 = search rules in
    ((c.in-Ok.ensures.0, c.in-Ok.ensures.2), omega arith)

pub put_refusal-requires : goal.put_refusal-requires
put_refusal-requires c =
    let room : length c.args.out.now ≡ 22564 = search rules in
    refused-has-room _ _ (omega arith)

pub returns-in-Ok : goal.returns-in-Ok
returns-in-Ok c = record { put = c.put_sheet.ensures; fits = put-short _ _ _ _ c.put_sheet.ensures }

pub returns-in-Err : goal.returns-in-Err
returns-in-Err c =
    let put = refusal-put _ _ c.in-Err.ensures _ _ _ c.put_refusal.ensures in
    record { put = put; fits = put-short _ _ _ _ put }
