-- `put_sheet` meets its contract. Assumes nothing.
use Rattle.cash.proofs.CashSheetLaws.{room-text, text-put}
use Rattle.cash.proofs.put_sheet.Goals as goal

pub put_lines-requires : goal.put_lines-requires
put_lines-requires c =
    let are = rw c.requires.0.1 at c.accounts_of-accounts.ensures in
    (are.size, room-text _ c.requires.0.0 _ are _ c.requires.1)

pub returns : goal.returns
returns c =
    let are = rw c.requires.0.1 at c.accounts_of-accounts.ensures in
    text-put _ c.requires.0.0 _ are _ _ _ c.put_lines.ensures
