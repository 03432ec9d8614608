-- `put_portfolio` meets its contract: a line, or none. Assumes nothing.
use mathlib.Core.Path.{sym, ◌∙◌}
use Rattle.cash.proofs.LineLaws.{put-none, line-none, room-number, room-cash, put-line}
use Rattle.cash.proofs.lines.put_portfolio.Goals as goal

pub returns-then-number_in-eq0 : goal.returns-then-number_in-eq0
returns-then-number_in-eq0 c =
    let none = sym c.number_in.ensures ∙ c.if-number_in-eq0.true in
    rw (line-none c.args.accounts.now c.args.p none) (put-none _ _)

pub put_field-behind_number-requires : goal.put_field-behind_number-requires
put_field-behind_number-requires c =
    let some = rw c.number_in.ensures at c.if-number_in-eq0.false in
    room-number c.args.accounts.now c.args.p some _ _ c.requires.1

pub put_cash-requires : goal.put_cash-requires
put_cash-requires c =
    let some = rw c.number_in.ensures at c.if-number_in-eq0.false in
    (c.requires.0, room-cash c.args.accounts.now c.args.p some _ _ c.requires.1 _ _ c.put_field-behind_number.ensures)

pub returns : goal.returns
returns c =
    let some = rw c.number_in.ensures at c.if-number_in-eq0.false in
    put-line c.args.accounts.now c.args.p some _ _ c.requires.1 _ _ c.put_field-behind_number.ensures _ _ c.put_cash.ensures
