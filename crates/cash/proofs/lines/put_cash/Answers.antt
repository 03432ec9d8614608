-- `put_cash` meets its contract: four fields. Assumes nothing.
use Rattle.cash.specs.Lines.{cash_at}
use Rattle.cash.proofs.LineLaws.{room-bought, room-sold, room-paid, room-received, put-fields}
use Rattle.cash.proofs.lines.put_cash.Goals as goal

pub put_field-behind_bought-requires : goal.put_field-behind_bought-requires
unfolding cash_at
put_field-behind_bought-requires c =
    rw c.number_in.ensures (room-bought _ _ (cash_at c.args.accounts.now c.args.p) c.requires.1)

pub put_field-behind_sold-requires : goal.put_field-behind_sold-requires
unfolding cash_at
put_field-behind_sold-requires c =
    rw c.number_in-2.ensures (room-sold _ _ (cash_at c.args.accounts.now c.args.p) c.requires.1 _ _ (rw c.number_in.ensures at c.put_field-behind_bought.ensures))

pub put_field-behind_paid-requires : goal.put_field-behind_paid-requires
unfolding cash_at
put_field-behind_paid-requires c =
    rw c.number_in-3.ensures (room-paid _ _ (cash_at c.args.accounts.now c.args.p) c.requires.1 _ _ (rw c.number_in.ensures at c.put_field-behind_bought.ensures) _ _ (rw c.number_in-2.ensures at c.put_field-behind_sold.ensures))

pub put_field-requires : goal.put_field-requires
unfolding cash_at
put_field-requires c =
    rw c.number_in-4.ensures
    (room-received _ _ (cash_at c.args.accounts.now c.args.p) c.requires.1 _ _ (rw c.number_in.ensures at c.put_field-behind_bought.ensures) _ _ (rw c.number_in-2.ensures at c.put_field-behind_sold.ensures) _ _
    (rw c.number_in-3.ensures at c.put_field-behind_paid.ensures))

pub returns : goal.returns
unfolding cash_at
returns c =
    put-fields _ _ (cash_at c.args.accounts.now c.args.p) c.requires.1 _ _ (rw c.number_in.ensures at c.put_field-behind_bought.ensures) _ _ (rw c.number_in-2.ensures at c.put_field-behind_sold.ensures) _ _
    (rw c.number_in-3.ensures at c.put_field-behind_paid.ensures) _ _ (rw c.number_in-4.ensures at c.put_field.ensures)
