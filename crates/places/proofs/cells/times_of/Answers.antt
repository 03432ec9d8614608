-- `places::cells::times_of` meets its contract: by the row. Assumes nothing.
use Rattle.std.proofs.Common.{◌+◌, arith}
use borrow.Author.Tests.{eq-eqb, ne_eqb}
use Rattle.rules.specs.Day.{change_hour}
use Rattle.places.proofs.cells.times_of.Goals as goal

pub returns-then-row-eq-CHANGE_ROW : goal.returns-then-row-eq-CHANGE_ROW
returns-then-row-eq-CHANGE_ROW c = (rw (c.from.ensures, eq-eqb (c.args.row + 1) change_hour (omega arith)), omega (arith, c.from.ensures, c.requires))

pub returns-else-row-eq-CHANGE_ROW : goal.returns-else-row-eq-CHANGE_ROW
returns-else-row-eq-CHANGE_ROW c = (rw (ne_eqb (c.args.row + 1) change_hour (λ e. c.if-row-eq-CHANGE_ROW.false (omega arith))), omega arith)
