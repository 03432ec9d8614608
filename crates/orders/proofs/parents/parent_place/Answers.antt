-- `orders::parents::parent_place` meets its contract, by whether there is a parent. Assumes nothing.
use Rattle.std.proofs.Common.{eq-eqb, ne_eqb}
use Rattle.orders.specs.Columns.{parent_place_in, parent_place_at}
use Rattle.orders.proofs.parents.parent_place.Goals as goal

pub returns-then-parent-eq0 : goal.returns-then-parent-eq0
unfolding parent_place_at parent_place_in
returns-then-parent-eq0 c = rw (← c.number_of.ensures, ← c.parent_of-parent.ensures, eq-eqb _ _ c.if-parent-eq0.true)

pub returns : goal.returns
unfolding parent_place_at parent_place_in
returns c = rw (← c.number_of.ensures, ← c.parent_of-parent.ensures, ne_eqb _ _ c.if-parent-eq0.false) c.place_of.ensures
