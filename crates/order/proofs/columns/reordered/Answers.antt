-- `order::columns::reordered` meets its contract. Assumes nothing.
use native.Mathlib.Omega.{arith}
use Rattle.order.proofs.ColumnLaws.{reordered-sized, reordered-is, reordered-words}
use Rattle.order.proofs.columns.reordered.Goals as goal

pub returns : goal.returns
returns c =
    let pre = c.requires in
    let copied = c.columns_in-columns.ensures in
    let linked = c.with_links-linked.ensures in
    let rows = c.with_rows.ensures in (
      reordered-sized _ _ _ _ _ _ _ pre.0 pre.1 pre.2 copied linked rows,
      reordered-is _ _ _ _ _ _ _ pre.0 pre.1 pre.2 copied linked rows,
      reordered-words _ _ _ _ _ _ _ pre.0 pre.1 pre.2 copied linked rows (λ k. omega (arith, c.type_inv.blocks k)),
    )
