-- `orders::parents::parents_of` meets its contract: zeros without links, else the places of the blocks passed and then zeros. Assumes nothing.
use Rattle.std.proofs.Common.{sym, ◌∙◌, arith}
use Rattle.orders.proofs.ColumnLaws.{filled_next}
use Rattle.orders.proofs.LinkLaws.{parents-none, parents-filled}
use Rattle.orders.proofs.parents.parents_of.Goals as goal

pub returns-then-first_link-eq0 : goal.returns-then-first_link-eq0
returns-then-first_link-eq0 c = parents-none _ (sym c.first_link.ensures ∙ c.if-first_link-eq0.true)

pub loop-i-preserved : goal.loop-i-preserved
loop-i-preserved c =
    let v = c.loop-i in
    filled_next 32 _ _ v.i v.parents _ c.loop-i-test.true (omega (arith, c.follow-records.ensures.few)) c.parent_place.ensures v.invariant

pub returns : goal.returns
returns c =
    let v = c.loop-i in
    parents-filled _ _ v.i _ v.parents c.first_block.ensures (omega arith) c.follow-records.ensures.taken v.invariant
