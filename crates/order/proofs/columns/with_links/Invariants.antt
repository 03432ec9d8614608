-- the parents, twins and ranks at the places before j stand
use Rattle.order.proofs.ColumnLaws.{LinksTo}
use Rattle.order.proofs.columns.with_links.Given as goal

abbrev pub invariant-loop-j : goal.invariant-loop-j
invariant-loop-j l = LinksTo l.listed.count l.order.blocks l.order.places l.listed.blocks.now l.initial.r l.j l.r
