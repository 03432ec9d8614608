-- the first h hours clear, and their gaps are added up
use Rattle.places.proofs.CellLaws.{GapsTo}
use Rattle.places.proofs.cells.gaps_at.Given as goal

abbrev pub invariant-loop-h : goal.invariant-loop-h
invariant-loop-h l = GapsTo l.gap l.first l.last l.places l.h l.sum
