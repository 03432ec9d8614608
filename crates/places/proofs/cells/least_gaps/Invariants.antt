-- the least gaps of the hours before this one
use Rattle.places.proofs.CellLaws.{LeastTo}
use Rattle.places.proofs.cells.least_gaps.Given as goal

abbrev pub invariant-loop-h : goal.invariant-loop-h
invariant-loop-h l = LeastTo l.gap l.turn l.from l.to l.h l.sum
