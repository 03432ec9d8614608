-- the hours before this one have the row added
use Rattle.places.proofs.AddedLaws.{RowTo}
use Rattle.places.proofs.added.moved_where.Given as goal

abbrev pub invariant-loop-h : goal.invariant-loop-h
invariant-loop-h l = RowTo l.initial.r l.blocks l.i l.times l.h l.r
