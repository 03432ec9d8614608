-- the hours before this one have the row added to either list
use Rattle.places.proofs.AddedLaws.{RowTo}
use Rattle.places.proofs.reach.with_moves.Given as goal

abbrev pub invariant-loop-h : goal.invariant-loop-h
invariant-loop-h l = RowTo l.initial.more l.blocks l.i l.must l.h l.more × RowTo l.initial.freer l.blocks l.i l.may l.h l.freer
