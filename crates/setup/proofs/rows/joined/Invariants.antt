-- the hours before h stand in the three columns
use Rattle.std.proofs.Common.{cond}
use Rattle.rules.specs.Day.{gives_way}
use Rattle.setup.proofs.SetupTwinLaws.{JoinedTo}
use Rattle.setup.proofs.rows.joined.Given as goal

abbrev pub invariant-loop-h : goal.invariant-loop-h
invariant-loop-h l = JoinedTo l.first l.last l.turn l.often (cond (gives_way l.edition) 1 0) l.h l.r
