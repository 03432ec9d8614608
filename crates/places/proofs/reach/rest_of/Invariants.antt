-- the blocks from number i on are added
use Rattle.places.proofs.ReachLaws.{RestTo}
use Rattle.places.proofs.reach.rest_of.Given as goal

abbrev pub invariant-loop-i : goal.invariant-loop-i
invariant-loop-i l = RestTo l.blocks l.count l.at l.out l.loss l.limit l.initial.rest.least l.i l.rest.least l.rest.free
