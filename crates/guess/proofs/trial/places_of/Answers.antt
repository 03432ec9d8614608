-- `guess::trial::places_of` meets its contract: each block moves the places on by no more than the most that is let. Assumes nothing.
use Rattle.guess.proofs.GuessLaws.{places-moved}
use Rattle.guess.proofs.trial.places_of.Goals as goal

pub loop-i-preserved : goal.loop-i-preserved
loop-i-preserved c =
    places-moved c.args.blocks.now c.loop-i.places c.moved_where-more.result c.loop-i.i _ c.requires.0 c.loop-i.invariant c.moved_where-more.ensures
