-- `guess::trial::urgency` meets its contract: one rule after another. Assumes nothing.
use Rattle.guess.specs.Urgency.{urgency_by}
use Rattle.guess.proofs.trial.urgency.Goals as goal

pub returns-in-ByMiss : goal.returns-in-ByMiss
unfolding urgency_by
returns-in-ByMiss c = rw c.in-ByMiss.is

pub returns-in-ByGain : goal.returns-in-ByGain
unfolding urgency_by
returns-in-ByGain c = rw c.in-ByGain.is

pub returns-in-BySmallness : goal.returns-in-BySmallness
unfolding urgency_by
returns-in-BySmallness c = rw c.in-BySmallness.is

pub returns-in-BySize : goal.returns-in-BySize
unfolding urgency_by
returns-in-BySize c = rw c.in-BySize.is
