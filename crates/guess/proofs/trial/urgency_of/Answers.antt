-- `guess::trial::urgency_of` meets its contract: nothing where the block is not taken or misses nothing. Assumes nothing.
use borrow.Author.Tests.{ne_eqb}
use Rattle.guess.specs.Urgency.{urgency_in}
use Rattle.guess.proofs.trial.urgency_of.Goals as goal

pub returns-then-not-taken : goal.returns-then-not-taken
unfolding urgency_in
returns-then-not-taken c = rw c.if-not-taken.true

pub returns-then-miss-eq0 : goal.returns-then-miss-eq0
unfolding urgency_in
returns-then-miss-eq0 c = rw (c.if-not-taken.false, ← c.miss_of-miss.ensures, c.if-miss-eq0.true)

pub returns : goal.returns
unfolding urgency_in
returns c =
    rw (c.if-not-taken.false, ← c.miss_of-miss.ensures, ne_eqb _ 0 c.if-miss-eq0.false, ← c.size_of.ensures) c.urgency.ensures
