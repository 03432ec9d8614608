-- `setup::may_exchange` meets its contract: two tests, the second of them by who is ahead. Assumes nothing.
use Rattle.std.proofs.Common.{refl}
use Rattle.rules.proofs.Tests.{clash}
use Rattle.setup.proofs.twins.may_exchange.Goals as goal

pub returns-then-not-are_twins : goal.returns-then-not-are_twins
returns-then-not-are_twins c e = clash e refl

pub returns-then-ahead : goal.returns-then-ahead
returns-then-ahead c e = rw c.if-ahead.true (c.are_twins.ensures c.if-not-are_twins.false, c.may_stand_in.ensures e)

pub returns-else-ahead : goal.returns-else-ahead
returns-else-ahead c e = rw c.if-ahead.false (c.are_twins.ensures c.if-not-are_twins.false, c.may_stand_in-else-ahead.ensures e)
