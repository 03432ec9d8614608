-- `passes::limits::limit_after` meets its contract: the guess is no less than the limit, and no more than a guess comes to. Assumes nothing.
use Rattle.std.proofs.Common.{rules, arith}
use Rattle.passes.proofs.limits.limit_after.Goals as goal

pub returns : goal.returns
returns c = (omega arith, search rules)
