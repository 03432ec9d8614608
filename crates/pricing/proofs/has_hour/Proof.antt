-- `pricing::has_hour` meets its contract: the code is the definition. Assumes nothing.
use borrow.Author.Rules.{rules}
use Rattle.fields.specs.Tests.{within}
use Rattle.pricing.specs.Answers.{has_hour}
use Rattle.pricing.proofs.has_hour.Statement.{statement}
use Rattle.pricing.proofs.has_hour.Tie as tie

is-counted-requires : tie.Need-is_counted-requires
is-counted-requires c κs = search rules

returns : tie.Need-returns
unfolding has_hour within
returns c = rw c.is_counted.ensures

pub has_hour_spec : {M : Type 1} → statement M
has_hour_spec = tie.close (tie.spec is-counted-requires returns)
