-- `traded_in` meets its contract. Assumes nothing.
use Rattle.result.specs.Result.{traded_in}
use Rattle.result.proofs.numbers.traded_in.Goals as goal

pub returns : goal.returns
unfolding traded_in
returns c = cc
