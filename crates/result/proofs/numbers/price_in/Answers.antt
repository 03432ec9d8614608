-- `price_in` meets its contract. Assumes nothing.
use Rattle.result.specs.Result.{price_in}
use Rattle.result.proofs.numbers.price_in.Goals as goal

pub returns : goal.returns
unfolding price_in
returns c = cc
