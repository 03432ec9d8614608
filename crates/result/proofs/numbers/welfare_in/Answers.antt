-- `welfare_in` meets its contract. Assumes nothing.
use Rattle.result.specs.Result.{welfare_in}
use Rattle.result.proofs.numbers.welfare_in.Goals as goal

pub returns : goal.returns
unfolding welfare_in
returns c = cc
