-- `row_in` meets its contract. Assumes nothing.
use Rattle.result.specs.Result.{row_in}
use Rattle.result.proofs.numbers.row_in.Goals as goal

pub returns : goal.returns
unfolding row_in
returns c = cc
