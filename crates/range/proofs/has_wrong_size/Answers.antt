-- `range::has_wrong_size` meets its contract: the code is the definition. Assumes nothing.
use mathlib.Core.Path.{refl}
use Rattle.range.specs.Range.{wrong_size}
use Rattle.range.proofs.has_wrong_size.Goals as goal

pub returns : goal.returns
unfolding wrong_size
returns c = refl
