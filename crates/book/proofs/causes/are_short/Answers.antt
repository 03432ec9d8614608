-- `book::causes::are_short` meets its contract: the code is the definition. Assumes nothing.
use mathlib.Core.Path.{refl}
use Rattle.book.proofs.causes.are_short.Goals as goal

pub returns : goal.returns
returns c = refl
