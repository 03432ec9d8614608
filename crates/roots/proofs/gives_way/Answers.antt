-- `roots::gives_way` meets its contract: the edition is the first whose prices can give way, or a later one. Assumes nothing.
use Rattle.std.proofs.Common.{refl}
use Rattle.rules.specs.Day.{gives_way}
use Rattle.roots.proofs.gives_way.Goals as goal

pub returns : goal.returns
unfolding gives_way
returns c = refl
