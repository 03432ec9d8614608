-- `range::Entry::fits` meets its contract: the code is the definition. Assumes nothing.
use mathlib.Core.Path.{refl}
use Rattle.fields.specs.Tests.{within}
use Rattle.range.specs.Range.{entry_fits}
use Rattle.range.proofs.Entry.fits.Goals as goal

pub returns : goal.returns
unfolding entry_fits within
returns c = refl
