-- `places::cells::lows_at` meets its contract: what the closure gives is the end. Assumes nothing.
use Rattle.std.proofs.Common.{rules}
use Rattle.places.specs.Hours.{low_end}
use Rattle.places.proofs.CellLaws.{prices-by}
use Rattle.places.proofs.cells.lows_at.Goals as goal

pub returns : goal.returns
returns c = prices-by _ _ _ low_end _ c.prices_by.ensures c.requires.1 (λ low high a b. a) (λ low high p a b e. search rules)
