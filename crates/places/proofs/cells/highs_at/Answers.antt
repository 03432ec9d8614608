-- `places::cells::highs_at` meets its contract: what the closure gives is the end. Assumes nothing.
use Rattle.std.proofs.Common.{rules}
use Rattle.places.specs.Hours.{high_end}
use Rattle.places.proofs.CellLaws.{prices-by}
use Rattle.places.proofs.cells.highs_at.Goals as goal

pub returns : goal.returns
returns c = prices-by _ _ _ high_end _ c.prices_by.ensures c.requires.1 (λ low high a b. b) (λ low high p a b e. search rules)
