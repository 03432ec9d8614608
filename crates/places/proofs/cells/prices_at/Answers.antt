-- `places::cells::prices_at` meets its contract: what the closure gives is the middle. Assumes nothing.
use Rattle.std.proofs.Common.{rules, arith}
use Rattle.rules.specs.Hour.{middle}
use Rattle.places.proofs.CellLaws.{prices-by}
use Rattle.places.proofs.cells.prices_at.Goals as goal

pub returns : goal.returns
returns c = prices-by _ _ _ middle _ c.prices_by.ensures c.requires.1 (λ low high a b. omega arith) (λ low high p a b e. search rules)
