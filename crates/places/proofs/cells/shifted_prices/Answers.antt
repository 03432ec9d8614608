-- `places::cells::shifted_prices` meets its contract: what the closure gives is the shifted price. Assumes nothing.
use Rattle.std.proofs.Common.{rules}
use Rattle.rules.specs.Shift.{shifted}
use Rattle.places.proofs.CellLaws.{prices-by, shifted-priced}
use Rattle.places.proofs.cells.shifted_prices.Goals as goal

pub returns : goal.returns
returns c = prices-by _ _ _ (shifted c.args.t) _ c.prices_by.ensures c.requires.1 (shifted-priced c.args.t c.requires.3) (λ low high p a b e. search rules)
