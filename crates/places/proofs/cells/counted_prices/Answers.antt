-- `places::cells::counted_prices` meets its contract: the prices, hour 3's as it counts. Assumes nothing.
use Rattle.std.proofs.Common.{refl, get_or, rules, arith}
use Rattle.rules.specs.Orders.{max_price}
use Rattle.rules.proofs.BoundsLaws.{product_le}
use Rattle.places.specs.Layout.{change_row}
use Rattle.places.proofs.CountedLaws.{counted-small}
use Rattle.places.proofs.cells.counted_prices.Goals as goal

pub overflow_mul-counted : goal.overflow_mul-counted
overflow_mul-counted c = omega (arith, product_le c.args.often (get_or c.args.prices change_row 0) 2 max_price c.requires.1 (c.requires.0 change_row))

pub returns : goal.returns
returns c = (refl, counted-small c.args.often c.args.prices c.requires.1 (search rules) c.requires.0)
