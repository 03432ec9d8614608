-- the prices of the first h hours
use Rattle.places.proofs.CellLaws.{PricesTo}
use Rattle.places.proofs.cells.prices_by.Given as goal

abbrev pub invariant-loop-h : goal.invariant-loop-h
invariant-loop-h g l = PricesTo (goal.F-post g l.price) l.unit_prices l.places l.h l.prices
