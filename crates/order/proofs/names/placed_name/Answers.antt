-- `order::names::placed_name` meets its contract: the place and 1 fit, as the name does. Assumes nothing.
use mathlib.Core.Path.{sym}
use native.Mathlib.Omega.{arith}
use Rattle.order.proofs.NameLaws.{name-none, name-at}
use Rattle.order.proofs.names.placed_name.Goals as goal

pub overflow_add-result : goal.overflow_add-result
overflow_add-result c = omega (arith, let h = c.in-Some.ensures in name-at c.args.order.now.places _ _ h)

pub overflow_cast-result-in-Some : goal.overflow_cast-result-in-Some
overflow_cast-result-in-Some c = omega (arith, let h = c.in-Some.ensures in name-at c.args.order.now.places _ _ h)

pub returns-in-None : goal.returns-in-None
returns-in-None c = let h = c.in-None.ensures in sym (name-none _ _ (omega (arith, h)))

pub returns-in-Some : goal.returns-in-Some
returns-in-Some c = let h = c.in-Some.ensures in name-at _ _ _ h
