-- `order::names::stands_before` meets its contract. Assumes nothing.
use native.Mathlib.Omega.{arith}
use native.Mathlib.Numerals.{add-one}
use borrow.Author.Tests.{le-leb}
use Rattle.order.proofs.NameLaws.{name-none, name-at}
use Rattle.order.proofs.names.stands_before.Goals as goal

pub returns-in-None : goal.returns-in-None
returns-in-None c =
    let h = c.in-None.ensures in
    rw (name-none c.args.order.now.places c.args.name (omega (arith, h)), le-leb 0 c.args.j (omega arith))

pub returns-in-Some : goal.returns-in-Some
returns-in-Some c = let h = c.in-Some.ensures in rw (← name-at c.args.order.now.places c.args.name _ h, add-one)
