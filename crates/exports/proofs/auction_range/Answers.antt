-- `exports::auction_range` meets its contract: one law for each part of each answer. Assumes nothing.
use mathlib.Core.Path.{◌≡◌, sym, ◌∙◌}
use native.Mathlib.Omega.{arith}
use borrow.Author.Tests.{ne_eqb}
use Rattle.exports.specs.Parts.{range_part}
use Rattle.exports.proofs.auction_range.Goals as goal

pub returns-in-1 : goal.returns-in-1
unfolding range_part
returns-in-1 c = rw (← c.in-Ok.ensures, c.in-1.is)

pub returns-in-2 : goal.returns-in-2
unfolding range_part
returns-in-2 c = rw (← c.in-Ok.ensures, c.in-2.is)

pub returns-in_default : goal.returns-in_default
unfolding range_part
returns-in_default c =
    let no_least : c.args.part ≡ 1 → ⊥ = λ e. omega (arith, c.in_default) in
    let no_greatest : c.args.part ≡ 2 → ⊥ = λ e. omega (arith, c.in_default) in
    rw (← c.in-Ok.ensures, ne_eqb _ _ no_least, ne_eqb _ _ no_greatest)

pub returns-in-Err : goal.returns-in-Err
unfolding range_part
returns-in-Err c = rw (← c.in-Err.ensures) (rw c.number_of.ensures at c.first_alone.ensures)
