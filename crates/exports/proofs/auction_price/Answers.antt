-- `exports::auction_price` meets its contract: one law for each part of each answer. Assumes nothing.
use mathlib.Core.Path.{◌≡◌, sym, ◌∙◌}
use native.Mathlib.Omega.{arith}
use borrow.Author.Tests.{ne_eqb}
use Rattle.exports.specs.Parts.{answer_part}
use Rattle.exports.proofs.auction_price.Goals as goal

pub returns-in-1 : goal.returns-in-1
unfolding answer_part
returns-in-1 c = rw (← c.in-Ok-Some.ensures, c.in-Ok-Some.field-0-is, c.in-1.is)

pub returns-in-2 : goal.returns-in-2
unfolding answer_part
returns-in-2 c = rw (← c.in-Ok-Some.ensures, c.in-Ok-Some.field-0-is, c.in-2.is)

pub returns-in-3 : goal.returns-in-3
unfolding answer_part
returns-in-3 c = rw (← c.in-Ok-Some.ensures, c.in-Ok-Some.field-0-is, c.in-3.is)

pub returns-in_default : goal.returns-in_default
unfolding answer_part
returns-in_default c =
    let no_low : c.args.part ≡ 1 → ⊥ = λ e. omega (arith, c.in_default) in
    let no_high : c.args.part ≡ 2 → ⊥ = λ e. omega (arith, c.in_default) in
    let no_price : c.args.part ≡ 3 → ⊥ = λ e. omega (arith, c.in_default) in
    rw (← c.in-Ok-Some.ensures, c.in-Ok-Some.field-0-is, ne_eqb _ _ no_low, ne_eqb _ _ no_high, ne_eqb _ _ no_price)

pub returns-in-Ok-None : goal.returns-in-Ok-None
unfolding answer_part
returns-in-Ok-None c = rw (← c.in-Ok-None.ensures, c.in-Ok-None.field-0-is) c.first_alone.ensures

pub returns-in-Err : goal.returns-in-Err
unfolding answer_part
returns-in-Err c = rw (← c.in-Err.ensures) (rw c.number_of.ensures at c.first_alone-in-Err.ensures)
