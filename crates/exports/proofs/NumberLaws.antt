-- A clearing's answer as a number is its refusal, and no refusal is 0. Assumes nothing.
use Prim.Native.Nat.{ℕ}
use native.Mathlib.Omega.{arith}
use mathlib.Core.Path.{◌≡◌, sym, ap, ◌∙◌}
use mathlib.Core.List.{List}
use Rattle.std.specs.Prelude.{Result}
use Rattle.book.specs.Numbers.{refusal_number, number_of}
use Rattle.book.specs.declared.refusal.Refusal.{Refusal}
use Rattle.book.specs.declared.refusal.Refusal.TheVariants as refused-for
use Rattle.result.specs.Promise.{clearing, clear_refusal}
use Rattle.result.proofs.PromiseLaws.{number-clearing}

pub number-not-0 : (why : Refusal) → refusal_number why ≡ 0 → ⊥
number-not-0 refused-for.WrongSize e = omega arith
number-not-0 refused-for.WrongHead e = omega arith
number-not-0 refused-for.BrokenChain e = omega arith
number-not-0 refused-for.WrongField e = omega arith
number-not-0 refused-for.StrayRecord e = omega arith
number-not-0 refused-for.TooManyBlocks e = omega arith
number-not-0 refused-for.WrongBuffer e = omega arith
number-not-0 refused-for.WrongCall e = omega arith
number-not-0 refused-for.WrongHours e = omega arith
number-not-0 refused-for.WrongLink e = omega arith
number-not-0 refused-for.TooManySteps e = omega arith
number-not-0 refused-for.WrongList e = omega arith

-- the number of an answer of the clearing
pub number-told : (b result : List ℕ) (answer : Result (Unit {0}) Refusal) → answer ≡ clearing b result → number_of answer ≡ clear_refusal b result
number-told b result answer e = ap number_of e ∙ number-clearing b result
