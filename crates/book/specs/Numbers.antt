-- The papers' number of each refusal, the refusal of a number, and what a number answers. Definitions only. Assumes nothing.
use Rattle.std.specs.Prelude.{ℕ, Bool, cond, eqb, Result, Ok, Err}
use Rattle.book.specs.declared.refusal.Refusal.{Refusal}
use Rattle.book.specs.declared.refusal.Refusal.TheVariants as refused-for

-- The papers' number of a refusal
abbrev pub refusal_number : Refusal → ℕ
refusal_number refused-for.WrongSize = 1
refusal_number refused-for.WrongHead = 2
refusal_number refused-for.BrokenChain = 3
refusal_number refused-for.WrongField = 4
refusal_number refused-for.StrayRecord = 5
refusal_number refused-for.TooManyBlocks = 6
refusal_number refused-for.WrongBuffer = 7
refusal_number refused-for.WrongCall = 8
refusal_number refused-for.WrongHours = 9
refusal_number refused-for.WrongLink = 10
refusal_number refused-for.TooManySteps = 11
refusal_number refused-for.WrongList = 17

-- The refusal of a number; of one that none has, which no cause gives, the last
unfoldable pub refusal_numbered : ℕ → Refusal
refusal_numbered n =
    cond (eqb n 1) refused-for.WrongSize
    (cond (eqb n 2) refused-for.WrongHead
    (cond (eqb n 3) refused-for.BrokenChain
    (cond (eqb n 4) refused-for.WrongField
    (cond (eqb n 5) refused-for.StrayRecord
    (cond (eqb n 6) refused-for.TooManyBlocks
    (cond (eqb n 7) refused-for.WrongBuffer
    (cond (eqb n 8) refused-for.WrongCall
    (cond (eqb n 9) refused-for.WrongHours
    (cond (eqb n 10) refused-for.WrongLink
    (cond (eqb n 11) refused-for.TooManySteps
    refused-for.WrongList))))))))))

-- What is answered for a number: the value for 0, else the refusal that has the number
unfoldable pub answered : {A : Type 0} → ℕ → A → Result A Refusal
answered n value = cond (eqb n 0) (Ok value) (Err (refusal_numbered n))

-- What one test answers: refused for `why` where it holds
abbrev pub tested : Bool → Refusal → Result (Unit {0}) Refusal
tested holds why = cond holds (Err why) (Ok tt)

-- The papers' number for an answer; 0 for an accepted book or call is ours
abbrev pub number_of : {A : Type 0} → Result A Refusal → ℕ
number_of (Ok value) = 0
number_of (Err why) = refusal_number why
