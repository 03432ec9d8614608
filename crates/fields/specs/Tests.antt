-- Tests of numbers and lists in which the causes of a refusal are worded. Assumes nothing.
use Rattle.std.specs.Prelude.{ℕ, zero, suc, ◌+◌, List, [], ◌∷◌, Bool, false, cond, ◌&&◌, ◌||◌, eqb, leb}

-- x is from low to high
unfoldable pub within : ℕ → ℕ → ℕ → Bool
within low x high = leb low x && leb x high

-- Some number below n passes a test
unfoldable pub some_below : ℕ → (ℕ → Bool) → Bool
some_below zero test = false
some_below (suc n) test = test n || some_below n test

-- Some member of a list passes a test
unfoldable pub some_in : {A : Type 0} → List A → (A → Bool) → Bool
some_in [] test = false
some_in (x ∷ l) test = test x || some_in l test

-- How many members of a list pass a test
unfoldable pub count_in : List ℕ → (ℕ → Bool) → ℕ
count_in [] test = 0
count_in (x ∷ l) test = cond (test x) 1 0 + count_in l test

-- x is a member of a list
abbrev pub member : ℕ → List ℕ → Bool
member x l = some_in l (eqb x)
