-- SMALL LISTS, COMPUTED from the definitions alone. Prices are put in by certificate. Assumes nothing.
-- (The laws import it, so that a wrong definition is met here first.)
use Prim.Native.Nat.{ℕ, ◌*◌, ◌%◌}
use mathlib.Core.Path.{◌≡◌, refl, ap}
use mathlib.Core.List.{List, [], ◌∷◌, ◌++◌}
use mathlib.Core.Bool.{true, false, not, ◌||◌}
use lib.Dec.{eqb, ltb}
use lib.ListN.{replicate, length-replicate}
use Rattle.records.specs.Bytes.{u32_at}
use Rattle.fields.specs.Tests.{within, some_below}
use Rattle.rules.specs.Hour.{answered_price}
use Rattle.rules.specs.Uncertain.{hour_at, steps_at, middle_price, over_quantities, least_price, greatest_price}
use Rattle.rules.proofs.CertifiedHours.{tested-is, computed}
use Rattle.rules.proofs.UncertainCases.{either, least-of-either, greatest-of-either}
use Rattle.range.specs.Layout.{entry_size, most_entries}
use Rattle.range.specs.Range.{entry_at, entry_fits, below, uncertain_steps, wrong_size, out_of_range, wrong_list, range_of}
use Rattle.std.specs.Prelude.{Ok, Err}
use Rattle.book.specs.declared.refusal.Refusal.TheVariants.{WrongList}

-- the empty list: every price clears
empty-price : middle_price [] [] ≡ 150000
unfolding middle_price steps_at computed
empty-price = ap answered_price (tested-is (hour_at [] []))

pub empty-list : range_of [] ≡ Ok (record { least = 150000; greatest = 150000 })
unfolding range_of wrong_list wrong_size some_below uncertain_steps below least_price greatest_price over_quantities
empty-list = rw empty-price

-- buy 1 to 2 at 5000 (19 × 256 + 136), sell 1 to 2 at 3000 (11 × 256 + 184)
abbrev buy5000 : List ℕ
buy5000 = 0 ∷ 0 ∷ 0 ∷ 0 ∷ 0 ∷ 0 ∷ 19 ∷ 136 ∷ 0 ∷ 0 ∷ 0 ∷ 1 ∷ 0 ∷ 0 ∷ 0 ∷ 2 ∷ []

abbrev sell3000 : List ℕ
sell3000 = 0 ∷ 0 ∷ 0 ∷ 1 ∷ 0 ∷ 0 ∷ 11 ∷ 184 ∷ 0 ∷ 0 ∷ 0 ∷ 1 ∷ 0 ∷ 0 ∷ 0 ∷ 2 ∷ []

two_steps : uncertain_steps (buy5000 ++ sell3000) ≡ either
unfolding uncertain_steps below entry_at u32_at
two_steps = refl

two-right : wrong_list (buy5000 ++ sell3000) ≡ false
unfolding wrong_list wrong_size some_below out_of_range entry_fits entry_at u32_at within
two-right = refl

pub two-priced : range_of (buy5000 ++ sell3000) ≡ Ok (record { least = 3000; greatest = 5000 })
unfolding range_of
two-priced = rw (two-right, two_steps, least-of-either, greatest-of-either)

-- refused: a side of 256, whose last byte is 0; a low figure above the high one; a byte too many
pub side-256 : range_of (0 ∷ 0 ∷ 1 ∷ 0 ∷ 0 ∷ 0 ∷ 19 ∷ 136 ∷ 0 ∷ 0 ∷ 0 ∷ 1 ∷ 0 ∷ 0 ∷ 0 ∷ 2 ∷ []) ≡ Err WrongList
unfolding range_of wrong_list wrong_size some_below out_of_range entry_fits entry_at u32_at within
side-256 = refl

pub low-above-high : range_of (0 ∷ 0 ∷ 0 ∷ 0 ∷ 0 ∷ 0 ∷ 19 ∷ 136 ∷ 0 ∷ 0 ∷ 0 ∷ 2 ∷ 0 ∷ 0 ∷ 0 ∷ 1 ∷ []) ≡ Err WrongList
unfolding range_of wrong_list wrong_size some_below out_of_range entry_fits entry_at u32_at within
low-above-high = refl

pub byte-too-many : range_of (buy5000 ++ (0 ∷ [])) ≡ Err WrongList
unfolding range_of wrong_list wrong_size
byte-too-many = refl

-- 256 entries are not too long, 257 are
size_of : (n : ℕ) → wrong_size (replicate n 0) ≡ (ltb (entry_size * most_entries) n || not (eqb (n % entry_size) 0))
unfolding wrong_size
size_of n = ap (λ k. ltb (entry_size * most_entries) k || not (eqb (k % entry_size) 0)) (length-replicate n 0)

pub size-of-256 : wrong_size (replicate (entry_size * 256) 0) ≡ false
size-of-256 = size_of (entry_size * 256)

pub size-of-257 : wrong_size (replicate (entry_size * 257) 0) ≡ true
size-of-257 = size_of (entry_size * 257)
