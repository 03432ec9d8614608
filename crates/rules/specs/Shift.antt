-- THE SHIFT OF PRICES (document 02, P7): the price of an hour at a shift t, and the choice of t by a test. Definitions only. Assumes nothing.
use Rattle.std.specs.Prelude.{ℕ, zero, suc, ◌+◌, ◌-◌, ◌*◌, ◌/◌, Bool}
use Rattle.std.proofs.Math.Option.{Option, none, some}
use Rattle.rules.specs.Hour.{if_passes, or_else, Pricing, cleared, does_not_clear}

-- A shift is 0 to 1000; the one in the middle is 500.
abbrev pub last_shift : ℕ
last_shift = 1000

abbrev pub middle_shift : ℕ
middle_shift = 500

-- "Each hour's price is L plus (H − L) times t divided by 1000, rounded down."
unfoldable pub shifted : (t low high : ℕ) → ℕ
shifted t low high = low + (high - low) * t / last_shift

-- The price at shift t of an hour that is answered so; 0 where it does not clear.
abbrev pub shifted_price : ℕ → Pricing → ℕ
shifted_price t (cleared low high price) = shifted t low high
shifted_price t does_not_clear = 0

-- The shift nearest 500 that passes a test, of two the smaller: the first of 500, 499, 501, 498, .. that does, of those less than `far` away.
unfoldable pub nearest_shift : (ℕ → Bool) → (far : ℕ) → Option ℕ
nearest_shift test zero = none
nearest_shift test (suc d) =
    or_else (nearest_shift test d)
    (or_else (if_passes (test (middle_shift - d)) (middle_shift - d)) (if_passes (test (middle_shift + d)) (middle_shift + d)))

-- The shifts from 0 to 1000 are all less than 501 away.
abbrev pub all_shifts : ℕ
all_shifts = 501

-- The shift that is chosen, or the middle where none is.
abbrev pub or_middle : Option ℕ → ℕ
or_middle none = middle_shift
or_middle (some t) = t
