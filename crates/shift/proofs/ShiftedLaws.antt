-- THE SHIFTED PRICES of the hours: the column that the code makes is the one of the definition, and sums of it rise with the shift. Assumes nothing.
use Prim.Native.Nat.{ℕ, zero, suc, ◌+◌, ◌-◌, ◌≤◌, ◌<◌}
use mathlib.Core.Bool.{Bool, true, false}
use mathlib.Core.Path.{◌≡◌, refl, sym, ap, ◌∙◌}
use mathlib.Core.List.{List}
use native.Mathlib.Omega.{arith}
use native.Mathlib.Nat.{mul-le-mul_left}
use native.Mathlib.Numerals.{sub-one}
use lib.ListN.{length, get_or}
use lib.Seq.{ext_get_or}
use Rattle.rules.specs.Hour.{when}
use Rattle.rules.specs.Day.{sum_to}
use Rattle.rules.specs.Shift.{shifted}
use Rattle.rules.proofs.ShiftLaws.{shifted-rises}
use Rattle.records.specs.Records.{holds_hour}
use Rattle.places.specs.Layout.{hour_places}
use Rattle.places.specs.Hours.{cell, of_hour, times_in, sum_of_hours, PricesOf}
use Rattle.places.proofs.CountedLaws.{counted-at}
use Rattle.shift.specs.Columns.{column_to, shifted_at, shifted_column, column_at}

-- SUMS over the hours, of numbers that rise
when-below : (t : Bool) (a b : ℕ) → a ≤ b → when t a ≤ when t b
when-below true a b k = k
when-below false a b k = omega arith

sum-le : (n : ℕ) (f g : ℕ → ℕ) → ((h : ℕ) → 1 ≤ h → h ≤ n → f h ≤ g h) → sum_to n f ≤ sum_to n g
unfolding sum_to
sum-le zero f g k = omega arith
sum-le (suc n) f g k = omega (arith, sum-le n f g (λ h a b. k h a (omega arith)), k (suc n) (omega arith) (omega arith))

-- COLUMNS
pub column-size : (n : ℕ) (f : ℕ → ℕ) → length (column_to n f) ≡ n
unfolding column_to
column-size zero f = refl
column-size (suc n) f = ap suc (column-size n (λ h. f (suc h)))

pub column-has : (n : ℕ) (f : ℕ → ℕ) (i : ℕ) → i < n → get_or (column_to n f) i 0 ≡ f (suc i)
unfolding column_to
column-has zero f i k = absurd (omega arith)
column-has (suc n) f zero k = refl
column-has (suc n) f (suc i) k = column-has n (λ h. f (suc h)) i (omega arith)

pub column-of : (n : ℕ) (f : ℕ → ℕ) (h : ℕ) → 1 ≤ h → h ≤ n → of_hour (column_to n f) h ≡ f h
column-of n f zero a b = absurd (omega arith)
column-of n f (suc h) a b = rw sub-one (column-has n f h (omega arith))

-- the code's column
module _ (unit_prices places : List ℕ) where
  pub column-is : (t : ℕ) (prices : List ℕ) → PricesOf (shifted t) unit_prices places prices → prices ≡ shifted_column unit_prices places t
  column-is t prices p =
      ext_get_or 0 prices (shifted_column unit_prices places t) (p.size ∙ sym (column-size hour_places _))
      (λ i k. let inside : i < hour_places = omega (arith, p.size) in
      ap (λ j. get_or prices j 0) (before i) ∙ p.are (suc i) (omega arith) (omega arith) ∙ sym (column-has hour_places (shifted_at unit_prices places t) i inside))
    where
      before : (i : ℕ) → i ≡ suc i - 1
      before i = omega arith

  -- SUMS over a block's hours rise with the shift
  rises-at : (often t u h : ℕ) → t ≤ u → 1 ≤ h → h ≤ hour_places →
      of_hour (column_at unit_prices places often t) h ≤ of_hour (column_at unit_prices places often u) h
  rises-at often t u h k a b =
      rw (
        counted-at often (shifted_column unit_prices places t) h (column-size hour_places _) a,
        counted-at often (shifted_column unit_prices places u) h (column-size hour_places _) a,
        column-of hour_places (shifted_at unit_prices places t) h a b,
        column-of hour_places (shifted_at unit_prices places u) h a b,
      )
      (mul-le-mul_left (times_in often h) (shifted-rises t u (cell unit_prices h (of_hour places h + 1)) (cell unit_prices h (of_hour places h)) k))

  pub sum-rises : (often hours t u : ℕ) → t ≤ u →
      sum_of_hours (column_at unit_prices places often t) hours ≤ sum_of_hours (column_at unit_prices places often u) hours
  unfolding sum_of_hours
  sum-rises often hours t u k = sum-le hour_places _ _ (λ h a b. when-below (holds_hour hours h) _ _ (rises-at often t u h k a b))
