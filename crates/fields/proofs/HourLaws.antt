-- The hours of a block on its day: how many they are as they count, and that those it runs in are those of its bits that count. Assumes nothing.
use Prim.Native.Nat.{ℕ, zero, suc, ◌+◌, ◌-◌, ◌*◌, ◌/◌, ◌%◌, ◌^◌, ◌≤◌, ◌<◌}
use mathlib.Core.Bool.{Bool, true, false, cond, ◌&&◌, and-true, and-false}
use mathlib.Core.Path.{◌≡◌, refl}
use native.Mathlib.Omega.{arith}
use native.Mathlib.Nat.{div-div-eq-div-mul}
use lib.Pow.{pow-add}
use Rattle.rules.proofs.BoundsLaws.{product_le}
use borrow.Author.Tests.{ne_eqb, eqb-true, eqb-false}
use lib.Dec.{eqb}
use Rattle.rules.specs.Hour.{when}
use Rattle.rules.specs.Day.{change_hour, spring_hours, weight, is_counted, sum_to}
use Rattle.rules.proofs.HourSums.{weight-else, change-apart}
use Rattle.records.specs.Records.{holds_hour, hours_set}
use Rattle.records.proofs.Laws.{hours-few}
use Rattle.fields.specs.Hours.{counted_hours, change_bit, running_hours}

-- HOW MANY
-- The hours of a block are a sum over the hours
pub hours-summed : (n x : ℕ) → hours_set n x ≡ sum_to n (λ h. when (holds_hour x h) 1)
unfolding sum_to hours_set
hours-summed zero x = refl
hours-summed (suc n) x = rw (hours-summed n x) (at (holds_hour x (suc n)))
  where
    at : (t : Bool) → sum_to n (λ h. when (holds_hour x h) 1) + cond t 1 0 ≡ sum_to n (λ h. when (holds_hour x h) 1) + when t 1
    at true = refl
    at false = refl

-- As they count: hour 3 as often as it does, the others once
pub hours-counted : (day x : ℕ)
    → counted_hours day x + when (holds_hour x change_hour) 1 ≡ hours_set 24 x + weight day change_hour * when (holds_hour x change_hour) 1
unfolding counted_hours
hours-counted day x = rw (hours-summed 24 x) (change-apart day (λ h. when (holds_hour x h) 1))

-- Hour 3 is one of them at most
pub change-within : (x : ℕ) → when (holds_hour x change_hour) 1 ≤ hours_set 24 x
unfolding sum_to
change-within x = rw (hours-summed 24 x) (omega arith)

-- A count that fits its number
pub counted-room : (day x once : ℕ) → day < 256 → once ≤ 1 → (weight day change_hour * once < 2 ^ 32) × (hours_set 24 x - once + weight day change_hour * once < 2 ^ 32)
unfolding weight
counted-room day x once d o =
    let most = product_le (day - spring_hours) once 255 1 (omega arith) o in
    (omega (arith, most), omega (arith, most, hours-few 24 x))

-- WHICH
-- What is taken off is there
pub change-taken : (x once : ℕ) → once ≡ when (holds_hour x change_hour) 1 → (change_bit * once ≤ x) × (change_bit * once ≡ when (holds_hour x change_hour) change_bit)
change-taken x once e = rw e (at (holds_hour x change_hour) refl)
  where
    at : (t : Bool) → holds_hour x change_hour ≡ t → (4 * when t 1 ≤ x) × (4 * when t 1 ≡ when t 4)
    at true e = let w : x / 4 % 2 ≡ 1 = eqb-true _ _ e in (omega arith, refl)
    at false e = (omega arith, refl)

pub other-counted : (day h : ℕ) → (h ≡ change_hour → ⊥) → is_counted day h ≡ true
unfolding is_counted
other-counted day h other = rw (weight-else day h other)

-- Without hour 3 the other hours are as they were
without : ℕ → ℕ
without x = x - when (holds_hour x change_hour) change_bit

eighths : (x : ℕ) → without x / 8 ≡ x / 8
unfolding without
eighths x = at (holds_hour x change_hour) refl
  where
    at : (t : Bool) → holds_hour x change_hour ≡ t → (x - when t 4) / 8 ≡ x / 8
    at true e = let w : x / 4 % 2 ≡ 1 = eqb-true _ _ e in omega arith
    at false e = omega arith

without-behind : (x n : ℕ) → without x / 2 ^ (3 + n) ≡ x / 2 ^ (3 + n)
without-behind x n = rw (pow-add 2 3 n, ← (div-div-eq-div-mul (without x) 8 (2 ^ n)), ← (div-div-eq-div-mul x 8 (2 ^ n)), eighths x)

without-quarter : (x : ℕ) → (without x % 4 ≡ x % 4)
unfolding without
without-quarter x = at (holds_hour x change_hour) refl
  where
    at : (t : Bool) → holds_hour x change_hour ≡ t → (x - when t 4) % 4 ≡ x % 4
    at true e = let w : x / 4 % 2 ≡ 1 = eqb-true _ _ e in omega arith
    at false e = omega arith

without-bit : (x k : ℕ) → (k ≡ 2 → ⊥) → without x / 2 ^ k % 2 ≡ x / 2 ^ k % 2
without-bit x zero other = omega (arith, without-quarter x)
without-bit x (suc zero) other = omega (arith, without-quarter x)
without-bit x (suc (suc zero)) other = absurd (other refl)
without-bit x (suc (suc (suc n))) other = let e : suc (suc (suc n)) ≡ 3 + n = omega arith in rw (e, without-behind x n)

without-holds : (x h : ℕ) → (h ≡ change_hour → ⊥) → holds_hour (without x) h ≡ holds_hour x h
without-holds x h other = rw (without-bit x (h - 1) (λ e. other (omega arith)))

without-change : (x : ℕ) → holds_hour (without x) change_hour ≡ false
unfolding without
without-change x = at (holds_hour x change_hour) refl
  where
    at : (t : Bool) → holds_hour x change_hour ≡ t → holds_hour (x - when t 4) change_hour ≡ false
    at true e = let w : x / 4 % 2 ≡ 1 = eqb-true _ _ e in ne_eqb _ _ (λ (z : (x - 4) / 4 % 2 ≡ 1). omega arith)
    at false e = let same : x - 0 ≡ x = omega arith in rw same e

-- A block runs in those of its hours that count
pub running-holds : (day x h : ℕ) → holds_hour (running_hours day x) h ≡ (holds_hour x h && is_counted day h)
unfolding running_hours without
running-holds day x h = at (is_counted day change_hour) (eqb h change_hour) refl refl
  where
    at : (t same : Bool) → is_counted day change_hour ≡ t → eqb h change_hour ≡ same
        → holds_hour (cond t x (without x)) h ≡ (holds_hour x h && is_counted day h)
    at true true e i = rw (eqb-true h change_hour i, e, and-true)
    at true false e i = rw (other-counted day h (eqb-false h change_hour i), and-true)
    at false true e i = rw (eqb-true h change_hour i, e, and-false) (without-change x)
    at false false e i = rw (other-counted day h (eqb-false h change_hour i), and-true) (without-holds x h (eqb-false h change_hour i))
