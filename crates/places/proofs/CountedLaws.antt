-- Numbers of the hours as they count: a sum over the day is the plain sum with hour 3's own number so often. Assumes nothing.
use Prim.Native.Nat.{ℕ, ◌+◌, ◌-◌, ◌*◌, ◌^◌, ◌≤◌, ◌<◌}
use mathlib.Core.Bool.{Bool, true, false, cond}
use mathlib.Core.Path.{◌≡◌, refl, ◌∙◌}
use mathlib.Core.List.{List}
use native.Mathlib.Omega.{arith}
use native.Mathlib.Nat.{mul-le-mul_right}
use lib.ListN.{length, get_or, length-set}
use lib.Seq.{get_or-set_same, get_or-set_other}
use Rattle.rules.specs.Orders.{max_price}
use Rattle.rules.specs.Hour.{when}
use Rattle.rules.specs.Day.{change_hour, weight, sum_to, day_sum}
use Rattle.rules.proofs.BoundsLaws.{product_le}
use Rattle.rules.proofs.HourSums.{sum_to-in, weight-else, times-apart}
use Rattle.rules.proofs.Tests.{by-eq}
use Rattle.records.specs.Records.{holds_hour}
use Rattle.places.specs.Layout.{hour_places, change_row, most_counted, most_gaps, most_counted_gaps}
use Rattle.places.specs.Hours.{Small, DayPrices, sum_of_hours, times_in, sum_over, counted_column, cell, of_hour, SumOf}

-- THE CODE'S SUM: each hour once, then hour 3 as often as it counts
pub change-apart : (often : ℕ) (f : ℕ → ℕ) → sum_over often f + f change_hour ≡ sum_to hour_places f + often * f change_hour
unfolding sum_over
change-apart often f = times-apart often f

pub own-within : (f : ℕ → ℕ) → f change_hour ≤ sum_to hour_places f
unfolding sum_to
own-within f = omega arith

pub counted_is : (often sum own r : ℕ) (f : ℕ → ℕ) → sum ≡ sum_to hour_places f → own ≡ f change_hour → r + own ≡ sum + often * own → r ≡ sum_over often f
counted_is often sum own r f s o e =
    let e' : r + f change_hour ≡ sum_to hour_places f + often * f change_hour = rw (← s, ← o) e in
    omega (arith, e', change-apart often f)

-- it fits its number
pub counted-room : (sum own often : ℕ) → own ≤ sum → sum ≤ most_gaps → own < 2 ^ 32 → often ≤ 2 →
    (often * own < 2 ^ 34) × (sum - own + often * own + own ≡ sum + often * own) × (sum - own + often * own ≤ most_counted_gaps)
counted-room sum own often in_sum fits small few =
    let twice : often * own ≤ 2 * own = mul-le-mul_right own few in
    (omega arith, omega arith, omega arith)

-- THE DAY'S SUM
pub times-are : (hours h : ℕ) → weight hours h ≡ times_in (weight hours change_hour) h
times-are hours h =
    by-eq (λ t. weight hours h ≡ cond t (weight hours change_hour) 1) h change_hour (λ e. rw e) (λ other. weight-else hours h other)

pub day-sum : (hours : ℕ) (f : ℕ → ℕ) → day_sum hours f ≡ sum_over (weight hours change_hour) f
unfolding day_sum sum_over
day-sum hours f = sum_to-in hour_places _ _ (λ h a b. rw (← (times-are hours h)))

-- PRICES AS THEY COUNT
pub counted-at : (often : ℕ) (column : List ℕ) (h : ℕ) → length column ≡ hour_places → 1 ≤ h → of_hour (counted_column often column) h ≡ times_in often h * of_hour column h
counted-at often column h size first =
    by-eq (λ t. of_hour (counted_column often column) h ≡ cond t often 1 * of_hour column h) h change_hour
    (λ e. rw e (get_or-set_same column change_row _ 0 (omega arith)))
    (λ other. get_or-set_other column change_row (h - 1) _ 0 (omega arith) ∙ omega arith)

pub counted-small : (often : ℕ) (column : List ℕ) → often ≤ 2 → length column ≡ hour_places → Small max_price column → DayPrices (counted_column often column)
counted-small often column few size small = (
  rw length-set size,
  λ i. by-eq (λ t. get_or (counted_column often column) i 0 ≤ most_counted) i change_row
      (λ e. rw (e, get_or-set_same column change_row (often * get_or column change_row 0) 0 (omega arith)) (product_le often (get_or column change_row 0) 2 max_price few (small change_row)))
      (λ other. rw (get_or-set_other column change_row i (often * get_or column change_row 0) 0 other) (omega (arith, small i))),
)

-- the sum of a column over a block's hours
pub block-sum : (hours : ℕ) (column : List ℕ) (runs : ℕ) → length column ≡ hour_places →
    day_sum hours (λ h. when (holds_hour runs h) (of_hour column h)) ≡ sum_of_hours (counted_column (weight hours change_hour) column) runs
unfolding sum_of_hours sum_over
block-sum hours column runs size =
    day-sum hours _ ∙ sum_to-in hour_places _ _ (λ h a b. rw (counted-at (weight hours change_hour) column h size a) (at h (holds_hour runs h)))
  where
    at : (h : ℕ) (t : Bool) → times_in (weight hours change_hour) h * when t (of_hour column h) ≡ when t (times_in (weight hours change_hour) h * of_hour column h)
    at h true = refl
    at h false = omega arith

-- GAPS AS THEY COUNT
module _ {gap first last places : List ℕ} {sum : ℕ} (once : SumOf (sum_to hour_places) most_gaps gap first last places sum)
    {own : ℕ} (is_own : own ≡ cell gap change_hour (of_hour places change_hour)) where
  -- the gap of hour 3 is a part of the sum
  pub own-part : own ≤ sum
  own-part = rw (is_own, once.sum_is) (own-within (λ h. cell gap h (of_hour places h)))

  pub gaps-counted : (often r : ℕ) → r + own ≡ sum + often * own → r ≤ most_counted_gaps → SumOf (sum_over often) most_counted_gaps gap first last places r
  gaps-counted often r e fits =
      record {
        in_range = once.in_range;
        sum_is = counted_is often sum own r (λ h. cell gap h (of_hour places h)) once.sum_is is_own e;
        fits = fits;
      }
