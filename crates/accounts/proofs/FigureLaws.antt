-- WHAT AN ORDER TRADES AND ITS CASH, out of its row and the prices as they count; and that these numbers fit. Assumes nothing.
use Prim.Native.Nat.{ℕ, ◌+◌, ◌-◌, ◌*◌, ◌^◌, ◌≤◌, ◌<◌}
use mathlib.Core.Bool.{Bool, true, false}
use mathlib.Core.Path.{◌≡◌, refl, sym, ◌∙◌}
use mathlib.Core.List.{List}
use native.Mathlib.Omega.{arith}
use native.Mathlib.Nat.{mul_assoc, mul_comm, mul-zero}
use lib.Dec.{eqb}
use lib.ListN.{length, get_or}
use Rattle.rules.specs.Orders.{buy}
use Rattle.rules.specs.Hour.{when}
use Rattle.rules.specs.Day.{change_hour, autumn_hours, weight, day_sum, hour_count}
use Rattle.rules.specs.Cash.{traded_by, cash_by}
use Rattle.rules.proofs.Tests.{by-eq}
use Rattle.rules.proofs.HourSums.{day_sum-same, day_sum-le, day_sum-times, day_sum-once}
use Rattle.rules.proofs.BoundsLaws.{product_le}
use Rattle.rules.proofs.FamilyBounds.{count-few}
use Rattle.records.specs.Records.{day_hours, hour_byte, holds_hour}
use Rattle.fields.specs.Hours.{counted_hours}
use Rattle.orders.specs.Columns.{block_hours_at}
use Rattle.places.specs.Layout.{most_counted, most_limit}
use Rattle.places.specs.Hours.{sum_of_hours, times_in, of_hour}
use Rattle.places.proofs.CountedLaws.{times-are, counted-at, block-sum}
use Rattle.result.specs.Result.{price_in, row_in}
use Rattle.result.proofs.PromiseLaws.{hours-length, hour-at}
use Rattle.gains.specs.Gains.{prices_in, counted_prices_in}
use Rattle.accounts.specs.Accounts.{step_in, block_in}
use Rattle.accounts.specs.Postings.{most_of_step, most_of_block}

-- THE PRICES of a result, of any bytes
prices-length : (result : List ℕ) → length (prices_in result) ≡ 24
unfolding prices_in
prices-length result = hours-length 24 (price_in result)

price-listed : (result : List ℕ) (h : ℕ) → 1 ≤ h → h ≤ 24 → of_hour (prices_in result) h ≡ price_in result h
unfolding prices_in
price-listed result h first last = hour-at 24 (price_in result) h first last

exchanged : (a b c : ℕ) → a * (b * c) ≡ b * (a * c)
exchanged a b c = rw (← (mul_assoc a b c), mul_comm a b, mul_assoc b a c)

-- A STEP
module _ (b result : List ℕ) (k : ℕ) (first : 1 ≤ hour_byte b k) (last : hour_byte b k ≤ 24) where
  pub step-traded : (row often times hour : ℕ) → row ≡ row_in result k → often ≡ weight (day_hours b) change_hour → hour + 1 ≡ hour_byte b k →
      times ≡ times_in often (hour + 1) → row * times ≡ traded_by (day_hours b) (step_in b result k)
  unfolding traded_by step_in
  step-traded row often times hour r o e t =
      rw (day_sum-once (day_hours b) (hour_byte b k) (row_in result k) first last, r, t, o, e, ← (times-are (day_hours b) (hour_byte b k)))
      (mul_comm (row_in result k) (weight (day_hours b) (hour_byte b k)))

  pub step-cash : (row counted hour : ℕ) → row ≡ row_in result k → hour + 1 ≡ hour_byte b k → counted ≡ get_or (counted_prices_in b result) hour 0 →
      row * counted ≡ cash_by (day_hours b) (price_in result) (step_in b result k)
  unfolding cash_by step_in
  step-cash row counted hour r e c =
      let h = hour_byte b k in
      let same : hour ≡ h - 1 = omega arith in
      let at = counted-at (weight (day_hours b) change_hour) (prices_in result) h (prices-length result) first in
      let sum : day_sum (day_hours b) (λ x. when (eqb h x) (row_in result k * price_in result x)) ≡ weight (day_hours b) h * (row_in result k * price_in result h) =
      day_sum-same (day_hours b) _ (λ x. when (eqb h x) (row_in result k * price_in result h))
      (λ x. by-eq (λ t. when t (row_in result k * price_in result x) ≡ when t (row_in result k * price_in result h)) h x (λ s. rw s) (λ s. refl))
      ∙ day_sum-once (day_hours b) h (row_in result k * price_in result h) first last
      in
      rw (sum, r, c, same, at, ← (times-are (day_hours b) h), price-listed result h first last)
      (exchanged (row_in result k) (weight (day_hours b) h) (price_in result h))

pub step_fits : (row times counted : ℕ) → row < 2 ^ 32 → times ≤ 2 → counted ≤ most_counted →
    (row * times < 2 ^ 64) × (row * counted < 2 ^ 64) × (row * times + row * counted + 1 ≤ most_of_step)
step_fits row times counted r t c =
    let few = product_le row times (2 ^ 32) 2 (omega arith) t in
    let small = product_le row counted (2 ^ 32) most_counted (omega arith) c in
    (omega arith, omega arith, omega arith)

-- A BLOCK
row_out : (t : Bool) (row n : ℕ) → when t (row * n) ≡ row * when t n
row_out true row n = refl
row_out false row n = sym (mul-zero row)

once-out : (t : Bool) (row : ℕ) → when t row ≡ row * when t 1
once-out true row = omega arith
once-out false row = sym (mul-zero row)

module _ (b result : List ℕ) (k : ℕ) where
  pub block-traded : (row hours : ℕ) → row ≡ row_in result k → hours ≡ block_hours_at b k → row * counted_hours (day_hours b) hours ≡ traded_by (day_hours b) (block_in b result k)
  unfolding traded_by block_in counted_hours
  block-traded row hours r x =
      let w = block_hours_at b k in
      rw (r, x)
      (sym (day_sum-same (day_hours b) (λ h. when (holds_hour w h) (row_in result k)) (λ h. row_in result k * when (holds_hour w h) 1)
      (λ h. once-out (holds_hour w h) (row_in result k))
      ∙ day_sum-times (day_hours b) (row_in result k) (λ h. when (holds_hour w h) 1)))

  prices-summed : (x : ℕ) → day_sum (day_hours b) (λ h. when (holds_hour x h) (price_in result h)) ≡ sum_of_hours (counted_prices_in b result) x
  prices-summed x =
      let to = day_sum-le (day_hours b) (λ h. when (holds_hour x h) (of_hour (prices_in result) h)) (λ h. when (holds_hour x h) (price_in result h))
      (λ h c. rw (price-listed result h c.first c.last) (omega arith)) in
      let from = day_sum-le (day_hours b) (λ h. when (holds_hour x h) (price_in result h)) (λ h. when (holds_hour x h) (of_hour (prices_in result) h))
      (λ h c. rw (price-listed result h c.first c.last) (omega arith)) in
      omega (arith, to, from, block-sum (day_hours b) (prices_in result) x (prices-length result))

  pub block-cash : (row hours sum : ℕ) (counted : List ℕ) → row ≡ row_in result k → hours ≡ block_hours_at b k → counted ≡ counted_prices_in b result →
      sum ≡ sum_of_hours counted hours → row * sum ≡ cash_by (day_hours b) (price_in result) (block_in b result k)
  unfolding cash_by block_in
  block-cash row hours sum counted r x c s =
      let w = block_hours_at b k in
      rw (s, r, x, c, ← (prices-summed w))
      (sym (day_sum-same (day_hours b) (λ h. when (holds_hour w h) (row_in result k * price_in result h)) (λ h. row_in result k * when (holds_hour w h) (price_in result h))
      (λ h. row_out (holds_hour w h) (row_in result k) (price_in result h))
      ∙ day_sum-times (day_hours b) (row_in result k) (λ h. when (holds_hour w h) (price_in result h))))

pub hours-small : (day x : ℕ) → day ≤ autumn_hours → counted_hours day x ≤ 25
unfolding counted_hours hour_count
hours-small day x few = count-few day few (record { number = 0; portfolio = 0; side = buy; price = 0; quantity = 0; runs = holds_hour x })

pub block-fits : (row hours sum : ℕ) → row < 2 ^ 32 → hours ≤ 25 → sum ≤ most_limit →
    (row * hours < 2 ^ 64) × (row * sum < 2 ^ 64) × (row * hours + row * sum + 1 ≤ most_of_block)
block-fits row hours sum r t c =
    let few = product_le row hours (2 ^ 32) 25 (omega arith) t in
    let small = product_le row sum (2 ^ 32) most_limit (omega arith) c in
    (omega arith, omega arith, omega arith)
