-- Sums and tests over the hours of the day, each hour as often as it counts. They hold whatever `weight` says: only its name is used. What it says of the
-- hours stands at the end. Assumes nothing.
use Prim.Native.Nat.{ℕ, zero, suc, ◌+◌, ◌-◌, ◌*◌, ◌≤◌, ◌<◌}
use mathlib.Core.Bool.{Bool, true, false, cond, not, ◌||◌, false≢true}
use mathlib.Core.Path.{◌≡◌, refl, sym}
use mathlib.Core.Logic.{◌⊎◌, inl, inr}
use native.Mathlib.Omega.{arith}
use native.Mathlib.Nat.{le-suc_iff, lt_of_not-le, mul-le-mul_left, mul_assoc, mul_comm, mul-zero}
use native.Mathlib.Decide.{dec_le}
use lib.Dec.{eqb}
use borrow.Author.Tests.{eq-eqb, ne_eqb}
use Rattle.rules.specs.Hour.{when}
use Rattle.rules.specs.Day.{change_hour, spring_hours, weight, is_counted, sum_to, day_sum, all_to, every_hour}
use Rattle.rules.specs.Contender.{Counts}
use Rattle.rules.proofs.Tests.{both, by-eq}

-- HOURS 1 TO n
sum_to-le : (n : ℕ) (f g : ℕ → ℕ) → ((h : ℕ) → 1 ≤ h → h ≤ n → f h ≤ g h) → sum_to n f ≤ sum_to n g
unfolding sum_to
sum_to-le zero f g k = omega arith
sum_to-le (suc n) f g k = omega (arith, sum_to-le n f g (λ h a b. k h a (omega arith)), k (suc n) (omega arith) (omega arith))

pub sum_to-same : (n : ℕ) (f g : ℕ → ℕ) → ((h : ℕ) → f h ≡ g h) → sum_to n f ≡ sum_to n g
unfolding sum_to
sum_to-same zero f g k = refl
sum_to-same (suc n) f g k = omega (arith, sum_to-same n f g k, k (suc n))

pub sum_to-in : (n : ℕ) (f g : ℕ → ℕ) → ((h : ℕ) → 1 ≤ h → h ≤ n → f h ≡ g h) → sum_to n f ≡ sum_to n g
unfolding sum_to
sum_to-in zero f g k = refl
sum_to-in (suc n) f g k = omega (arith, sum_to-in n f g (λ h a b. k h a (omega arith)), k (suc n) (omega arith) (omega arith))

pub sum_to-add : (n : ℕ) (f g : ℕ → ℕ) → sum_to n (λ h. f h + g h) ≡ sum_to n f + sum_to n g
unfolding sum_to
sum_to-add zero f g = omega arith
sum_to-add (suc n) f g = omega (arith, sum_to-add n f g)

sum_to-times : (n k : ℕ) (f : ℕ → ℕ) → sum_to n (λ h. k * f h) ≡ k * sum_to n f
unfolding sum_to
sum_to-times zero k f = omega arith
sum_to-times (suc n) k f = omega (arith, sum_to-times n k f)

pub sum_to-zero : (n : ℕ) → sum_to n (λ h. 0) ≡ 0
unfolding sum_to
sum_to-zero zero = refl
sum_to-zero (suc n) = omega (arith, sum_to-zero n)

-- a number that stands in one hour only
sum_to-past : (n k : ℕ) (f : ℕ → ℕ) → n < k → ((h : ℕ) → (k ≡ h → ⊥) → f h ≡ 0) → sum_to n f ≡ 0
unfolding sum_to
sum_to-past zero k f a z = refl
sum_to-past (suc n) k f a z = omega (arith, sum_to-past n k f (omega arith) z, z (suc n) (omega arith))

pub sum_to-once : (n k : ℕ) (f : ℕ → ℕ) → 1 ≤ k → k ≤ n → ((h : ℕ) → (k ≡ h → ⊥) → f h ≡ 0) → sum_to n f ≡ f k
unfolding sum_to
sum_to-once zero k f a b z = absurd (omega arith)
sum_to-once (suc n) k f a b z = go (le-suc_iff.0 b) (λ c. sum_to-once n k f a c z)
  where
    go : (k ≤ n) ⊎ (k ≡ suc n) → (k ≤ n → sum_to n f ≡ f k) → sum_to n f + f (suc n) ≡ f k
    go (inl c) ih = omega (arith, ih c, z (suc n) (omega arith))
    go (inr c) ih = rw c (omega (arith, sum_to-past n k f (omega arith) z))

all_to-at : (n : ℕ) (t : ℕ → Bool) → all_to n t ≡ true → (h : ℕ) → 1 ≤ h → h ≤ n → t h ≡ true
unfolding all_to
all_to-at zero t e h a b = absurd (omega arith)
all_to-at (suc n) t e h a b = go (le-suc_iff.0 b) (λ k. all_to-at n t (both (all_to n t) (t (suc n)) e).0 h a k)
  where
    go : (h ≤ n) ⊎ (h ≡ suc n) → (h ≤ n → t h ≡ true) → t h ≡ true
    go (inl k) f = f k
    go (inr k) f = rw k (both (all_to n t) (t (suc n)) e).1

all_to-all : (n : ℕ) (t : ℕ → Bool) → ((h : ℕ) → 1 ≤ h → h ≤ n → t h ≡ true) → all_to n t ≡ true
unfolding all_to
all_to-all zero t f = refl
all_to-all (suc n) t f = rw (all_to-all n t (λ h a b. f h a (omega arith)), f (suc n) (omega arith) (omega arith))

-- THE HOURS OF THE DAY
module _ (hours : ℕ) where
  weighed-le : (w a b : ℕ) → (1 ≤ w → a ≤ b) → w * a ≤ w * b
  weighed-le zero a b h = omega arith
  weighed-le (suc w) a b h = mul-le-mul_left (suc w) (h (omega arith))

  pub day_sum-le : (f g : ℕ → ℕ) → ((h : ℕ) → Counts hours h → f h ≤ g h) → day_sum hours f ≤ day_sum hours g
  unfolding day_sum
  day_sum-le f g k =
      sum_to-le 24 _ _ (λ h a b. weighed-le (weight hours h) (f h) (g h) (λ c. k h record { first = a; last = b; counted = c }))

  -- numbers that are equal in the hours that count
  pub day_sum-counted : (f g : ℕ → ℕ) → ((h : ℕ) → Counts hours h → f h ≡ g h) → day_sum hours f ≡ day_sum hours g
  day_sum-counted f g k = omega (arith, day_sum-le f g (λ h c. omega (arith, k h c)), day_sum-le g f (λ h c. omega (arith, k h c)))

  pub day_sum-same : (f g : ℕ → ℕ) → ((h : ℕ) → f h ≡ g h) → day_sum hours f ≡ day_sum hours g
  unfolding day_sum
  day_sum-same f g k = sum_to-same 24 _ _ (λ h. rw (k h))

  pub day_sum-add : (f g : ℕ → ℕ) → day_sum hours (λ h. f h + g h) ≡ day_sum hours f + day_sum hours g
  unfolding day_sum
  day_sum-add f g =
      omega (
        arith,
        sum_to-same 24 (λ h. weight hours h * (f h + g h)) (λ h. weight hours h * f h + weight hours h * g h) (λ h. omega arith),
        sum_to-add 24 (λ h. weight hours h * f h) (λ h. weight hours h * g h),
      )

  swapped : (w k n : ℕ) → w * (k * n) ≡ k * (w * n)
  swapped w k n = rw (← (mul_assoc w k n), mul_comm w k, mul_assoc k w n)

  pub day_sum-times : (k : ℕ) (f : ℕ → ℕ) → day_sum hours (λ h. k * f h) ≡ k * day_sum hours f
  unfolding day_sum
  day_sum-times k f =
      omega (
        arith,
        sum_to-same 24 (λ h. weight hours h * (k * f h)) (λ h. k * (weight hours h * f h)) (λ h. swapped (weight hours h) k (f h)),
        sum_to-times 24 k (λ h. weight hours h * f h),
      )

  pub day_sum-zero : day_sum hours (λ h. 0) ≡ 0
  day_sum-zero = omega (arith, day_sum-times 0 (λ h. 0))

  -- a number that stands in hour k counts as often as the hour does
  pub day_sum-once : (k n : ℕ) → 1 ≤ k → k ≤ 24 → day_sum hours (λ h. when (eqb k h) n) ≡ weight hours k * n
  unfolding day_sum
  day_sum-once k n a b =
      omega (
        arith,
        sum_to-once 24 k (λ h. weight hours h * when (eqb k h) n) a b (λ h z. rw (ne_eqb k h z) (mul-zero (weight hours h))),
        here,
      )
    where
      here : weight hours k * when (eqb k k) n ≡ weight hours k * n
      here = rw (eq-eqb k k refl)

  pub every_hour-at : (t : ℕ → Bool) → every_hour hours t ≡ true → (h : ℕ) → Counts hours h → t h ≡ true
  unfolding every_hour
  every_hour-at t e h c = rw (ne_eqb (weight hours h) 0 (omega (arith, c.counted))) at (all_to-at 24 _ e h c.first c.last)

  pub every_hour-all : (t : ℕ → Bool) → ((h : ℕ) → Counts hours h → t h ≡ true) → every_hour hours t ≡ true
  unfolding every_hour
  every_hour-all t f =
      all_to-all 24 _ (λ h a b. by-eq (λ u. (u || t h) ≡ true) (weight hours h) 0 (λ z. refl)
      (λ z. f h record { first = a; last = b; counted = omega arith }))

-- A FACT OF EACH HOUR, hour by hour: it is computed where it stands
abbrev pub HourByHour : ℕ → (ℕ → Type 0) → Type 0
HourByHour zero P = Unit {0}
HourByHour (suc n) P = HourByHour n P × P (suc n)

hour-of : (n : ℕ) (P : ℕ → Type 0) → HourByHour n P → (h : ℕ) → 1 ≤ h → h ≤ n → P h
hour-of zero P a h f l = absurd (omega arith)
hour-of (suc n) P a h f l = go (le-suc_iff.0 l) (λ k. hour-of n P a.0 h f k)
  where
    go : (h ≤ n) ⊎ (h ≡ suc n) → (h ≤ n → P h) → P h
    go (inl k) before = before k
    go (inr k) before = rw k a.1

pub each-hour : {hours : ℕ} (P : ℕ → Type 0) → HourByHour 24 P → (h : ℕ) → Counts hours h → P h
each-hour P a h c = hour-of 24 P a h c.first c.last

-- of numbers that are equal in the hours that count: an hour that does not is not looked at
weighed-same : (w a b : ℕ) → 1 ≤ w → w * a ≡ w * b → b ≤ a
weighed-same w a b k e = elim (dec_le b a) [ yes l ↦ l | no g ↦ absurd (omega (arith, more (lt_of_not-le g))) ]
  where
    more : a < b → w * (a + 1) ≤ w * b
    more l = mul-le-mul_left w (omega arith)

pub each-counted : {hours : ℕ} (f g : ℕ → ℕ) → HourByHour 24 (λ h. weight hours h * f h ≡ weight hours h * g h) → (h : ℕ) → Counts hours h → f h ≡ g h
each-counted {hours} f g a h c =
    let e : weight hours h * f h ≡ weight hours h * g h = hour-of 24 (λ h. weight hours h * f h ≡ weight hours h * g h) a h c.first c.last in
    omega (arith, weighed-same _ _ _ c.counted e, weighed-same _ _ _ c.counted (sym e))

-- WHAT `weight` SAYS
-- each hour counts once, but for the one in which the clocks change
pub weight-else : (hours h : ℕ) → (h ≡ change_hour → ⊥) → weight hours h ≡ 1
unfolding weight
weight-else hours h other = rw (ne_eqb h change_hour other)

-- so a sum over the day is the plain one with that hour as often as it counts
pub times-apart : (often : ℕ) (f : ℕ → ℕ) → sum_to 24 (λ h. cond (eqb h change_hour) often 1 * f h) + f change_hour ≡ sum_to 24 f + often * f change_hour
unfolding sum_to
times-apart often f = omega arith

pub change-apart : (hours : ℕ) (f : ℕ → ℕ) → day_sum hours f + f change_hour ≡ sum_to 24 f + weight hours change_hour * f change_hour
unfolding day_sum weight
change-apart hours f = times-apart (hours - spring_hours) f

-- an hour that counts at all
pub counted : (hours h : ℕ) → is_counted hours h ≡ true → 1 ≤ weight hours h
unfolding is_counted
counted hours h e = at (weight hours h) e
  where
    at : (w : ℕ) → not (eqb w 0) ≡ true → 1 ≤ w
    at zero e = absurd (false≢true e)
    at (suc w) e = omega arith

-- hours of 24 and more lack none
pub all-counted : (hours h : ℕ) → spring_hours < hours → is_counted hours h ≡ true
unfolding is_counted weight
all-counted hours h long = at (eqb h change_hour)
  where
    at : (t : Bool) → not (eqb (cond t (hours - spring_hours) 1) 0) ≡ true
    at true = rw (ne_eqb (hours - spring_hours) 0 (omega arith))
    at false = refl
