-- The steps of the day and those of its hours: quantities by hour put in step order are the hours' own again, and a sum over all steps is a sum
-- over the hours. Assumes nothing.
use Prim.Native.Nat.{ℕ, ◌+◌, ◌*◌}
use mathlib.Core.Bool.{Bool, true, false}
use mathlib.Core.Path.{◌≡◌, refl}
use mathlib.Core.List.{List, [], ◌∷◌}
use native.Mathlib.Omega.{arith}
use lib.Dec.{eqb}
use lib.ListN.{drop, get_or}
use borrow.Author.Tests.{eqb-true, eq-eqb}
use Rattle.rules.specs.Orders.{Step}
use Rattle.rules.specs.Hour.{when}
use Rattle.rules.specs.Execution.{total₂}
use Rattle.rules.specs.Day.{weight, day_sum, keep, steps_in, in_step_order}
use Rattle.rules.specs.Contender.{Each, quantities_in, PricesInRange, HoursInRange}
use Rattle.rules.proofs.Tests.{by-test}
use Rattle.rules.proofs.ContenderCases
use Rattle.rules.proofs.HourSums.{day_sum-same, day_sum-add, day_sum-zero, day_sum-once}

-- ONE LIST OF QUANTITIES FOR EACH HOUR, put in step order
module _ (R : Step → ℕ → Type 0) where
  -- the first step's quantity and the rest, where the step is of the hour
  part : (t : Bool) (s : Step) (l : List Step) (qs : List ℕ) → Each R (keep t s l) qs → Each R l (drop (when t 1) qs)
  part true s l [] e = absurd e
  part true s l (q ∷ qs) e = e.1
  part false s l qs e = e

  front : (s : Step) (l : List Step) (qs : List ℕ) → Each R (s ∷ l) qs → R s (get_or qs 0 0)
  front s l [] e = absurd e
  front s l (q ∷ qs) e = e.0

  pub each-in-order : (l : List Step) (q : ℕ → List ℕ) → ((h : ℕ) → Each R (steps_in h l) (q h)) → Each R l (in_step_order q l)
  unfolding in_step_order
  each-in-order [] q e = tt
  each-in-order (s ∷ l) q e = (
    front s (steps_in s.hour l) (q s.hour) (rw (eq-eqb s.hour s.hour refl) at (e s.hour)),
    each-in-order l _ (λ h. part (eqb s.hour h) s (steps_in h l) (q h) (e h)),
  )

  pub quantities-in-order : (l : List Step) (q : ℕ → List ℕ) → ((h : ℕ) → Each R (steps_in h l) (q h)) →
      (h : ℕ) → quantities_in h l (in_step_order q l) ≡ q h
  unfolding in_step_order
  quantities-in-order [] q e h = nothing (q h) (e h)
    where
      nothing : (qs : List ℕ) → Each R [] qs → [] ≡ qs
      nothing [] z = refl
      nothing (x ∷ qs) z = absurd z
  quantities-in-order (s ∷ l) q e h =
      go (eqb s.hour h) (λ t. eqb-true s.hour h t) (e h)
      (quantities-in-order l _ (λ k. part (eqb s.hour k) s (steps_in k l) (q k) (e k)) h)
    where
      whole : (qs : List ℕ) → Each R (s ∷ steps_in h l) qs → get_or qs 0 0 ∷ drop 1 qs ≡ qs
      whole [] z = absurd z
      whole (x ∷ qs) z = refl

      go : (t : Bool) → (t ≡ true → s.hour ≡ h) → Each R (keep t s (steps_in h l)) (q h) →
          quantities_in h l (in_step_order (λ k. drop (when (eqb s.hour k) 1) (q k)) l) ≡ drop (when t 1) (q h) →
          keep t (get_or (q s.hour) 0 0) (quantities_in h l (in_step_order (λ k. drop (when (eqb s.hour k) 1) (q k)) l)) ≡ q h
      go true same z ih = rw (ih, same refl) (whole (q h) z)
      go false same z ih = ih

-- each of all steps with its quantity, so each of an hour's
pub each_in : (R : Step → ℕ → Type 0) (h : ℕ) (l : List Step) (qs : List ℕ) → Each R l qs → Each R (steps_in h l) (quantities_in h l qs)
each_in R h [] [] w = tt
each_in R h (s ∷ l) (q ∷ qs) w =
    by-test (λ t. Each R (keep t s (steps_in h l)) (keep t q (quantities_in h l qs))) (eqb s.hour h)
    (λ _. (w.0, each_in R h l qs w.1)) (λ _. each_in R h l qs w.1)
each_in R h [] (q ∷ qs) w = elim w [ ]
each_in R h (s ∷ l) [] w = elim w [ ]

pub prices-in : (h : ℕ) (l : List Step) → PricesInRange l → PricesInRange (steps_in h l)
prices-in h [] r = tt
prices-in h (s ∷ l) r =
    by-test (λ t. PricesInRange (keep t s (steps_in h l))) (eqb s.hour h)
    (λ _. (r.0, r.1, prices-in h l r.2)) (λ _. prices-in h l r.2)

-- A SUM OVER ALL STEPS IS A SUM OVER THE HOURS
module _ (f : Step → ℕ → ℕ) where
  kept : (t : Bool) (s : Step) (q : ℕ) (l : List Step) (qs : List ℕ) →
      total₂ f (keep t s l) (keep t q qs) ≡ when t (f s q) + total₂ f l qs
  kept true s q l qs = refl
  kept false s q l qs = omega arith

  total-nil : (l : List Step) → total₂ f l [] ≡ 0
  total-nil [] = refl
  total-nil (s ∷ l) = refl

  pub over-hours : (hours : ℕ) (l : List Step) (qs : List ℕ) → HoursInRange l →
      total₂ (λ s q. weight hours s.hour * f s q) l qs ≡ day_sum hours (λ h. total₂ f (steps_in h l) (quantities_in h l qs))
  over-hours hours [] qs r = omega (arith, day_sum-zero hours)
  over-hours hours (s ∷ l) [] r =
      omega (arith, day_sum-zero hours, day_sum-same hours _ (λ h. 0) (λ h. total-nil (steps_in h (s ∷ l))))
  over-hours hours (s ∷ l) (q ∷ qs) r =
      omega (
        arith,
        day_sum-same hours (λ h. total₂ f (steps_in h (s ∷ l)) (quantities_in h (s ∷ l) (q ∷ qs)))
            (λ h. when (eqb s.hour h) (f s q) + total₂ f (steps_in h l) (quantities_in h l qs))
            (λ h. kept (eqb s.hour h) s q (steps_in h l) (quantities_in h l qs)),
        day_sum-add hours (λ h. when (eqb s.hour h) (f s q)) (λ h. total₂ f (steps_in h l) (quantities_in h l qs)),
        day_sum-once hours s.hour (f s q) r.0 r.1,
        over-hours hours l qs r.2,
      )
