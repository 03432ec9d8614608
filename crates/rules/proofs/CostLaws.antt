-- THE COST of a set: its loss, and after it what its left-out blocks come to by their ranks. The loss counts first, for the ties of at most 32 blocks come
-- to less than one more of it. With the rank of each block by number the published set costs least of all lawful sets, in whatever order the day's blocks
-- stand, and no two sets cost the same: a search for the least cost finds it, ties and all. Assumes nothing.
use Prim.Native.Nat.{ℕ, ◌+◌, ◌*◌, ◌^◌, ◌≤◌, ◌<◌}
use mathlib.Core.Bool.{Bool, true, false}
use mathlib.Core.Path.{◌≡◌, sym, ap, ◌∙◌}
use mathlib.Core.List.{List}
use mathlib.Core.Logic.{◌⊎◌, inl, inr}
use native.Mathlib.Omega.{arith}
use native.Mathlib.Nat.{eq-or-lt_of_le, mul-le-mul_right}
use lib.ListN.{length}
use Rattle.rules.specs.Day.{Day, lawful, welfare}
use Rattle.rules.specs.Outcome.{outcome}
use Rattle.rules.specs.Contender.{HoldsLowest, PricesInRange, HoursInRange}
use Rattle.rules.proofs.BestLaws.{FirstBest, outcome-first}
use Rattle.rules.proofs.DayLaws.{empty-lawful}
use Rattle.rules.proofs.CostSearchLaws.{Adds}
use Rattle.rules.proofs.RearrangedLaws.{
  by_order,
  IsOrder,
  rearranged,
  length-by,
  by-place-back,
  size-rearranged,
  lawful-rearranged,
  welfare-rearranged,
}
use Rattle.rules.proofs.Ranks.{rank_of, rank-small}
use Rattle.rules.proofs.TieLaws.{ties, ties-fit, holds-ties, ties-apart, ties-rearranged}

-- more than the ties of 32 blocks come to
abbrev pub tie_room : ℕ
tie_room = 2 ^ 38

-- what a set costs, by a loss and a rank
abbrev pub cost_of : (List Bool → ℕ) → (ℕ → ℕ) → List Bool → ℕ
cost_of loss rank s = loss s * tie_room + ties rank s

-- so they do, with ranks by number in any order
pub ties-room : (order : ℕ → ℕ) (s : List Bool) → length s ≤ 32 → ties (λ j. rank_of (order j)) s < tie_room
ties-room order s few =
    omega (arith, ties-fit (λ j. rank_of (order j)) s (2 ^ 31) (λ j k. rank-small (order j)), mul-le-mul_right (2 ^ 31) few)

-- SETS OF THE DAY REARRANGED, with each block's rank by number
module _ (order place : ℕ → ℕ) (day : Day) (is : IsOrder (length day.blocks) order place) (few : length day.blocks ≤ 32) where
  abbrev n : ℕ
  n = length day.blocks

  abbrev D : Day
  D = rearranged order day

  abbrev rank : ℕ → ℕ
  rank j = rank_of (order j)

  -- a set put back by number
  abbrev back : List Bool → List Bool
  back s = by_order place n s

  back-size : (s : List Bool) → length (back s) ≡ n
  back-size s = length-by false place n s

  module _ (s : List Bool) (size : length s ≡ length D.blocks) where
    as_many : length s ≡ n
    as_many = size ∙ size-rearranged order place day is

    again : by_order order n (back s) ≡ s
    again = by-place-back n order place is s as_many

    -- it comes to the same
    back-ties : ties rank s ≡ ties rank_of (back s)
    back-ties = ap (ties rank) (sym again) ∙ ties-rearranged n order place is rank_of (back s) (back-size s)

  -- NO TWO SETS COST THE SAME, lawful or not
  pub costs-apart : (loss : List Bool → ℕ) (s t : List Bool) →
      length s ≡ length (rearranged order day).blocks → length t ≡ length (rearranged order day).blocks →
      cost_of loss (λ j. rank_of (order j)) s ≡ cost_of loss (λ j. rank_of (order j)) t → s ≡ t
  costs-apart loss s t size size' e =
      let room = ties-room order s (omega (arith, as_many s size)) in
      let room' = ties-room order t (omega (arith, as_many t size')) in
      let tied : ties rank s ≡ ties rank t = omega arith in
      let met : back s ≡ back t =
      ties-apart (back s) (back t) (back-size s ∙ sym (back-size t)) (omega (arith, back-size s)) (sym (back-ties s size) ∙ tied ∙ back-ties t size') in
      sym (again s size) ∙ ap (by_order order n) met ∙ again t size'

  -- THE OUTCOME COSTS LEAST of all lawful sets, by any loss that adds up with welfare to one number
  module _ (prices : PricesInRange day.steps) (hours : HoursInRange day.steps)
      (loss : List Bool → ℕ) (whole : ℕ) (adds : Adds (rearranged order day) loss whole) where
    first : FirstBest day (outcome day)
    first = outcome-first day (empty-lawful day prices hours)

    -- the outcome, in the order
    abbrev best : List Bool
    best = by_order order n (outcome day)

    best-size : length best ≡ n
    best-size = length-by false order n (outcome day)

    best-adds : welfare day (outcome day) + loss best ≡ whole
    best-adds =
        rw (welfare-rearranged order place day is (outcome day)) at
        (adds best (best-size ∙ sym (size-rearranged order place day is)) (lawful-rearranged order place day is (outcome day) ∙ first.is_lawful))

    pub outcome-costs-least : (t : List Bool) → length t ≡ length (rearranged order day).blocks → lawful (rearranged order day) t ≡ true →
        cost_of loss (λ j. rank_of (order j)) (by_order order (length day.blocks) (outcome day)) ≤ cost_of loss (λ j. rank_of (order j)) t
    outcome-costs-least t size law = go (eq-or-lt_of_le (omega (arith, w.0, best-adds, back-adds)))
      where
        back-lawful : lawful day (back t) ≡ true
        back-lawful = sym (lawful-rearranged order place day is (back t)) ∙ rw (again t size) law

        w : (welfare day (back t) ≤ welfare day (outcome day)) × (welfare day (back t) ≡ welfare day (outcome day) → HoldsLowest (outcome day) (back t))
        w = first.wins (back t) (back-size t) back-lawful

        back-adds : welfare day (back t) + loss t ≡ whole
        back-adds = rw (← welfare-rearranged order place day is (back t), again t size) (adds t size law)

        go : (loss best ≡ loss t) ⊎ (loss best < loss t) → cost_of loss rank best ≤ cost_of loss rank t
        go (inl e) =
            let tied = holds-ties (outcome day) (back t) (first.of_blocks ∙ sym (back-size t)) (omega (arith, first.of_blocks))
            (w.1 (omega (arith, best-adds, back-adds))) in
            omega (arith, ties-rearranged n order place is rank_of (outcome day) first.of_blocks, back-ties t size)
        go (inr k) = omega (arith, ties-room order best (omega (arith, best-size)))
