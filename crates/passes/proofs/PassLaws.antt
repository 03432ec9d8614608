-- A PASS over all blocks: one that finds a set, with fuel left, has found the cheapest one; one with a large limit finds; and one with enough fuel does not
-- spend it. Assumes nothing.
use Prim.Native.Nat.{ℕ, zero, suc, ◌+◌, ◌-◌, ◌*◌, ◌/◌, ◌^◌, ◌≤◌, ◌<◌}
use mathlib.Core.Path.{◌≡◌, refl, sym, ap, ◌∙◌}
use mathlib.Core.List.{List, []}
use mathlib.Core.Bool.{Bool, true, false, not, ◌||◌}
use native.Mathlib.Numerals.{add-one}
use lib.Dec.{eqb}
use native.Mathlib.Omega.{arith}
use native.Mathlib.Decide.{ℕ_discrete}
use borrow.Author.Tests.{ne_eqb}
use native.Mathlib.Nat.{mul-le-mul_right}
use lib.ListN.{length, drop, get_or, replicate, length-replicate}
use lib.Pow.{shr_le, pow_pos, pow_mono}
use Rattle.rules.specs.Orders.{Step, Block}
use Rattle.rules.specs.Day.{Day, change_hour, day_sum, sum_to, taken, decisions, over_blocks, hour_of}
use Rattle.rules.proofs.HourSums.{day_sum-add}
use Rattle.rules.proofs.Tests.{clash}
use Rattle.rules.proofs.DayLaws.{empty-lawful}
use Rattle.rules.proofs.BoundLaws.{gain}
use Rattle.rules.proofs.NeighbourLaws.{slack}
use Rattle.rules.proofs.LossLaws.{day_sum-counted, gaps, whole_of, loss_of, losses-none, losses-empty, bound-with}
use Rattle.rules.proofs.PlaceLaws.{place, place_none}
use Rattle.rules.proofs.CostSearchLaws as by-cost
use Rattle.rules.proofs.TieLaws.{ties, ties-fit}
use Rattle.rules.proofs.CostLaws.{tie_room}
use Rattle.book.specs.Bounds.{most_blocks}
use Rattle.places.specs.Layout.{hour_places, last_limit, most_loss, gain_column, rank_column}
use Rattle.places.specs.Hours.{cell, row_width}
use Rattle.places.specs.Blocks.{parent_at, rank_at}
use Rattle.places.specs.Reach.{is_out}
use Rattle.branches.specs.Tables.{Tables}
use Rattle.branches.specs.Meaning.{Fits, Known, Turning, Branch, loss_above, cost_above}
use Rattle.search.specs.Meaning.{cost_limit, best_as, Held, Kept, DayOf, Sought, Outcome, StepsAre, ExploredFrom}
use Rattle.orders.proofs.ColumnLaws.{zeros}
use Rattle.places.proofs.CountedLaws.{change-apart, day-sum}
use Rattle.branches.proofs.ClosedLaws.{none-closed}
use Rattle.branches.proofs.SetLaws.{an-hour, gap-of-lawful, rest_below}
use Rattle.search.specs.declared.Best.{Best}
use Rattle.passes.specs.Passes.{is_linked, root, start_at, Passed, Cheapest}

-- THE ROOT
pub root-fits : (n : ℕ) → Fits n root
root-fits n = record { set_fits = pow_pos n; loss_fits = omega arith; tie_fits = omega arith; places_size = refl; places_fit = λ i. omega (arith, zeros hour_places i) }

root-branch : (day : Day) (p : ℕ → ℕ) → Branch day p [] root
unfolding decisions
root-branch day p = record {
  set_is = refl;
  loss_is = sym (losses-none day.hours p day.blocks);
  places_are = λ h c. zeros hour_places (h - 1) ∙ sym (place_none day.blocks h);
}

-- a pass is an exploration from it, once no set is found yet
pub pass-from : {t : Tables} {steps : ℕ → List Step} {limit fuel : ℕ} {start r : Best} → start ≡ start_at limit fuel →
    Kept t.count start r → ExploredFrom t steps t.count 0 root start r → Passed t steps limit fuel r
pass-from e kept explored = (rw e at kept, rw e at explored)

pub start-held : {limit fuel : ℕ} {start : Best} → start ≡ start_at limit fuel → limit ≤ 2 * last_limit → Held start
start-held e fits = rw e record { limit_fits = fits; tie_fits = omega arith }

-- what is below the limit in loss is so in cost
below-limit : (limit loss tie : ℕ) → tie ≤ most_loss → loss < limit → loss * tie_room + tie < limit * tie_room + 0
below-limit limit loss tie fits less = omega arith

limit-below : (limit loss tie : ℕ) → loss * tie_room + tie < limit * tie_room + 0 → loss < limit
limit-below limit loss tie less = omega arith

-- and none is out
none_out : (k : ℕ) → is_out 0 k ≡ false
none_out k = let z : 0 / 2 ^ k ≡ 0 = omega (arith, shr_le 0 k) in rw z

-- small sums
sum_fits : (n m : ℕ) (f : ℕ → ℕ) → ((h : ℕ) → f h ≤ m) → sum_to n f ≤ n * m
unfolding sum_to
sum_fits zero m f k = omega arith
sum_fits (suc n) m f k = omega (arith, sum_fits n m f k, k (suc n))

module _ {tables : Tables} (few : tables.count ≤ most_blocks) (small : (i : ℕ) → get_or tables.blocks i 0 < 2 ^ 32)
    (smallGap : (i : ℕ) → get_or tables.gaps i 0 < 2 ^ 32) {day : Day} {p rest : ℕ → ℕ} (known : Known day p rest tables) where
  -- all gains together
  gains-fit : (n j : ℕ) → j + n ≡ tables.count → over_blocks (gain day.hours p) (drop j day.blocks) ≤ n * 2 ^ 32
  gains-fit zero j e = none day.blocks j (omega (arith, known.counted))
    where
      none : (l : List Block) (k : ℕ) → length l ≤ k → over_blocks (gain day.hours p) (drop k l) ≤ 0
      none l k z = rw (lib.ListN.drop_of_length-le l z) (omega arith)
  gains-fit (suc n) j e =
      let s = known.shown j (omega arith) in
      rw s.next (omega (arith, s.gain_is, small (gain_column + j), gains-fit n (suc j) (omega arith)))

  -- the empty set's loss
  empty-loss : loss_above day p rest (replicate (length day.blocks) false) < last_limit
  unfolding loss_above loss_of gaps
  empty-loss =
      let none = replicate (length day.blocks) false in
      let size = length-replicate (length day.blocks) false ∙ known.counted in
      let law = empty-lawful day known.prices known.hours in
      let at : ℕ → ℕ = λ h. cell tables.gaps h (place day.blocks none h) in
      let g : ℕ → ℕ = λ h. slack (p h) (hour_of day (taken day.blocks none) h) in
      let small_at : (h : ℕ) → at h ≤ 2 ^ 32 = λ h. omega (arith, smallGap ((h - 1) * row_width tables.gaps + place day.blocks none h)) in
      omega (
        arith,
        losses-empty day.hours p day.blocks,
        gains-fit tables.count 0 (omega arith),
        day_sum-counted day.hours g (λ h. at h + rest h) (λ h c. gap-of-lawful known none size law h (an-hour c)),
        day_sum-add day.hours at rest,
        rw known.change_is at (day-sum day.hours at),
        change-apart tables.change at,
        mul-le-mul_right (at change_hour) known.change_few,
        small_at change_hour,
        sum_fits hour_places (2 ^ 32) at small_at,
      )

-- A PASS over all blocks of a day
module _ {tables : Tables} {day : Day} {p rest : ℕ → ℕ} (known : Known day p rest tables) where
  -- welfare and what a set loses by the tables add up to one number
  pub adds : by-cost.Adds day (loss_above day p rest) (whole_of day p - day_sum day.hours rest)
  unfolding loss_above
  adds =
      by-cost.adds-less day (loss_of day p) (loss_above day p rest) _ (day_sum day.hours rest) (by-cost.loss-adds day known.prices known.hours p)
      (λ set size law. omega (arith, bound-with day p [] set 0 rest (omega arith) (λ h c. rest_below known set (size ∙ known.counted) law h (an-hour c))))

  module _ {steps : ℕ → List Step} (turning : Turning tables) (same : StepsAre day steps) {limit fuel : ℕ} {r : Best}
      (pass : Passed tables steps limit fuel r) where
    outcome-of : Outcome day p rest tables tables.count [] (start_at limit fuel) r
    outcome-of = pass.1 day p rest [] same record {
      known = known;
      turning = turning;
      branch = root-branch day p;
      tie_is = unfold ties in refl;
      closed = none-closed known.parent;
      size = omega arith;
      out_of = λ t k l law less inside is. clash is (none_out k);
    }

    module _ (some : 0 < r.fuel) where
      whole-pass : by-cost.Pass day (Sought day p rest tables) (cost_above day p rest tables.blocks) (best_as tables.count (start_at limit fuel))
          (best_as tables.count r)
      whole-pass = rw known.counted (outcome-of.explored some)

      module _ {set : List Bool} (best : Cheapest day p rest tables set) where
        size : length set ≡ length day.blocks
        size = best.size ∙ sym known.counted

        -- a set that it finds is the cheapest one
        pub pass-is : r.limit < limit → (decisions tables.count r.set ≡ set) × (r.set < 2 ^ tables.count) × DayOf day set r.day
        pass-is less =
            let lower : cost_limit r < cost_limit (start_at limit fuel) = below-limit limit r.limit r.tie pass.0.tie_fits less in
            let e : decisions tables.count r.set ≡ set =
            by-cost.pass-least day _ _ _ _ whole-pass set size best.is_lawful best.sought
            (λ other l law. best.sought.cheapest other (l ∙ known.counted) law) (λ other l e. best.apart other (l ∙ known.counted) e) lower in
            (e, (outcome-of.found lower).0, rw e at (outcome-of.found lower).1)

        -- and it finds one where the limit is large
        pub pass-found : tables.count ≤ most_blocks → ((i : ℕ) → get_or tables.blocks i 0 < 2 ^ 32) → ((i : ℕ) → get_or tables.gaps i 0 < 2 ^ 32) →
            last_limit ≤ limit → r.limit < limit
        pass-found few small smallGap k =
            let none = replicate (length day.blocks) false in
            let none-size : length none ≡ tables.count = length-replicate (length day.blocks) false ∙ known.counted in
            let fits : ties (rank_at tables.blocks) none ≤ most_loss =
            omega (arith, ties-fit (rank_at tables.blocks) none (2 ^ 32) (λ j b. omega (arith, small (rank_column + j))), mul-le-mul_right (2 ^ 32) few) in
            let cheap : cost_above day p rest tables.blocks set < cost_limit (start_at limit fuel) =
            omega (
              arith,
              best.sought.cheapest none none-size (empty-lawful day known.prices known.hours),
              below-limit last_limit (loss_above day p rest none) (ties (rank_at tables.blocks) none) fits (empty-loss few small smallGap known),
            ) in
            limit-below limit r.limit r.tie (by-cost.pass-finds day _ _ _ _ whole-pass set size best.is_lawful best.sought cheap)

-- enough fuel is not spent
pub fuel-left : {tables : Tables} {steps : ℕ → List Step} {limit fuel : ℕ} {r : Best} → tables.count ≤ most_blocks → 2 ^ 32 ≤ fuel →
    Passed tables steps limit fuel r → 0 < r.fuel
fuel-left {tables} few enough pass = omega (arith, pass.0.fuel_spent, pow_mono {i = tables.count} {j = 32} few)

-- WHETHER BLOCKS ARE LINKED: none of the first ones and one more, or one of them
pub linked-none : (blocks : List ℕ) (i : ℕ) → is_linked blocks i ≡ false → parent_at blocks i ≡ 0 → is_linked blocks (i + 1) ≡ false
unfolding is_linked
linked-none blocks i none z = rw (add-one, none, z) refl

pub linked-some : (blocks : List ℕ) (i n : ℕ) → i < n → (parent_at blocks i ≡ 0 → ⊥) → is_linked blocks n ≡ true
unfolding is_linked
linked-some blocks i zero inside named = absurd (omega arith)
linked-some blocks i (suc n) inside named = elim (ℕ_discrete i n) [
  | yes z ↦ rw (ne_eqb (parent_at blocks n) 0 (rw z at named)) (last (is_linked blocks n))
  | no z ↦ rw (linked-some blocks i n (omega arith) named) refl
]
  where
    last : (b : Bool) → (b || true) ≡ true
    last true = refl
    last false = refl
