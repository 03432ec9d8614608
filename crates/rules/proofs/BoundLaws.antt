-- M8: the bound of a branch, at any hourly prices: the steps' surplus, what the decided blocks bring, and the gain at those prices of the undecided
-- ones. No lawful completion has more welfare, so dropping by it changes nothing. Let in hour by hour and in part (document 01's bound), the
-- undecided blocks gain no less. Assumes nothing.
use Prim.Native.Nat.{ℕ, ◌+◌, ◌-◌, ◌*◌, ◌≤◌}
use mathlib.Core.Bool.{Bool, true, false}
use mathlib.Core.Path.{◌≡◌, ap}
use mathlib.Core.List.{List, [], ◌∷◌, ◌++◌}
use native.Mathlib.Omega.{arith}
use native.Mathlib.Nat.{mul-le-mul_left}
use lib.Dec.{ltb}
use lib.ListN.{length, drop}
use Rattle.rules.specs.Orders.{Side, buy, sell, Block}
use Rattle.rules.specs.Hour.{by_side, when}
use Rattle.rules.specs.Day.{
  Day,
  day_sum,
  steps_in,
  taken,
  over_blocks,
  sells,
  buys,
  hour_of,
  set_prices,
  hour_count,
  price_sum,
  lawful,
  blocks_value,
  blocks_cost,
  executed,
  welfare,
}
use Rattle.rules.specs.Outcome.{outcome}
use Rattle.rules.specs.Contender.{Counts, quantities_in, PricesInRange, HoursInRange}
use Rattle.rules.proofs.ExecutionLaws.{execution-within, execution-balances}
use Rattle.rules.proofs.DualityLaws.{value, cost, surplus, weak-duality}
use Rattle.rules.proofs.HourSums.{day_sum-le, day_sum-same, day_sum-add, day_sum-times}
use Rattle.rules.proofs.DayLaws.{earned, paid, earned-is, paid-is, value-by-hour, cost-by-hour, executed-in, all-clear, welfare-is}
use Rattle.rules.proofs.SearchLaws.{search, bound-sound, search-is-best}

-- what the prices leave a block over all its hours, 0 or more
unfoldable pub gain : ℕ → (ℕ → ℕ) → Block → ℕ
gain hours p b =
    b.quantity
    * by_side b.side (b.price * hour_count hours b - price_sum hours p b) (price_sum hours p b - b.price * hour_count hours b)

-- and hour by hour, as if it could be let in by the hour and in part
unfoldable pub hour_gain : (ℕ → ℕ) → ℕ → Block → ℕ
hour_gain p h b = when (b.runs h) (b.quantity * by_side b.side (b.price - p h) (p h - b.price))

-- a set is its decided part and the rest
pub taken-split : (f : Block → ℕ) (l : List Block) (d s : List Bool) →
    over_blocks f (taken l (d ++ s)) ≡ over_blocks f (taken l d) + over_blocks f (taken (drop (length d) l) s)
taken-split f [] [] s = omega arith
taken-split f [] (x ∷ d) s = omega arith
taken-split f (b ∷ l) [] s = omega arith
taken-split f (b ∷ l) (true ∷ d) s = omega (arith, taken-split f l d s)
taken-split f (b ∷ l) (false ∷ d) s = taken-split f l d s

-- a taken block brings at most its gain at the prices
module _ (hours : ℕ) (p : ℕ → ℕ) where
  short-of : (q a b : ℕ) → q * a ≤ q * b + q * (a - b)
  short-of q a b = let k : a ≤ b + (a - b) = omega arith in omega (arith, mul-le-mul_left q k)

  block-brings : (side : Side) (q limit sum : ℕ) →
      by_side side (q * limit) 0 + by_side side 0 (q * sum)
      ≤ by_side side 0 (q * limit) + by_side side (q * sum) 0 + q * by_side side (limit - sum) (sum - limit)
  block-brings buy q limit sum = omega (arith, short-of q limit sum)
  block-brings sell q limit sum = omega (arith, short-of q sum limit)

  pub blocks-bring : (l : List Block) (s : List Bool) →
      blocks_value hours (taken l s) + earned hours p (taken l s)
      ≤ blocks_cost hours (taken l s) + paid hours p (taken l s) + over_blocks (gain hours p) l
  unfolding blocks_value earned blocks_cost paid gain
  blocks-bring [] s = omega arith
  blocks-bring (b ∷ l) [] = omega arith
  blocks-bring (b ∷ l) (true ∷ s) =
      omega (arith, block-brings b.side b.quantity (b.price * hour_count hours b) (price_sum hours p b), blocks-bring l s)
  blocks-bring (b ∷ l) (false ∷ s) = omega (arith, blocks-bring l s)

-- THE BOUND
unfoldable pub bound : Day → (ℕ → ℕ) → List Bool → ℕ
bound day p d =
    day_sum day.hours (λ h. surplus (p h) (steps_in h day.steps))
    + over_blocks (gain day.hours p) (drop (length d) day.blocks)
    + (blocks_value day.hours (taken day.blocks d) + earned day.hours p (taken day.blocks d))
    - (blocks_cost day.hours (taken day.blocks d) + paid day.hours p (taken day.blocks d))

module _ (day : Day) (prices : PricesInRange day.steps) (hours : HoursInRange day.steps) (p : ℕ → ℕ) where
  module _ (set : List Bool) (law : lawful day set ≡ true) where
    abbrev S : List Block
    S = taken day.blocks set

    abbrev v : ℕ → ℕ
    v h = value (steps_in h day.steps) (quantities_in h day.steps (executed day S))

    abbrev c : ℕ → ℕ
    c h = cost (steps_in h day.steps) (quantities_in h day.steps (executed day S))

    hour-weak : (h : ℕ) → Counts day.hours h →
        v h + p h * over_blocks (buys h) S ≤ c h + surplus (p h) (steps_in h day.steps) + p h * over_blocks (sells h) S
    hour-weak h k =
        rw (executed-in day prices hours S h)
        (weak-duality (hour_of day S h) (p h) _ (execution-within (hour_of day S h) (set_prices day S h))
        (execution-balances (hour_of day S h) (set_prices day S h) (all-clear day prices hours set law h k)))

    -- weak duality of the day
    pub steps-bring : day_sum day.hours v + paid day.hours p S
        ≤ day_sum day.hours c + day_sum day.hours (λ h. surplus (p h) (steps_in h day.steps)) + earned day.hours p S
    steps-bring =
        let s : ℕ → ℕ = λ h. surplus (p h) (steps_in h day.steps) in
        let ps : ℕ → ℕ = λ h. p h * over_blocks (sells h) S in
        let pb : ℕ → ℕ = λ h. p h * over_blocks (buys h) S in
        omega (
          arith,
          day_sum-le day.hours (λ h. v h + pb h) (λ h. (c h + s h) + ps h) hour-weak,
          day_sum-add day.hours v pb,
          day_sum-add day.hours (λ h. c h + s h) ps,
          day_sum-add day.hours c s,
          earned-is day.hours p S,
          paid-is day.hours p S,
        )

  -- M8: no lawful completion of the decided blocks has more welfare than the bound
  pub welfare-bound : (d s : List Bool) → lawful day (d ++ s) ≡ true → welfare day (d ++ s) ≤ bound day p d
  unfolding bound blocks_value blocks_cost earned paid
  welfare-bound d s law =
      let all = taken day.blocks (d ++ s) in
      let H = day.hours in
      omega (
        arith,
        welfare-is day prices hours (d ++ s) law,
        value-by-hour day prices hours all (executed day all),
        cost-by-hour day prices hours all (executed day all),
        steps-bring (d ++ s) law,
        blocks-bring H p (drop (length d) day.blocks) s,
        taken-split (λ b. by_side b.side (b.quantity * (b.price * hour_count H b)) 0) day.blocks d s,
        taken-split (λ b. by_side b.side 0 (b.quantity * (b.price * hour_count H b))) day.blocks d s,
        taken-split (λ b. by_side b.side 0 (b.quantity * price_sum H p b)) day.blocks d s,
        taken-split (λ b. by_side b.side (b.quantity * price_sum H p b) 0) day.blocks d s,
      )

  -- so the search that drops by it gives the best of all sets
  pub bounded-search-is-best : (set : List Bool) → length set ≡ length day.blocks → lawful day set ≡ true →
      (search day (λ n d need. ltb (bound day p d) need) (length day.blocks) [] record { need = welfare day set; set = set }).set ≡ outcome day
  bounded-search-is-best = search-is-best day prices hours _ (bound-sound day (bound day p) welfare-bound)

-- HOUR BY HOUR AND IN PART the gain is no less: document 01's bound is no sharper
module _ (hours : ℕ) (p : ℕ → ℕ) where
  hour-gain-buy : (t : Bool) (x q y : ℕ) → q * when t x ≤ q * when t y + when t (q * (x - y))
  hour-gain-buy true x q y = let k : x ≤ y + (x - y) = omega arith in omega (arith, mul-le-mul_left q k)
  hour-gain-buy false x q y = omega arith

  at-most-by-hour : (f : ℕ → Bool) (q : ℕ) (x y : ℕ → ℕ) →
      q * day_sum hours (λ h. when (f h) (x h))
      ≤ q * day_sum hours (λ h. when (f h) (y h)) + day_sum hours (λ h. when (f h) (q * (x h - y h)))
  at-most-by-hour f q x y =
      omega (
        arith,
        day_sum-le hours (λ h. q * when (f h) (x h)) (λ h. q * when (f h) (y h) + when (f h) (q * (x h - y h)))
            (λ h k. hour-gain-buy (f h) (x h) q (y h)),
        day_sum-add hours (λ h. q * when (f h) (y h)) (λ h. when (f h) (q * (x h - y h))),
        day_sum-times hours q (λ h. when (f h) (x h)),
        day_sum-times hours q (λ h. when (f h) (y h)),
      )

  times-count : (f : ℕ → Bool) (x : ℕ) → day_sum hours (λ h. when (f h) x) ≡ x * day_sum hours (λ h. when (f h) 1)
  times-count f x =
      omega (
        arith,
        day_sum-same hours (λ h. when (f h) x) (λ h. x * when (f h) 1) (λ h. one (f h)),
        day_sum-times hours x (λ h. when (f h) 1),
      )
    where
      one : (t : Bool) → when t x ≡ x * when t 1
      one true = omega arith
      one false = omega arith

  at_least : (q a b n : ℕ) → q * a ≤ q * b + n → q * (a - b) ≤ n
  at_least q a b n h = elim (native.Mathlib.Decide.dec_le a b) [
    | yes k ↦ rw (native.Mathlib.Nat.sub-eq-zero_of_le k) (omega arith)
    | no k ↦
        let t = native.Mathlib.Nat.le_dest (native.Mathlib.Nat.le_of_lt (native.Mathlib.Nat.lt_of_not-le k)) in
        rw (← t.1, native.Mathlib.Nat.add-sub_cancel_left b t.0) (omega (arith, ap (λ x. q * x) t.1))
  ]

  pub gain-by-hour : (b : Block) → gain hours p b ≤ day_sum hours (λ h. hour_gain p h b)
  unfolding gain hour_gain hour_count price_sum
  gain-by-hour b = go b.side b.price b.quantity b.runs
    where
      go : (side : Side) (x q : ℕ) (f : ℕ → Bool) →
          q * by_side side (x * day_sum hours (λ h. when (f h) 1) - day_sum hours (λ h. when (f h) (p h)))
          (day_sum hours (λ h. when (f h) (p h)) - x * day_sum hours (λ h. when (f h) 1))
          ≤ day_sum hours (λ h. when (f h) (q * by_side side (x - p h) (p h - x)))
      go buy x q f = at_least q _ _ _ (omega (arith, at-most-by-hour f q (λ h. x) p, ap (λ n. q * n) (times-count f x)))
      go sell x q f = at_least q _ _ _ (omega (arith, at-most-by-hour f q p (λ h. x), ap (λ n. q * n) (times-count f x)))
