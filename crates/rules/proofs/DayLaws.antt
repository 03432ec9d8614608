-- M7 and M10 for the day: a lawful set's welfare is not negative, no balanced quantities under the same set have more, a contender's set is lawful,
-- the empty set is lawful; and DEMAND 3: the outcome with its executed quantities beats every contender. Assumes nothing.
use Prim.Native.Nat.{ℕ, ◌+◌, ◌*◌, ◌≤◌}
use mathlib.Core.Bool.{Bool, true, false, false≢true}
use mathlib.Core.Path.{◌≡◌, refl}
use mathlib.Core.List.{List, [], ◌∷◌}
use native.Mathlib.Omega.{arith}
use native.Mathlib.Nat.{mul-le-mul_left}
use lib.Dec.{leb}
use lib.ListN.{length, replicate}
use borrow.Author.Tests.{leb-true}
use Rattle.rules.specs.Orders.{Side, buy, sell, Step, Block, Link}
use Rattle.rules.specs.Hour.{by_side, when, all_buys, all_sells, Hour, Pricing, cleared, does_not_clear, pricing, is_cleared, answered_price}
use Rattle.rules.specs.Execution.{test_side, execution, bought, sold}
use Rattle.rules.specs.Day.{
  Day,
  day_sum,
  every_hour,
  steps_in,
  taken,
  over_blocks,
  sells,
  buys,
  hour_of,
  hour_clears,
  set_prices,
  hour_count,
  price_sum,
  keeps_limit,
  every_block,
  keeps_limits,
  every_link,
  keeps_link,
  allowed,
  lawful,
  steps_value,
  steps_cost,
  blocks_value,
  blocks_cost,
  day_value,
  day_cost,
  executed,
  welfare,
}
use Rattle.rules.specs.Outcome.{outcome}
use Rattle.rules.specs.Contender.{
  Each,
  Within,
  quantities_in,
  Balanced,
  Counts,
  Contender,
  HasWelfare,
  WelfareAtMost,
  BeatsAll,
  PricesInRange,
  HoursInRange,
}
use Rattle.rules.proofs.Tests.{both}
use Rattle.rules.proofs.PricingLaws.{Clears, Clearable, Priced, pricing-is}
use Rattle.rules.proofs.SetPriceLaws.{day_shift, is-shift, shift_fits, price-at-shift, shift-clears}
use Rattle.rules.proofs.ExecutionLaws.{execution-within, execution-balances}
use Rattle.rules.proofs.DualityLaws.{value, cost, execution-attains, execution-greatest}
use Rattle.rules.proofs.HourSums.{day_sum-le, day_sum-same, day_sum-add, day_sum-times, day_sum-zero, every_hour-at, every_hour-all}
use Rattle.rules.proofs.ChainLaws.{each-in-order, quantities-in-order, each_in, prices-in, over-hours}
use Rattle.rules.proofs.BestLaws.{outcome-first}

-- BLOCKS AT PRICES
-- what the sell blocks of a set earn at hourly prices p, and what its buy blocks pay
unfoldable pub earned : ℕ → (ℕ → ℕ) → List Block → ℕ
earned hours p = over_blocks (λ b. by_side b.side 0 (b.quantity * price_sum hours p b))

unfoldable pub paid : ℕ → (ℕ → ℕ) → List Block → ℕ
paid hours p = over_blocks (λ b. by_side b.side (b.quantity * price_sum hours p b) 0)

priced : (t : Bool) (p q : ℕ) → p * when t q ≡ q * when t p
priced true p q = omega arith
priced false p q = omega arith

module _ (hours : ℕ) (p : ℕ → ℕ) where
  sum-none : (f : ℕ → Bool) → day_sum hours (λ h. p h * when (f h) 0) ≡ 0
  sum-none f = omega (arith, day_sum-zero hours, day_sum-same hours (λ h. p h * when (f h) 0) (λ h. 0) (λ h. omega (arith, priced (f h) (p h) 0)))

  sum-quantity : (f : ℕ → Bool) (q : ℕ) → day_sum hours (λ h. p h * when (f h) q) ≡ q * day_sum hours (λ h. when (f h) (p h))
  sum-quantity f q =
      omega (
        arith,
        day_sum-same hours (λ h. p h * when (f h) q) (λ h. q * when (f h) (p h)) (λ h. priced (f h) (p h) q),
        day_sum-times hours q (λ h. when (f h) (p h)),
      )

  block-earned : (side : Side) (q : ℕ) (f : ℕ → Bool) →
      day_sum hours (λ h. p h * when (f h) (by_side side 0 q)) ≡ by_side side 0 (q * day_sum hours (λ h. when (f h) (p h)))
  block-earned buy q f = sum-none f
  block-earned sell q f = sum-quantity f q

  block-paid : (side : Side) (q : ℕ) (f : ℕ → Bool) →
      day_sum hours (λ h. p h * when (f h) (by_side side q 0)) ≡ by_side side (q * day_sum hours (λ h. when (f h) (p h))) 0
  block-paid buy q f = sum-quantity f q
  block-paid sell q f = sum-none f

  sum-products : (f g : ℕ → ℕ) → day_sum hours (λ h. p h * (f h + g h)) ≡ day_sum hours (λ h. p h * f h) + day_sum hours (λ h. p h * g h)
  sum-products f g =
      omega (
        arith,
        day_sum-same hours (λ h. p h * (f h + g h)) (λ h. p h * f h + p h * g h) (λ h. omega arith),
        day_sum-add hours (λ h. p h * f h) (λ h. p h * g h),
      )

  pub earned-is : (set : List Block) → day_sum hours (λ h. p h * over_blocks (sells h) set) ≡ earned hours p set
  unfolding earned price_sum
  earned-is [] = omega (arith, sum-none (λ h. false), day_sum-same hours (λ h. p h * 0) (λ h. p h * when false 0) (λ h. refl))
  earned-is (b ∷ set) =
      omega (
        arith,
        sum-products (λ h. sells h b) (λ h. over_blocks (sells h) set),
        block-earned b.side b.quantity b.runs,
        earned-is set,
      )

  pub paid-is : (set : List Block) → day_sum hours (λ h. p h * over_blocks (buys h) set) ≡ paid hours p set
  unfolding paid price_sum
  paid-is [] = omega (arith, sum-none (λ h. false), day_sum-same hours (λ h. p h * 0) (λ h. p h * when false 0) (λ h. refl))
  paid-is (b ∷ set) =
      omega (
        arith,
        sum-products (λ h. buys h b) (λ h. over_blocks (buys h) set),
        block-paid b.side b.quantity b.runs,
        paid-is set,
      )

  -- a block within its limit does not lose at the prices
  block-gains : (b : Block) → keeps_limit hours p b ≡ true →
      by_side b.side 0 (b.quantity * (b.price * hour_count hours b)) + by_side b.side (b.quantity * price_sum hours p b) 0
      ≤ by_side b.side (b.quantity * (b.price * hour_count hours b)) 0 + by_side b.side 0 (b.quantity * price_sum hours p b)
  unfolding keeps_limit
  block-gains b = go b.side b.quantity (b.price * hour_count hours b) (price_sum hours p b)
    where
      go : (side : Side) (q limit sum : ℕ) → test_side side (leb sum limit) (leb limit sum) ≡ true →
          by_side side 0 (q * limit) + by_side side (q * sum) 0 ≤ by_side side (q * limit) 0 + by_side side 0 (q * sum)
      go buy q limit sum e = let k : sum ≤ limit = leb-true _ _ e in omega (arith, mul-le-mul_left q k)
      go sell q limit sum e = let k : limit ≤ sum = leb-true _ _ e in omega (arith, mul-le-mul_left q k)

  pub blocks-gain : (set : List Block) → every_block (keeps_limit hours p) set ≡ true →
      blocks_cost hours set + paid hours p set ≤ blocks_value hours set + earned hours p set
  unfolding blocks_cost paid blocks_value earned
  blocks-gain [] e = omega arith
  blocks-gain (b ∷ set) e =
      let t = both (keeps_limit hours p b) (every_block (keeps_limit hours p) set) e in
      omega (arith, block-gains b t.0, blocks-gain set t.1)

-- BALANCED QUANTITIES are within the totals
bought-all : (l : List Step) (qs : List ℕ) → Each Within l qs → bought l qs ≤ all_buys l
unfolding bought
bought-all [] [] w = omega arith
bought-all (s ∷ l) (q ∷ qs) w = omega (arith, go s.side s.quantity w.0, bought-all l qs w.1)
  where
    go : (side : Side) (own : ℕ) → q ≤ own → by_side side q 0 ≤ by_side side own 0
    go buy own h = h
    go sell own h = omega arith
bought-all [] (q ∷ qs) w = elim w [ ]
bought-all (s ∷ l) [] w = elim w [ ]

sold-all : (l : List Step) (qs : List ℕ) → Each Within l qs → sold l qs ≤ all_sells l
unfolding sold
sold-all [] [] w = omega arith
sold-all (s ∷ l) (q ∷ qs) w = omega (arith, go s.side s.quantity w.0, sold-all l qs w.1)
  where
    go : (side : Side) (own : ℕ) → q ≤ own → by_side side 0 q ≤ by_side side 0 own
    go buy own h = omega arith
    go sell own h = h
sold-all [] (q ∷ qs) w = elim w [ ]
sold-all (s ∷ l) [] w = elim w [ ]

pub balanced-clearable : (h : Hour) (qs : List ℕ) → Each Within h.steps qs → Balanced h qs → Clearable h
balanced-clearable h qs w b = record {
  buys_suffice = omega (arith, bought-all h.steps qs w);
  sells_suffice = omega (arith, sold-all h.steps qs w);
}

-- no block is taken
pub none-taken : (l : List Block) → taken l (replicate (length l) false) ≡ []
none-taken [] = refl
none-taken (b ∷ l) = none-taken l

-- THE LAW OF `allowed`: the empty set is
allowed-empty : (day : Day) → allowed day (replicate (length day.blocks) false) ≡ true
unfolding allowed keeps_link
allowed-empty day = rw (none-taken day.blocks) (go day.links)
  where
    go : (l : List Link) → every_link (keeps_link []) l ≡ true
    go [] = refl
    go (link ∷ l) = go l

-- THE DAY, its steps' prices and hours in range
module _ (day : Day) (prices : PricesInRange day.steps) (hours : HoursInRange day.steps) where
  module _ (set : List Block) where
    -- THE LAW OF `set_prices`: the price of an hour that clears clears it
    pub set_prices-clear : (h : ℕ) → hour_clears day set h ≡ true → Clears (hour_of day set h) (set_prices day set h)
    set_prices-clear h e =
        rw (price-at-shift day prices set h)
        (shift-clears day prices set (day_shift day set) (shift_fits (is-shift day set)) h e)

    pub clearable-clears : (h : ℕ) → Clearable (hour_of day set h) → hour_clears day set h ≡ true
    unfolding hour_clears
    clearable-clears h c = go (pricing (hour_of day set h)) (pricing-is (hour_of day set h) (prices-in h day.steps prices))
      where
        go : (a : Pricing) → Priced (hour_of day set h) a → is_cleared a ≡ true
        go (cleared l u p) s = refl
        go does_not_clear s = absurd (s c)

    -- the executed quantities, hour by hour
    pub executed-in : (h : ℕ) → quantities_in h day.steps (executed day set) ≡ execution (hour_of day set h) (set_prices day set h)
    unfolding executed
    executed-in h = quantities-in-order Within day.steps _ (λ k. execution-within (hour_of day set k) (set_prices day set k)) h

    pub executed-within : Each Within day.steps (executed day set)
    unfolding executed
    executed-within = each-in-order Within day.steps _ (λ k. execution-within (hour_of day set k) (set_prices day set k))

    -- value and cost, hour by hour
    pub value-by-hour : (qs : List ℕ) → day_value day set qs
        ≡ day_sum day.hours (λ h. value (steps_in h day.steps) (quantities_in h day.steps qs)) + blocks_value day.hours set
    unfolding day_value steps_value value
    value-by-hour qs = rw (over-hours (λ s q. by_side s.side (q * s.price) 0) day.hours day.steps qs hours)

    pub cost-by-hour : (qs : List ℕ) → day_cost day set qs
        ≡ day_sum day.hours (λ h. cost (steps_in h day.steps) (quantities_in h day.steps qs)) + blocks_cost day.hours set
    unfolding day_cost steps_cost cost
    cost-by-hour qs = rw (over-hours (λ s q. by_side s.side 0 (q * s.price)) day.hours day.steps qs hours)

    -- every hour clears at its price
    module _ (clear : (h : ℕ) → Counts day.hours h → Clears (hour_of day set h) (set_prices day set h)) where
      abbrev ex : ℕ → List ℕ
      ex h = quantities_in h day.steps (executed day set)

      abbrev v : ℕ → ℕ
      v h = value (steps_in h day.steps) (ex h)

      abbrev c : ℕ → ℕ
      c h = cost (steps_in h day.steps) (ex h)

      -- the steps of an hour lose nothing at its price
      hour-gains : (h : ℕ) → Counts day.hours h →
          c h + set_prices day set h * over_blocks (sells h) set ≤ v h + set_prices day set h * over_blocks (buys h) set
      hour-gains h k =
          rw (executed-in h) (omega (arith, execution-attains (hour_of day set h) (set_prices day set h) (set_prices day set h) (clear h k) (clear h k)))

      steps-gain : day_sum day.hours c + earned day.hours (set_prices day set) set
          ≤ day_sum day.hours v + paid day.hours (set_prices day set) set
      steps-gain =
          let p = set_prices day set in
          omega (
            arith,
            day_sum-le day.hours (λ h. c h + p h * over_blocks (sells h) set) (λ h. v h + p h * over_blocks (buys h) set) hour-gains,
            day_sum-add day.hours c (λ h. p h * over_blocks (sells h) set),
            day_sum-add day.hours v (λ h. p h * over_blocks (buys h) set),
            earned-is day.hours p set,
            paid-is day.hours p set,
          )

      -- M7: with each block within its limit the cost does not pass the value
      pub value-covers-cost : keeps_limits day set ≡ true → day_cost day set (executed day set) ≤ day_value day set (executed day set)
      unfolding keeps_limits
      value-covers-cost k =
          omega (
            arith,
            steps-gain,
            blocks-gain day.hours (set_prices day set) set k,
            value-by-hour (executed day set),
            cost-by-hour (executed day set),
          )

      -- M7: no balanced quantities under the same set have more welfare
      pub executed-greatest : (qs : List ℕ) → Each Within day.steps qs →
          ((h : ℕ) → Counts day.hours h → Balanced (hour_of day set h) (quantities_in h day.steps qs)) →
          day_value day set qs + day_cost day set (executed day set) ≤ day_value day set (executed day set) + day_cost day set qs
      executed-greatest qs w b =
          let v' : ℕ → ℕ = λ h. value (steps_in h day.steps) (quantities_in h day.steps qs) in
          let c' : ℕ → ℕ = λ h. cost (steps_in h day.steps) (quantities_in h day.steps qs) in
          let hour : (h : ℕ) → Counts day.hours h → v' h + c h ≤ v h + c' h = λ h k.
          rw (executed-in h) (execution-greatest (hour_of day set h) (set_prices day set h) (clear h k) (quantities_in h day.steps qs)
          (each_in Within h day.steps qs w) (b h k)) in
          omega (
            arith,
            day_sum-le day.hours (λ h. v' h + c h) (λ h. v h + c' h) hour,
            day_sum-add day.hours v' c,
            day_sum-add day.hours v c',
            value-by-hour (executed day set),
            cost-by-hour (executed day set),
            value-by-hour qs,
            cost-by-hour qs,
          )

  -- LAWFUL SETS
  module _ (set : List Bool) (law : lawful day set ≡ true) where
    abbrev S : List Block
    S = taken day.blocks set

    lawful-parts : (allowed day set ≡ true) × (every_hour day.hours (hour_clears day S) ≡ true) × (keeps_limits day S ≡ true)
    unfolding lawful
    lawful-parts =
        let t = both (allowed day set) _ law in
        let u = both (every_hour day.hours (hour_clears day S)) (keeps_limits day S) t.1 in
        (t.0, u.0, u.1)

    pub all-clear : (h : ℕ) → Counts day.hours h → Clears (hour_of day S h) (set_prices day S h)
    all-clear h k = set_prices-clear S h (every_hour-at day.hours (hour_clears day S) lawful-parts.1 h k)

    -- M7: the welfare of a lawful set is its value less its cost: never negative
    pub welfare-is : HasWelfare day set (executed day S) (welfare day set)
    unfolding welfare
    welfare-is = omega (arith, value-covers-cost S all-clear lawful-parts.2)

    -- M10: with its executed quantities it is a contender
    pub lawful-contends : length set ≡ length day.blocks → Contender day set (executed day S)
    lawful-contends e = record {
      of_blocks = e;
      permitted = lawful-parts.0;
      within = executed-within S;
      balanced = λ h k. rw (executed-in S h) (execution-balances (hour_of day S h) (set_prices day S h) (all-clear h k));
      limits = lawful-parts.2;
    }

  -- M10: a contender's set is lawful
  pub contender-lawful : (set : List Bool) (qs : List ℕ) → Contender day set qs → lawful day set ≡ true
  unfolding lawful
  contender-lawful set qs c =
      let S' = taken day.blocks set in
      rw (
        c.permitted,
        every_hour-all day.hours (hour_clears day S') (λ h k. clearable-clears S' h
            (balanced-clearable (hour_of day S' h) _ (each_in Within h day.steps qs c.within) (c.balanced h k))),
        c.limits,
      )

  -- and its welfare is at most that of the set
  pub contender-at-most : (set : List Bool) (qs : List ℕ) → Contender day set qs → WelfareAtMost day set qs (welfare day set)
  contender-at-most set qs c =
      let law = contender-lawful set qs c in
      omega (
        arith,
        welfare-is set law,
        executed-greatest (taken day.blocks set) (all-clear set law) qs c.within c.balanced,
      )

  -- THE EMPTY SET IS LAWFUL
  pub empty-lawful : lawful day (replicate (length day.blocks) false) ≡ true
  unfolding lawful keeps_limits
  empty-lawful =
      rw (
        allowed-empty day,
        none-taken day.blocks,
        every_hour-all day.hours (hour_clears day []) (λ h k. clearable-clears [] h record { buys_suffice = omega arith; sells_suffice = omega arith }),
      )

  -- DEMAND 3
  pub outcome-beats-all : BeatsAll day (outcome day) (executed day (taken day.blocks (outcome day))) (welfare day (outcome day))
  outcome-beats-all =
      let f = outcome-first day empty-lawful in
      record {
        contends = lawful-contends (outcome day) f.is_lawful f.of_blocks;
        counted = welfare-is (outcome day) f.is_lawful;
        none_above = λ other qs c.
            omega (arith, contender-at-most other qs c, (f.wins other c.of_blocks (contender-lawful other qs c)).0);
        on_tie = λ other qs c e.
            let w = f.wins other c.of_blocks (contender-lawful other qs c) in
            w.1 (omega (arith, contender-at-most other qs c, w.0));
      }
