-- WHAT A SHIFT MOVES (document 02, P7). Where every hour clears and no link is broken, a set of edition 4 is unlawful exactly when no shift keeps all its
-- blocks; a set that is lawful at the middle prices keeps them; what is executed and traded, and so the welfare, is the same at every shift. Assumes nothing.
use Prim.Native.Nat.{ℕ, ◌+◌, ◌≤◌}
use mathlib.Core.Bool.{Bool, true, false, ◌&&◌}
use mathlib.Core.Path.{◌≡◌, refl, sym, ap, ◌∙◌}
use mathlib.Core.List.{List}
use mathlib.Core.Logic.{◌↔◌}
use Rattle.rules.specs.Orders.{Block}
use Rattle.rules.specs.Shift.{last_shift, middle_shift}
use Rattle.rules.specs.Execution.{execution, bought}
use Rattle.rules.specs.Day.{
  Day,
  day_sum,
  every_hour,
  steps_in,
  taken,
  over_blocks,
  buys,
  hour_of,
  hour_clears,
  gives_way,
  prices_at_shift,
  keeps_all,
  set_shift,
  set_prices,
  keeps_limits,
  allowed,
  lawful,
  blocks_value,
  blocks_cost,
  day_value,
  day_cost,
  executed,
  traded,
}
use Rattle.rules.specs.Contender.{quantities_in, Counts, PricesInRange, HoursInRange}
use Rattle.rules.proofs.Tests.{by-test, clash}
use Rattle.rules.proofs.HourSums.{day_sum-counted}
use Rattle.rules.proofs.DualityLaws.{value, cost}
use Rattle.rules.proofs.DayLaws.{executed-in, value-by-hour, cost-by-hour}
use Rattle.rules.proofs.SetShiftLaws.{shift_small, shift-misses}
use Rattle.rules.proofs.SetPriceLaws.{any-shift, middle-is, day_shift, own-shift, middle-shift, limits-at-shift, some-shift-keeps, price-at-shift, execution-at-shift}

module _ (day : Day) (prices : PricesInRange day.steps) where
  -- UNLAWFUL EXACTLY WHEN no shift keeps all blocks
  module _ (way : gives_way day.edition ≡ true) (set : List Bool) (may : allowed day set ≡ true)
      (clear : every_hour day.hours (hour_clears day (taken day.blocks set)) ≡ true) where
    abbrev T : List Block
    T = taken day.blocks set

    by-limits : lawful day set ≡ keeps_limits day T
    unfolding lawful
    by-limits = rw (may, clear)

    pub unlawful-exactly : (lawful day set ≡ false) ↔ ((t : ℕ) → t ≤ last_shift → keeps_all day (taken day.blocks set) t ≡ false)
    unlawful-exactly = (
      λ e. shift-misses day T (rw (own-shift day T way) at (sym (limits-at-shift day prices T) ∙ sym by-limits ∙ e)),
      λ f. by-limits ∙ limits-at-shift day prices T ∙ rw (own-shift day T way) (f (set_shift day T) (shift_small day T)),
    )

  -- A SET THAT KEEPS ITS LIMITS AT THE MIDDLE PRICES has the middle prices, in every edition
  pub lawful-at-middle : (set : List Block) → keeps_all day set middle_shift ≡ true →
      (keeps_limits day set ≡ true) × ((h : ℕ) → set_prices day set h ≡ prices_at_shift day set middle_shift h)
  lawful-at-middle set k = (
    some-shift-keeps day prices set (middle-is day.edition) k,
    λ h. rw (middle-shift day set k) at (price-at-shift day prices set h),
  )

  -- QUANTITIES, TRADED AMOUNTS AND WELFARE do not move: at every shift t they are those at the prices there
  module _ (hours : HoursInRange day.steps) (set : List Block) (t : ℕ) (k : t ≤ last_shift) where
    abbrev at_shift : ℕ → List ℕ
    at_shift h = execution (hour_of day set h) (prices_at_shift day set t h)

    pub quantities-stay : (h : ℕ) → hour_clears day set h ≡ true →
        quantities_in h day.steps (executed day set) ≡ execution (hour_of day set h) (prices_at_shift day set t h)
    quantities-stay h e = executed-in day prices hours set h ∙ sym (execution-at-shift day prices set t k h e)

    pub traded-stays : (h : ℕ) → hour_clears day set h ≡ true →
        traded day set h ≡ bought (steps_in h day.steps) (execution (hour_of day set h) (prices_at_shift day set t h)) + over_blocks (buys h) set
    unfolding traded
    traded-stays h e = ap (λ (q : List ℕ). bought (steps_in h day.steps) q + over_blocks (buys h) set) (sym (execution-at-shift day prices set t k h e))

    module _ (clear : (h : ℕ) → Counts day.hours h → hour_clears day set h ≡ true) where
      pub value_stays : day_value day set (executed day set)
          ≡ day_sum day.hours (λ h. value (steps_in h day.steps) (execution (hour_of day set h) (prices_at_shift day set t h))) + blocks_value day.hours set
      value_stays =
          value-by-hour day prices hours set (executed day set)
          ∙ ap (λ n. n + blocks_value day.hours set)
          (day_sum-counted day.hours _ _ (λ h c. ap (value (steps_in h day.steps)) (quantities-stay h (clear h c))))

      pub cost-stays : day_cost day set (executed day set)
          ≡ day_sum day.hours (λ h. cost (steps_in h day.steps) (execution (hour_of day set h) (prices_at_shift day set t h))) + blocks_cost day.hours set
      cost-stays =
          cost-by-hour day prices hours set (executed day set)
          ∙ ap (λ n. n + blocks_cost day.hours set)
          (day_sum-counted day.hours _ _ (λ h c. ap (cost (steps_in h day.steps)) (quantities-stay h (clear h c))))
