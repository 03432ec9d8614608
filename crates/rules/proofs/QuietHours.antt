-- QUIET HOURS: on a book's day nothing is offered in an hour that does not count. So under a lawful set every hour clears, also such a one, and what goes
-- hour by hour may go over all 24 alike. Assumes nothing.
use Prim.Native.Nat.{ℕ, ◌≤◌}
use mathlib.Core.Bool.{Bool, true, false, and-false, false≢true}
use mathlib.Core.Path.{◌≡◌, refl, sym, ◌∙◌}
use mathlib.Core.List.{List, [], ◌∷◌}
use native.Mathlib.Omega.{arith}
use lib.ListN.{length}
use borrow.Author.Tests.{ne_eqb}
use Rattle.rules.specs.Orders.{Step, Block}
use Rattle.rules.specs.Day.{Day, is_counted, each_on_day, steps_in, taken, over_blocks, sells, buys, hour_of, set_prices, lawful}
use Rattle.rules.specs.Hour.{buys_above, buys_from, sells_to, sells_below}
use Rattle.rules.specs.Contender.{PricesInRange, HoursInRange}
use Rattle.rules.specs.OutcomeRules.{EachBlock}
use Rattle.rules.proofs.PricingLaws.{Clearable, Clears, clearable}
use Rattle.rules.proofs.HourSums.{counted}
use Rattle.rules.proofs.BoundsLaws.{each-taken}
use Rattle.rules.proofs.DayLaws.{all-clear}
use Rattle.rules.proofs.PlaceLaws.{place, hour_at, clearable-at-place}

-- each step is for an hour that counts
abbrev pub StepsCount : ℕ → List Step → Type 0
StepsCount hours [] = Unit {0}
StepsCount hours (s ∷ l) = (is_counted hours s.hour ≡ true) × StepsCount hours l

-- each block runs in such hours alone
abbrev pub BlocksCount : ℕ → List Block → Type 0
BlocksCount hours = EachBlock (λ b. (h : ℕ) → is_counted hours h ≡ false → b.runs h ≡ false)

pub record Quiet (day : Day) : Type 0 where
  pub steps : StepsCount day.hours day.steps
  pub blocks : BlocksCount day.hours day.blocks

-- a day's blocks are such
pub on-day-counts : (hours : ℕ) (l : List Block) → BlocksCount hours (each_on_day hours l)
unfolding each_on_day
on-day-counts hours [] = tt
on-day-counts hours (b ∷ l) = (λ h e. rw (e, and-false), on-day-counts hours l)

-- NOTHING IS OFFERED in a quiet hour
module _ (hours h : ℕ) (quiet : is_counted hours h ≡ false) where
  pub no_steps : (l : List Step) → StepsCount hours l → steps_in h l ≡ []
  no_steps [] c = refl
  no_steps (s ∷ l) c =
      rw (ne_eqb s.hour h (λ e. false≢true (sym (rw e quiet) ∙ c.0)))
      (no_steps l c.1)

  pub no-sales : (l : List Block) → BlocksCount hours l → over_blocks (sells h) l ≡ 0
  no-sales [] c = refl
  no-sales (b ∷ l) c = rw (c.0 h quiet, no-sales l c.1)

  pub no-buys : (l : List Block) → BlocksCount hours l → over_blocks (buys h) l ≡ 0
  no-buys [] c = refl
  no-buys (b ∷ l) c = rw (c.0 h quiet, no-buys l c.1)

-- so any price clears it under any set
module _ (day : Day) (quiet : Quiet day) (set : List Bool) where
  abbrev T : List Block
  T = taken day.blocks set

  T-counts : BlocksCount day.hours T
  T-counts = each-taken _ day.blocks set quiet.blocks

  pub quiet-clears : (h p : ℕ) → is_counted day.hours h ≡ false → Clears (hour_of day (taken day.blocks set) h) p
  unfolding buys_above sells_to sells_below buys_from
  quiet-clears h p e =
      let none = no_steps day.hours h e day.steps quiet.steps in
      let sold = no-sales day.hours h e T T-counts in
      let bought = no-buys day.hours h e T T-counts in
      record { demand_met = rw (none, sold, bought) (omega arith); supply_met = rw (none, sold, bought) (omega arith) }

  -- EVERY HOUR CLEARS under a lawful set
  module _ (prices : PricesInRange day.steps) (hours : HoursInRange day.steps) (law : lawful day set ≡ true) where
    pub each-clears : (h : ℕ) → 1 ≤ h → h ≤ 24 → Clears (hour_of day (taken day.blocks set) h) (set_prices day (taken day.blocks set) h)
    each-clears h first last = at (is_counted day.hours h) refl
      where
        at : (t : Bool) → is_counted day.hours h ≡ t → Clears (hour_of day T h) (set_prices day T h)
        at true e = all-clear day prices hours set law h record { first = first; last = last; counted = counted day.hours h e }
        at false e = quiet-clears h (set_prices day T h) e

    pub each-clearable : (h : ℕ) → 1 ≤ h → h ≤ 24 → Clearable (hour_of day (taken day.blocks set) h)
    each-clearable h first last = clearable (hour_of day T h) (set_prices day T h) (each-clears h first last)

    pub each-in-place : length set ≡ length day.blocks → (h : ℕ) → 1 ≤ h → h ≤ 24 → Clearable (hour_at day h (place day.blocks set h))
    each-in-place size h first last = clearable-at-place day set size h (each-clearable h first last)
