-- THE STEPS of the hours, out of columns, and what is traded with them. Definitions only. Assumes nothing.
use Rattle.std.specs.Prelude.{ℕ, ◌+◌, ◌-◌, ◌≤◌, ◌<◌, min, List, ◌≡◌, length, get_or}
use Rattle.std.proofs.Math.Seq.{slice}
use Rattle.orders.specs.Columns.{steps_from}
use Rattle.rules.specs.Orders.{Step, max_price}
use Rattle.rules.specs.Hour.{buys_from, sells_to}
use Rattle.rules.specs.Day.{traded}
use Rattle.fields.specs.Bounds.{most_step_quantity}
use Rattle.orders.specs.Layout.{step_places}
use Rattle.places.specs.Layout.{hour_places}
use Rattle.places.specs.Hours.{FirstSmall, of_hour}

-- THE STEPS: columns of sides, prices and quantities, hour after hour; `ends` has at h how many of them the hours 1 to h have.
-- The part of a column that hour h has.
abbrev pub hour_slice : List ℕ → List ℕ → ℕ → List ℕ
hour_slice ends column h = slice (get_or ends (h - 1) 0) (get_or ends h 0) column

-- The steps of hour h.
unfoldable pub steps_at : (ends sides prices quantities : List ℕ) → ℕ → List Step
steps_at ends sides prices quantities h = steps_from h (hour_slice ends sides h) (hour_slice ends prices h) (hour_slice ends quantities h)

-- What is asked of the columns, for safe arithmetic and indexing.
pub record StepsSized (ends sides prices quantities : List ℕ) : Type 0 where
  pub start : get_or ends 0 0 ≡ 0
  pub rise : (h : ℕ) → h < hour_places → get_or ends h 0 ≤ get_or ends (h + 1) 0
  pub fit : get_or ends hour_places 0 ≤ step_places
  pub in_sides : get_or ends hour_places 0 ≤ length sides
  pub in_prices : get_or ends hour_places 0 ≤ length prices
  pub in_quantities : get_or ends hour_places 0 ≤ length quantities
  pub prices_fit : FirstSmall (get_or ends hour_places 0) max_price prices
  pub quantities_fit : FirstSmall (get_or ends hour_places 0) most_step_quantity quantities

-- The part of the columns from one place to another is within them, and its prices and quantities are in their ranges.
pub record PartSized (sides prices quantities : List ℕ) (from to : ℕ) : Type 0 where
  pub ordered : from ≤ to
  pub fit : to ≤ step_places
  pub in_sides : to ≤ length sides
  pub in_prices : to ≤ length prices
  pub in_quantities : to ≤ length quantities
  pub prices_fit : FirstSmall to max_price prices
  pub quantities_fit : FirstSmall to most_step_quantity quantities

-- What is traded in each hour at its price: what is bought at or above it, or sold at or below it, the lesser, each with the blocks' own.
abbrev pub HoursTraded : (steps : ℕ → List Step) (sales purchases prices traded : List ℕ) → Type 0
HoursTraded steps sales purchases prices traded =
    (h : ℕ) → 1 ≤ h → h ≤ hour_places → 1 ≤ of_hour prices h →
    of_hour traded h ≡ min (buys_from (of_hour prices h) (steps h) + of_hour purchases h) (sells_to (of_hour prices h) (steps h) + of_hour sales h)
