-- THE STEPS OF ONE HOUR AS COLUMNS. Definitions only. Assumes nothing.
use Rattle.std.specs.Prelude.{ℕ, ◌+◌, ◌≤◌, ◌<◌, List, ◌≡◌, length, get_or, slice_range}
use Rattle.records.specs.Layout.{last_hour}
use Rattle.orders.specs.Layout.{step_places}

-- Columns of one length, at most 2,048.
pub record Columns (sides prices quantities : List ℕ) : Type 0 where
  pub as_many_prices : length sides ≡ length prices
  pub as_many_quantities : length sides ≡ length quantities
  pub not_too_many : length sides ≤ step_places

-- Hour h + 1 is an hour of the day, and its steps stand within the columns.
pub record HourInside (ends : List ℕ) (h : ℕ) : Type 0 where
  pub an_hour : h < last_hour
  pub ordered : get_or ends h 0 ≤ get_or ends (h + 1) 0
  pub fits : get_or ends (h + 1) 0 ≤ step_places

-- The same of columns that are lent, whose lengths are their own: its steps stand within each.
pub record HourHeld (ends sides prices quantities : List ℕ) (h : ℕ) : Type 0 where
  pub inside : HourInside ends h
  pub has_end : h + 1 < length ends
  pub in_sides : get_or ends (h + 1) 0 ≤ length sides
  pub in_prices : get_or ends (h + 1) 0 ≤ length prices
  pub in_quantities : get_or ends (h + 1) 0 ≤ length quantities

-- Where hour h + 1 stands in a column: from `ends` at h up to `ends` at h + 1.
abbrev pub hour_range : (ends column : List ℕ) (h : ℕ) → List ℕ
hour_range ends column h = slice_range column (get_or ends h 0) (get_or ends (h + 1) 0)
