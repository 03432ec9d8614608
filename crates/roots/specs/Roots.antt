-- THE ROOT PRICES: how many moves are made, as in src/moves.rt, and what safety asks of a row. Definitions only. Assumes nothing.
use Rattle.std.specs.Prelude.{ℕ, ◌+◌, ◌*◌, ◌≤◌, ◌<◌, List, length}
use Rattle.places.specs.Layout.{hour_places, last_place, last_and_above}

-- The moves of a round, after which the prices are tried.
abbrev pub round_moves : ℕ
round_moves = 7

-- The moves of all rounds.
abbrev pub all_moves : ℕ
all_moves = 56

-- A table has a row of so many places from a place on.
pub record RowHeld (table : List ℕ) (row width : ℕ) : Type 0 where
  pub inside : row + width ≤ length table
  pub narrow : width ≤ last_place + last_and_above
  pub table_fits : length table < hour_places * (last_place + 3)
