-- WHERE THE ACCOUNTS HAVE WHAT, as in src/layout.rt: five columns in one list, each with a place for every portfolio. Definitions only. Assumes nothing.
use Rattle.std.specs.Prelude.{ℕ, ◌+◌, ◌*◌}
use Rattle.chains.specs.Bounds.{portfolio_numbers}

-- The columns: quantity bought and sold, cash paid and received, and how many orders there are.
abbrev pub bought_column : ℕ
bought_column = 0

abbrev pub sold_column : ℕ
sold_column = 1

abbrev pub paid_column : ℕ
paid_column = 2

abbrev pub received_column : ℕ
received_column = 3

abbrev pub orders_column : ℕ
orders_column = 4

abbrev pub column_count : ℕ
column_count = 5

-- The place of the totals in each column: 0, which no portfolio is.
abbrev pub totals_place : ℕ
totals_place = 0

-- The place of a portfolio in a column.
abbrev pub place_in : (column portfolio : ℕ) → ℕ
place_in column portfolio = portfolio_numbers * column + portfolio

-- All places.
abbrev pub account_places : ℕ
account_places = portfolio_numbers * column_count
