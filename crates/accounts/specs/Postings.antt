-- HOW ORDERS ARE POSTED to the accounts, one after another, in which the private functions of src/ promise what they add. Definitions only. Assumes nothing.
use Rattle.std.specs.Prelude.{ℕ, ◌+◌, ◌^◌, ◌≤◌, ◌<◌, cond, List, ◌≡◌, eqb, length, get_or}
use Rattle.rules.specs.Orders.{Side}
use Rattle.rules.specs.Hour.{by_side, when}
use Rattle.rules.specs.Day.{change_hour, weight}
use Rattle.rules.specs.Cash.{Executed, traded_by, cash_by, over_executed}
use Rattle.records.specs.Layout.{last_hour}
use Rattle.records.specs.Records.{day_hours, hour_byte, portfolio}
use Rattle.chains.specs.Bounds.{portfolio_numbers}
use Rattle.places.specs.Hours.{DayPrices}
use Rattle.gains.specs.Gains.{counted_prices_in}
use Rattle.accounts.specs.Layout.{bought_column, sold_column, paid_column, received_column, column_count, totals_place, place_in, account_places}
use Rattle.accounts.specs.Accounts.{among}

-- What account q gets of a number of a portfolio: all of it where it is the portfolio's own, and where it is the totals'.
unfoldable pub share_of : (portfolio q n : ℕ) → ℕ
share_of portfolio q n = when (eqb portfolio q) n + when (eqb q totals_place) n

-- A number was added in one column, to a portfolio's account and to the totals; no place grew by more.
pub record Added (column portfolio n : ℕ) (before after : List ℕ) : Type 0 where
  pub size : length after ≡ length before
  pub at : (other q : ℕ) → q < portfolio_numbers →
      get_or after (place_in other q) 0 ≡ get_or before (place_in other q) 0 + when (eqb column other) (share_of portfolio q n)
  pub most : (i : ℕ) → get_or after i 0 ≤ get_or before i 0 + n

-- What an order of a side that traded so much for so much cash puts into a column; into the column of orders 1.
unfoldable pub figure_of : Side → (traded cash column : ℕ) → ℕ
figure_of side traded cash column =
    cond (eqb column bought_column) (by_side side traded 0)
    (cond (eqb column sold_column) (by_side side 0 traded)
    (cond (eqb column paid_column) (by_side side cash 0)
    (cond (eqb column received_column) (by_side side 0 cash) 1)))

-- An order was posted: its figures were added, column by column; no place grew by more than all of them.
pub record Posted (side : Side) (portfolio traded cash : ℕ) (before after : List ℕ) : Type 0 where
  pub size : length after ≡ length before
  pub at : (column q : ℕ) → column < column_count → q < portfolio_numbers →
      get_or after (place_in column q) 0 ≡ get_or before (place_in column q) 0 + share_of portfolio q (figure_of side traded cash column)
  pub most : (i : ℕ) → get_or after i 0 ≤ get_or before i 0 + (traded + cash + 1)

-- What an executed order puts into a column, on a day of so many hours at hourly prices.
unfoldable pub figure : ℕ → (ℕ → ℕ) → ℕ → Executed → ℕ
figure hours price column o = figure_of o.side (traded_by hours o) (cash_by hours price o) column

-- What account q has of orders in a column.
unfoldable pub account : ℕ → (ℕ → ℕ) → (column q : ℕ) → List Executed → ℕ
account hours price column q orders = over_executed (figure hours price column) (among q orders)

-- Executed orders were posted; no place grew by more than a bound.
pub record OrdersPosted (hours : ℕ) (price : ℕ → ℕ) (bound : ℕ) (orders : List Executed) (before after : List ℕ) : Type 0 where
  pub size : length after ≡ length before
  pub at : (column q : ℕ) → column < column_count → q < portfolio_numbers →
      get_or after (place_in column q) 0 ≡ get_or before (place_in column q) 0 + account hours price column q orders
  pub most : (i : ℕ) → get_or after i 0 ≤ get_or before i 0 + bound

-- ROOM, for safe arithmetic: more than what a step, and a block, puts into all columns together; their rows are numbers of 32 bits.
abbrev pub most_of_step : ℕ
most_of_step = 2 ^ 52

abbrev pub most_of_block : ℕ
most_of_block = 2 ^ 56

-- There are all places, and each may grow so far.
pub record CanGrow (bound : ℕ) (accounts : List ℕ) : Type 0 where
  pub size : length accounts ≡ account_places
  pub free : (i : ℕ) → get_or accounts i 0 + bound < 2 ^ 64

-- The step of record k has its hour, and its portfolio is not the totals' place.
pub record StepFits (b : List ℕ) (k : ℕ) : Type 0 where
  pub first : 1 ≤ hour_byte b k
  pub last : hour_byte b k ≤ last_hour
  pub owned : 1 ≤ portfolio b k

-- The prices of a result as they count on the book's day, and how often hour 3 does.
pub record CountedIn (b result counted : List ℕ) (often : ℕ) : Type 0 where
  pub prices_are : counted ≡ counted_prices_in b result
  pub prices_fit : DayPrices counted
  pub often_is : often ≡ weight (day_hours b) change_hour
  pub often_few : often ≤ 2
