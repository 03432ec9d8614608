-- THE ACCOUNTS OF THE PORTFOLIOS, OUT OF A BOOK AND THE BYTES OF ITS RESULT (document 02, P3: "Each total equals the sum over the order records"): what
-- each portfolio bought, sold, paid and received, and how many orders it has. `proofs/AccountLaws.antt` proves that the orders and the prices are those of
-- the rules. Definitions only. Assumes nothing.
use Rattle.std.specs.Prelude.{ℕ, zero, suc, ◌<◌, List, ◌++◌, map, ◌≡◌, eqb, length, get_or}
use Rattle.rules.specs.Cash.{Executed, Cash, cash_of, owned_by}
use Rattle.records.specs.Records.{day_hours, side_byte, hour_byte, portfolio, holds_hour}
use Rattle.chains.specs.Bounds.{portfolio_numbers}
use Rattle.chains.specs.Chains.{step_order}
use Rattle.orders.specs.Columns.{block_records, block_side_at, block_hours_at, side_for}
use Rattle.result.specs.Result.{price_in, row_in}
use Rattle.accounts.specs.Layout.{bought_column, sold_column, paid_column, received_column, orders_column, place_in, account_places}

-- THE ORDERS, as a result has them executed
-- Record k of the step chain: in its hour, with the quantity of its row.
unfoldable pub step_in : List ℕ → List ℕ → ℕ → Executed
step_in b result k =
    record { portfolio = portfolio b k; side = side_for (side_byte b k); runs = eqb (hour_byte b k); quantity = row_in result k }

-- Record k of the block chain: in those of its hours that count, with the quantity of its row, which is 0 where it is left out.
unfoldable pub block_in : List ℕ → List ℕ → ℕ → Executed
block_in b result k =
    record { portfolio = portfolio b k; side = side_for (block_side_at b k); runs = holds_hour (block_hours_at b k); quantity = row_in result k }

-- The steps, the blocks, and all of them.
abbrev pub steps_in : List ℕ → List ℕ → List Executed
steps_in b result = map (step_in b result) (step_order b)

abbrev pub blocks_in : List ℕ → List ℕ → List Executed
blocks_in b result = map (block_in b result) (block_records b)

unfoldable pub orders_in : List ℕ → List ℕ → List Executed
orders_in b result = steps_in b result ++ blocks_in b result

-- THE ACCOUNTS
-- The orders behind an account: those of the portfolio; behind account 0, the totals, all of them.
unfoldable pub among : ℕ → List Executed → List Executed
among zero orders = orders
among (suc p) orders = owned_by (suc p) orders

-- What these orders bought, sold, paid and received at the prices of the result.
unfoldable pub cash_in : List ℕ → List ℕ → ℕ → Cash
cash_in b result p = cash_of (day_hours b) (price_in result) (among p (orders_in b result))

-- The five columns are those of a book's result.
pub record AccountsOf (b result accounts : List ℕ) : Type 0 where
  pub size : length accounts ≡ account_places
  pub bought_at : (p : ℕ) → p < portfolio_numbers → get_or accounts (place_in bought_column p) 0 ≡ (cash_in b result p).bought
  pub sold_at : (p : ℕ) → p < portfolio_numbers → get_or accounts (place_in sold_column p) 0 ≡ (cash_in b result p).sold
  pub paid_at : (p : ℕ) → p < portfolio_numbers → get_or accounts (place_in paid_column p) 0 ≡ (cash_in b result p).paid
  pub received_at : (p : ℕ) → p < portfolio_numbers → get_or accounts (place_in received_column p) 0 ≡ (cash_in b result p).received
  pub orders_at : (p : ℕ) → p < portfolio_numbers → get_or accounts (place_in orders_column p) 0 ≡ length (among p (orders_in b result))
