-- THE CASH SHEET (document 02, P3): "quantity bought and sold, cash paid and received per portfolio, then a line of totals". Quantities are tenths of a MWh,
-- cash tenths of a cent. Definitions only. Assumes nothing.
use Rattle.std.specs.Prelude.{ℕ, zero, suc, ◌+◌, ◌-◌, ◌*◌, Bool, List, [], ◌∷◌, ◌++◌, eqb, get_or}
use Rattle.rules.specs.Orders.{Side, Order, Block, Orders, max_portfolio, canonical}
use Rattle.rules.specs.Hour.{by_side, when}
use Rattle.rules.specs.Day.{day_sum, keep, day_of}
use Rattle.rules.specs.Outcome.{published}

-- EXECUTED ORDERS
-- An order as it was executed: whose it is, its side, the hours that it runs in, and its executed quantity in each of them.
pub record Executed : Type 0 where
  pub portfolio : ℕ
  pub side : Side
  pub runs : ℕ → Bool
  pub quantity : ℕ

-- What it traded on a day of so many hours: its executed quantity in each of its hours, as often as the day counts the hour.
unfoldable pub traded_by : ℕ → Executed → ℕ
traded_by hours o = day_sum hours (λ h. when (o.runs h) o.quantity)

-- Its cash: executed quantity times the hour's price, in each of its hours, as often as the day counts the hour.
unfoldable pub cash_by : ℕ → (ℕ → ℕ) → Executed → ℕ
cash_by hours price o = day_sum hours (λ h. when (o.runs h) (o.quantity * price h))

-- CASH
-- The four numbers of a line: quantity bought and sold, cash paid and received.
pub record Cash : Type 0 where
  pub bought : ℕ
  pub sold : ℕ
  pub paid : ℕ
  pub received : ℕ

-- The sum of a number of each executed order.
abbrev pub over_executed : (Executed → ℕ) → List Executed → ℕ
over_executed f [] = 0
over_executed f (o ∷ l) = f o + over_executed f l

-- The cash of executed orders on a day of so many hours at hourly prices: a buy is bought and paid, a sell is sold and received.
unfoldable pub cash_of : ℕ → (ℕ → ℕ) → List Executed → Cash
cash_of hours price orders =
    record {
      bought = over_executed (λ o. by_side o.side (traded_by hours o) 0) orders;
      sold = over_executed (λ o. by_side o.side 0 (traded_by hours o)) orders;
      paid = over_executed (λ o. by_side o.side (cash_by hours price o) 0) orders;
      received = over_executed (λ o. by_side o.side 0 (cash_by hours price o)) orders;
    }

-- PORTFOLIOS
-- The orders of one portfolio, in their order.
unfoldable pub owned_by : ℕ → List Executed → List Executed
owned_by portfolio [] = []
owned_by portfolio (o ∷ l) = keep (eqb o.portfolio portfolio) o (owned_by portfolio l)

-- A line of the sheet: a portfolio and its cash.
pub record CashLine : Type 0 where
  pub portfolio : ℕ
  pub cash : Cash

-- The line of a portfolio out of its own orders, the day's hours and the hourly prices; none where it has no order.
unfoldable pub line_of : ℕ → (ℕ → ℕ) → ℕ → List Executed → List CashLine
line_of hours price portfolio [] = []
line_of hours price portfolio (o ∷ own) = record { portfolio = portfolio; cash = cash_of hours price (o ∷ own) } ∷ []

-- The lines of the portfolios 1 to n, in rising order.
unfoldable pub lines_to : ℕ → ℕ → (ℕ → ℕ) → List Executed → List CashLine
lines_to zero hours price orders = []
lines_to (suc n) hours price orders = lines_to n hours price orders ++ line_of hours price (suc n) (owned_by (suc n) orders)

-- THE ORDERS OF A BOOK as they were executed
-- Those of the step chain: each in the hour of its step, with its executed quantity.
unfoldable pub executed_steps : List Order → List ℕ → List Executed
executed_steps [] quantities = []
executed_steps (o ∷ l) [] = []
executed_steps (o ∷ l) (q ∷ quantities) =
    record { portfolio = o.portfolio; side = o.step.side; runs = eqb o.step.hour; quantity = q } ∷ executed_steps l quantities

-- The blocks: each in its hours, with its quantity if it is taken, else with 0.
unfoldable pub executed_blocks : List Block → List Bool → List Executed
executed_blocks [] chosen = []
executed_blocks (b ∷ l) [] = []
executed_blocks (b ∷ l) (t ∷ chosen) =
    record { portfolio = b.portfolio; side = b.side; runs = b.runs; quantity = when t b.quantity } ∷ executed_blocks l chosen

-- All of them: the step chain, and then the blocks.
unfoldable pub executed_orders : Orders → List Executed
executed_orders orders =
    executed_steps (canonical orders).steps (published orders).executed ++ executed_blocks (day_of orders).blocks (published orders).chosen

-- THE SHEET
-- The price of hour h in the published rows.
unfoldable pub published_price : Orders → ℕ → ℕ
published_price orders h = get_or (published orders).prices (h - 1) 0

-- A line for each portfolio with an order, in rising order, and the totals: the cash of all orders.
pub record CashSheet : Type 0 where
  pub lines : List CashLine
  pub totals : Cash

unfoldable pub cash_sheet : Orders → CashSheet
cash_sheet orders =
    record {
      lines = lines_to max_portfolio (day_of orders).hours (published_price orders) (executed_orders orders);
      totals = cash_of (day_of orders).hours (published_price orders) (executed_orders orders);
    }
