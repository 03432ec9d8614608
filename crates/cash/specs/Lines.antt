-- THE CASH SHEET OUT OF THE ACCOUNTS, in which the functions of src/ promise what they write. Definitions only. Assumes nothing.
use Rattle.std.specs.Prelude.{ℕ, zero, suc, cond, List, [], ◌++◌, eqb, get_or}
use Rattle.rules.specs.Cash.{Cash}
use Rattle.fields.specs.Bounds.{last_portfolio}
use Rattle.text.specs.Text.{text}
use Rattle.accounts.specs.Layout.{bought_column, sold_column, paid_column, received_column, orders_column, totals_place, place_in}
use Rattle.cash.specs.CashSheet.{cash_fields, cash_line}

-- The cash of account p.
unfoldable pub cash_at : List ℕ → ℕ → Cash
cash_at accounts p =
    record {
      bought = get_or accounts (place_in bought_column p) 0;
      sold = get_or accounts (place_in sold_column p) 0;
      paid = get_or accounts (place_in paid_column p) 0;
      received = get_or accounts (place_in received_column p) 0;
    }

-- The line of portfolio p; none where it has no order.
unfoldable pub line_at : List ℕ → ℕ → List ℕ
line_at accounts p = cond (eqb (get_or accounts (place_in orders_column p) 0) 0) [] (cash_line (record { portfolio = p; cash = cash_at accounts p }))

-- The lines of the portfolios 1 to n.
unfoldable pub lines_up_to : List ℕ → ℕ → List ℕ
lines_up_to accounts zero = []
lines_up_to accounts (suc n) = lines_up_to accounts n ++ line_at accounts (suc n)

-- The title, the lines of all portfolios, and that of the totals.
unfoldable pub text_in : List ℕ → List ℕ
text_in accounts =
    text "portfolio;bought;sold;paid;received\n"
    ++ (lines_up_to accounts last_portfolio ++ (text "all;" ++ cash_fields (cash_at accounts totals_place)))
