-- WHAT IS WRITTEN OF A BOOK'S CASH (document 02, P3: "the program cash-print writes `portfolio;bought;sold;paid;received` / .. It reads, refuses and ends its
-- lines as auction-print does"), of every byte string. Definitions only. Assumes nothing.
use Rattle.std.specs.Prelude.{ℕ, cond, List, [], ◌∷◌, ◌++◌, eqb}
use Rattle.rules.specs.Cash.{Cash, CashLine, CashSheet, cash_sheet}
use Rattle.book.specs.Refusals.{refusal}
use Rattle.orders.specs.Bridge.{orders_of}
use Rattle.text.specs.Text.{text, field, semicolon, line_feed}
use Rattle.sheet.specs.Sheet.{refused_line}

-- The most bytes that are written.
abbrev pub most_cash : ℕ
most_cash = 22564

-- The four numbers to the end of a line: quantity bought and sold, cash paid and received.
unfoldable pub cash_fields : Cash → List ℕ
cash_fields cash =
    field cash.bought semicolon ++ (field cash.sold semicolon ++ (field cash.paid semicolon ++ field cash.received line_feed))

-- The line of a portfolio: its number, then these.
unfoldable pub cash_line : CashLine → List ℕ
cash_line line = field line.portfolio semicolon ++ cash_fields line.cash

-- A line for each.
unfoldable pub cash_lines : List CashLine → List ℕ
cash_lines [] = []
cash_lines (line ∷ l) = cash_line line ++ cash_lines l

-- The text of a cash sheet: the portfolios, then a line of totals.
unfoldable pub cash_text : CashSheet → List ℕ
cash_text sheet =
    text "portfolio;bought;sold;paid;received\n" ++ (cash_lines sheet.lines ++ (text "all;" ++ cash_fields sheet.totals))

-- What is written of a book: its cash sheet, or the line of its refusal.
unfoldable pub cash_sheet_of : List ℕ → List ℕ
cash_sheet_of b = cond (eqb (refusal b) 0) (cash_text (cash_sheet (orders_of b))) (refused_line (refusal b))
