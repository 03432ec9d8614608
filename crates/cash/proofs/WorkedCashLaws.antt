-- S5'S CASH SHEET FROM THE DEFINITIONS: the orders of S5's book are those of the rules' worked sheet; the text computes. Assumes nothing.
use mathlib.Core.Path.{◌≡◌, refl, ap, ◌∙◌}
use mathlib.Core.List.{[], ◌∷◌}
use borrow.Author.Tests.{eq-eqb}
use Rattle.rules.specs.Cash.{CashSheet, cash_sheet}
use Rattle.rules.specs.WorkedDays.{block12, base_with}
use Rattle.rules.specs.WorkedCash.{line, numbers, cash_cases}
use Rattle.rules.proofs.CashCases.{cash-sheets-hold}
use Rattle.records.specs.Bytes.{u16_at, u24_at, u32_at}
use Rattle.records.specs.Records.{step_at, block_at}
use Rattle.chains.specs.Chains.{chain_from, step_order, block_order, link_order}
use Rattle.book.specs.Refusals.{refusal}
use Rattle.orders.specs.Bridge.{step_from, order_from, block_from, orders_of}
use Rattle.orders.specs.WorkedBooks.{chained, book_with}
use Rattle.result.specs.WorkedResult.{s5_book}
use Rattle.result.proofs.WorkedResultLaws.{s5-worked}
use Rattle.text.specs.Text.{text, decimal_in, decimal, field}
use Rattle.cash.specs.CashSheet.{cash_fields, cash_line, cash_lines, cash_text, cash_sheet_of}
use Rattle.cash.specs.WorkedCash.{s5_cash}

-- the rules' sheet of S5
abbrev s5_sheet : CashSheet
s5_sheet = record { lines = line 1 200 0 600000 0 ∷ line 2 0 100 0 300000 ∷ line 3 0 100 0 300000 ∷ []; totals = numbers 200 200 600000 600000 }

s5-orders : orders_of s5_book ≡ base_with (block12 1 2900 ∷ [])
unfolding book_with chained orders_of order_from step_from block_from step_at block_at step_order block_order link_order chain_from u16_at u24_at u32_at
s5-orders = refl

s5-sheet : cash_sheet (orders_of s5_book) ≡ s5_sheet
unfolding cash_cases
s5-sheet = ap cash_sheet s5-orders ∙ cash-sheets-hold.0

s5-text : cash_text s5_sheet ≡ s5_cash
unfolding s5_cash cash_text cash_lines cash_line cash_fields field decimal decimal_in text
s5-text = refl

pub s5-cash : cash_sheet_of s5_book ≡ s5_cash
unfolding cash_sheet_of
s5-cash = rw (eq-eqb (refusal s5_book) 0 s5-worked.accepted) (ap cash_text s5-sheet ∙ s5-text)
