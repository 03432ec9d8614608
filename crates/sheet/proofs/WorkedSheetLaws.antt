-- S5'S SHEET FROM THE DEFINITIONS: what is published of S5's book is a line of the worked books' table; the text computes. Assumes nothing.
use mathlib.Core.Path.{◌≡◌, refl}
use borrow.Author.Tests.{eq-eqb}
use Rattle.records.specs.Bytes.{u16_at, u24_at}
use Rattle.records.specs.Records.{block_at}
use Rattle.chains.specs.Chains.{chain_from, block_order}
use Rattle.book.specs.Refusals.{refusal}
use Rattle.rules.specs.Orders.{canonical}
use Rattle.rules.specs.Day.{day_of, each_on_day}
use Rattle.orders.specs.Bridge.{block_from, orders_of, day_from}
use Rattle.orders.specs.WorkedBooks.{chained, book_with}
use Rattle.result.specs.WorkedResult.{s5_book}
use Rattle.result.proofs.WorkedResultLaws.{s5-worked}
use Rattle.text.specs.Text.{text, decimal_in, decimal, field}
use Rattle.sheet.specs.Sheet.{hour_line, hour_lines, of_hour, block_line, block_lines, outcome_sheet, sheet_of}
use Rattle.sheet.specs.WorkedSheet.{s5_sheet}

pub s5-sheet : sheet_of s5_book ≡ s5_sheet
unfolding sheet_of s5_sheet outcome_sheet hour_lines hour_line of_hour block_lines block_line field decimal decimal_in text day_from day_of each_on_day canonical orders_of
    block_from block_at block_order chain_from u16_at u24_at book_with chained
s5-sheet = rw (eq-eqb (refusal s5_book) 0 s5-worked.accepted, s5-worked.publishes) refl
