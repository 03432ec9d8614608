-- S5'S RESULT MEETS THE DEMANDS, AND WRONG ONES DO NOT: each result below differs from it in one byte, or is another outcome whole, and is refuted by
-- the demands alone (the promise's bytes play no part). Assumes nothing.
use Prim.Native.Nat.{ℕ}
use native.Mathlib.Omega.{arith}
use mathlib.Core.Bool.{true}
use mathlib.Core.Path.{◌≡◌, refl, sym, ◌∙◌}
use mathlib.Core.List.{[], ◌∷◌}
use Rattle.records.specs.Bytes.{u16_at, u24_at, u32_at}
use Rattle.records.specs.Records.{step_at, block_at}
use Rattle.chains.specs.Chains.{chain_from, step_order, block_order}
use Rattle.book.proofs.Accepted.{accepted}
use Rattle.rules.specs.Orders.{canonical, steps_of}
use Rattle.rules.specs.Execution.{bought, sold}
use Rattle.rules.specs.Day.{day_of, each_on_day, weight, is_counted, sum_to, day_sum, hour_count, steps_value, steps_cost, blocks_value, blocks_cost, day_value, day_cost}
use Rattle.rules.specs.Contender.{Counts}
use Rattle.rules.specs.WorkedDays.{block12, base_day, worked_days}
use Rattle.orders.specs.Bridge.{step_from, order_from, block_from, orders_of, day_from}
use Rattle.orders.specs.WorkedBooks.{chained, book_with, worked_books, Worked}
use Rattle.orders.proofs.WorkedBookLaws.{worked-books-hold}
use Rattle.result.specs.Result.{bytes_of, hour_rows, beside, block_rows, row_of, record_rows, result_bytes}
use Rattle.result.specs.Result.{welfare_in, price_in, traded_in, row_in, step_rows_in, taken_in}
use Rattle.result.specs.Promise.{Demands}
use Rattle.result.specs.WorkedResult.{s5_book, s5_result, s5_left_out, with_byte}
use Rattle.result.proofs.PromiseLaws.{promise-kept}

-- the fifth line of the table of worked books
pub s5-worked : Worked s5_book (base_day (block12 1 2900 ∷ []) 3000 100 (true ∷ []) (100 ∷ 50 ∷ 100 ∷ 50 ∷ []) 410000 [])
unfolding worked_books worked_days
s5-worked = worked-books-hold.1.1.1.1.0

-- S5'S RESULT TO THE BYTE, from the definitions
pub s5-result : result_bytes s5_book ≡ s5_result
unfolding result_bytes s5_result hour_rows record_rows row_of beside block_rows bytes_of block_at step_order block_order chain_from u16_at u24_at book_with chained
s5-result = rw s5-worked.publishes refl

pub s5-meets : Demands s5_book s5_result
s5-meets = rw (sym s5-result) (promise-kept s5_book (accepted s5_book s5-worked.accepted))

-- ANOTHER OUTCOME WHOLE
-- the block left out, with the prices and rows of that set: it obeys the outcome properties, and the published result beats it
pub block-left-out : ¬ Demands s5_book s5_left_out
unfolding s5_result s5_left_out taken_in step_rows_in row_in block_at step_at u16_at u24_at u32_at step_order block_order chain_from book_with chained day_from day_of each_on_day canonical orders_of
    order_from step_from block_from steps_of day_value day_cost steps_value steps_cost blocks_value blocks_cost hour_count day_sum sum_to weight is_counted
block-left-out d =
    let at_most = d.best.none_above _ _ s5-meets.best.contends in
    absurd (omega (arith, at_most, d.best.counted))

-- ONE BYTE CHANGED
-- hour 1 counts
hour-1 : Counts 24 1
unfolding weight
hour-1 = record { first = omega arith; last = omega arith; counted = omega arith }

-- the day of S5's book has 24 hours
s5-hours : (day_from s5_book).hours ≡ 24
unfolding day_from day_of canonical orders_of book_with chained
s5-hours = refl

counts : Counts (day_from s5_book).hours 1
counts = rw s5-hours hour-1

-- the price of hour 1 one cent higher: 3001, which is not the middle price
pub price-changed : ¬ Demands s5_book (with_byte 11 185 s5_result)
unfolding s5_result taken_in price_in row_in block_at u16_at u24_at u32_at step_order block_order chain_from book_with chained
price-changed d =
    let same : ◌≡◌ {A = ℕ} 3001 3000 = d.obeys.set_price 1 counts ∙ sym (s5-meets.obeys.set_price 1 counts) in
    absurd (omega (arith, same))

-- hour 1 traded 99, where its buy step got 100
pub traded-changed : ¬ Demands s5_book (with_byte 15 99 s5_result)
unfolding s5_result taken_in traded_in step_rows_in row_in block_at u16_at u24_at u32_at step_order block_order chain_from book_with chained
traded-changed d =
    let same : ◌≡◌ {A = ℕ} 99 100 = d.obeys.traded_buys 1 counts ∙ sym (s5-meets.obeys.traded_buys 1 counts) in
    absurd (omega (arith, same))

-- the row of step 2 one tenth higher: hour 1 does not balance
pub row-changed : ¬ Demands s5_book (with_byte 207 51 s5_result)
unfolding s5_result taken_in step_rows_in row_in block_at step_at u16_at u24_at u32_at step_order block_order chain_from book_with chained day_from day_of each_on_day canonical orders_of order_from step_from
    block_from steps_of bought sold weight is_counted
row-changed d =
    let same : ◌≡◌ {A = ℕ} 100 101 = d.obeys.balanced 1 counts in
    absurd (omega (arith, same))

-- the welfare one tenth of a cent higher than that of the published blocks and rows
pub welfare-changed : ¬ Demands s5_book (with_byte 7 145 s5_result)
unfolding s5_result taken_in step_rows_in welfare_in row_in block_at step_at u16_at u24_at u32_at step_order block_order chain_from book_with chained day_from day_of each_on_day canonical orders_of
    order_from step_from block_from steps_of day_value day_cost steps_value steps_cost blocks_value blocks_cost hour_count day_sum sum_to weight is_counted
welfare-changed d =
    let same : ◌≡◌ {A = ℕ} 1000000 1000001 = d.best.counted in
    absurd (omega (arith, same))

-- the block's row half its quantity
pub half-block : ¬ Demands s5_book (with_byte 219 25 s5_result)
unfolding s5_result taken_in row_in block_at u16_at u24_at u32_at step_order block_order chain_from book_with chained
half-block d =
    let same : ◌≡◌ {A = ℕ} 25 0 = d.blocks_in_full.0 in
    absurd (omega (arith, same))
