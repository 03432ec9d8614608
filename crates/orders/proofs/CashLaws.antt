-- THE CASH SHEET OF AN ACCEPTED BOOK (document 02, P3): "cash paid in all equals cash received", and bought equals sold; the totals are the sums over the lines
-- too; and its numbers have room. Assumes nothing.
use Prim.Native.Nat.{ℕ, ◌≤◌}
use mathlib.Core.Bool.{Bool}
use mathlib.Core.Path.{◌≡◌}
use mathlib.Core.List.{List, [], ◌∷◌, map}
use native.Mathlib.Omega.{arith}
use lib.ListN.{length, length-map, length-append}
use Rattle.chains.specs.Chains.{step_order, block_order}
use Rattle.book.specs.Refusals.{Accepted}
use Rattle.chains.proofs.Members.{Each}
use Rattle.book.proofs.Accepted.{StepRecord, BlockRecord, step-records, block-records, record-count, lengths}
use Rattle.rules.specs.Orders.{Order, Block, canonical}
use Rattle.rules.specs.Day.{day_of}
use Rattle.rules.specs.Outcome.{published}
use Rattle.rules.specs.Cash.{executed_steps, executed_blocks, executed_orders, cash_sheet}
use Rattle.rules.proofs.CashLaws as rules
use Rattle.rules.proofs.CashLineLaws.{OwnersInRange, BlockOwnersInRange, SumsOfLines, sheet-totals-of-lines}
use Rattle.rules.proofs.CashBounds.{most_orders}
use Rattle.orders.specs.Bridge.{order_from, block_from, block_on, orders_of, day_from}
use Rattle.orders.proofs.BridgeLaws.{day-blocks, prices-in-range, hours-in-range}

-- every step's portfolio, and every block's, is from 1 to 255
owners : (b : List ℕ) (l : List ℕ) → Each (StepRecord b) l → OwnersInRange (map (order_from b) l)
unfolding order_from
owners b [] e = tt
owners b (k ∷ l) e = (e.0.fields.portfolio.0, e.0.fields.portfolio.1, owners b l e.1)

block-owners : (b : List ℕ) (l : List ℕ) → Each (BlockRecord b) l → BlockOwnersInRange (map (block_on b) l)
unfolding block_from
block-owners b [] e = tt
block-owners b (k ∷ l) e = (e.0.fields.portfolio.0, e.0.fields.portfolio.1, block-owners b l e.1)

-- so many orders have an executed quantity at most
steps-listed : (l : List Order) (qs : List ℕ) → length (executed_steps l qs) ≤ length l
unfolding executed_steps
steps-listed [] qs = omega arith
steps-listed (o ∷ l) [] = omega arith
steps-listed (o ∷ l) (q ∷ qs) = omega (arith, steps-listed l qs)

blocks-listed : (l : List Block) (chosen : List Bool) → length (executed_blocks l chosen) ≤ length l
unfolding executed_blocks
blocks-listed [] chosen = omega arith
blocks-listed (b ∷ l) [] = omega arith
blocks-listed (b ∷ l) (t ∷ chosen) = omega (arith, blocks-listed l chosen)

module _ (b : List ℕ) (a : Accepted b) where
  -- CASH PAID IN ALL EQUALS CASH RECEIVED
  pub cash-balances : (cash_sheet (orders_of b)).totals.paid ≡ (cash_sheet (orders_of b)).totals.received
  unfolding day_from
  cash-balances = rules.cash-balances (orders_of b) (prices-in-range b a) (hours-in-range b a)

  -- WHAT IS BOUGHT IN ALL IS SOLD
  pub quantities-balance : (cash_sheet (orders_of b)).totals.bought ≡ (cash_sheet (orders_of b)).totals.sold
  unfolding day_from
  quantities-balance = rules.quantities-balance (orders_of b) (prices-in-range b a) (hours-in-range b a)

  -- EACH TOTAL IS THE SUM OVER THE LINES
  pub totals-of-lines : SumsOfLines (cash_sheet (orders_of b)).lines (cash_sheet (orders_of b)).totals
  unfolding day_from canonical orders_of
  totals-of-lines =
      sheet-totals-of-lines (orders_of b) (owners b (step_order b) (step-records b a))
      (rw (day-blocks b) (block-owners b (block_order b) (block-records b a)))

  -- at most 2,047 orders
  pub executed-few : length (executed_orders (orders_of b)) ≤ most_orders
  unfolding executed_orders canonical orders_of day_from
  executed-few =
      let steps = map (order_from b) (step_order b) in
      let blocks = (day_of (orders_of b)).blocks in
      let all = length-append (executed_steps steps (published (orders_of b)).executed) (executed_blocks blocks (published (orders_of b)).chosen) in
      let count : length blocks ≡ length (block_order b) = rw (day-blocks b, length-map) in
      let own : length steps ≡ length (step_order b) = rw length-map in
      omega (
        arith,
        all,
        steps-listed steps (published (orders_of b)).executed,
        blocks-listed blocks (published (orders_of b)).chosen,
        own,
        count,
        lengths b a,
        (record-count b a).1,
      )
