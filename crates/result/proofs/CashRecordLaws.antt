-- EACH TOTAL OF THE CASH SHEET IS THE SUM OVER THE ORDER RECORDS of an accepted book (document 02, P3): over the records 1 to R − 1, each with its row in the
-- result; a link counts 0. For any number of an executed order, and then for the four totals. Assumes nothing.
use Prim.Native.Nat.{ℕ, ◌-◌}
use mathlib.Core.Bool.{Bool, true, false}
use mathlib.Core.Path.{◌≡◌, refl, ap₂}
use mathlib.Core.List.{List, [], ◌∷◌, ◌++◌, map}
use native.Mathlib.Omega.{arith}
use Rattle.records.specs.Records.{record_count, day_hours}
use Rattle.chains.specs.Chains.{step_order, block_order, link_order}
use Rattle.book.specs.Refusals.{Accepted}
use Rattle.book.proofs.RecordSums.{sum_over, sum-by-kind}
use Rattle.rules.specs.Orders.{canonical}
use Rattle.rules.specs.Hour.{by_side}
use Rattle.rules.specs.Day.{day_of, sum_to}
use Rattle.rules.specs.Outcome.{outcome}
use Rattle.rules.specs.Cash.{
  Executed,
  traded_by,
  cash_by,
  Cash,
  over_executed,
  cash_of,
  executed_steps,
  executed_blocks,
  executed_orders,
  published_price,
  cash_sheet,
}
use Rattle.rules.proofs.CashLaws.{over-append}
use Rattle.orders.specs.Bridge.{step_from, order_from, block_from, block_on, orders_of, day_from}
use Rattle.orders.proofs.BridgeLaws.{day-blocks}
use Rattle.result.specs.Result.{result_bytes, row_in, step_rows_in}
use Rattle.result.specs.Promise.{RowsInFull}
use Rattle.result.specs.CashRecords.{step_executed, block_executed, of_record}
use Rattle.result.proofs.RowsLaws.{chosen_is, executed-is}
use Rattle.result.proofs.PromiseLaws.{result_says, step-rows-read, taken_is, promise-kept}

-- THE CHAINS, record by record
steps-executed : (b result l : List ℕ) → executed_steps (map (order_from b) l) (map (row_in result) l) ≡ map (step_executed b result) l
unfolding executed_steps order_from step_from step_executed
steps-executed b result [] = refl
steps-executed b result (k ∷ l) = ap₂ ◌∷◌ refl (steps-executed b result l)

blocks-executed : (b result l : List ℕ) (chosen : List Bool) → RowsInFull b result l chosen →
    executed_blocks (map (block_on b) l) chosen ≡ map (block_executed b result) l
unfolding executed_blocks block_from block_executed
blocks-executed b result [] chosen r = refl
blocks-executed b result (k ∷ l) [] r = absurd r
blocks-executed b result (k ∷ l) (true ∷ chosen) r = rw r.0 (ap₂ ◌∷◌ refl (blocks-executed b result l chosen r.1))
blocks-executed b result (k ∷ l) (false ∷ chosen) r = rw r.0 (ap₂ ◌∷◌ refl (blocks-executed b result l chosen r.1))

over-map : (f : Executed → ℕ) (g : ℕ → Executed) (l : List ℕ) → over_executed f (map g l) ≡ sum_over (λ k. f (g k)) l
over-map f g [] = refl
over-map f g (k ∷ l) = omega (arith, over-map f g l)

over_none : (l : List ℕ) → sum_over (λ k. 0) l ≡ 0
over_none [] = refl
over_none (k ∷ l) = omega (arith, over_none l)

module _ (b : List ℕ) (a : Accepted b) where
  -- THE ORDERS OF THE RULES are the records with their rows
  pub orders-are-records : executed_orders (orders_of b)
      ≡ map (step_executed b (result_bytes b)) (step_order b) ++ map (block_executed b (result_bytes b)) (block_order b)
  unfolding executed_orders canonical orders_of step_rows_in day_from
  orders-are-records =
      let says = result_says b a in
      let rows = step-rows-read b (result_bytes b) a says in
      let full = rw (taken_is b (result_bytes b) a says) at (promise-kept b a).blocks_in_full in
      rw (executed-is b, ← rows, day-blocks b, chosen_is b)
      (ap₂ ◌++◌ (steps-executed b (result_bytes b) (step_order b)) (blocks-executed b (result_bytes b) (block_order b) (outcome (day_from b)) full))

  -- A SUM OVER THE ORDERS IS THE SUM OVER THE RECORDS, of any number of an executed order
  pub orders-over-records : (f : Executed → ℕ) → over_executed f (executed_orders (orders_of b)) ≡ sum_to (record_count b - 1) (of_record f b (result_bytes b))
  unfolding of_record
  orders-over-records f =
      let step = step_executed b (result_bytes b) in
      let block = block_executed b (result_bytes b) in
      rw orders-are-records
      (omega (
        arith,
        over-append f (map step (step_order b)) (map block (block_order b)),
        over-map f step (step_order b),
        over-map f block (block_order b),
        over_none (link_order b),
        sum-by-kind b a (λ k. f (step k)) (λ k. f (block k)) (λ k. 0),
      ))

-- Each of four totals is the sum over the records of what each bought, sold, paid and received.
pub record SumsOfRecords (b : List ℕ) (totals : Cash) : Type 0 where
  pub bought : totals.bought ≡ sum_to (record_count b - 1) (of_record (λ o. by_side o.side (traded_by (day_hours b) o) 0) b (result_bytes b))
  pub sold : totals.sold ≡ sum_to (record_count b - 1) (of_record (λ o. by_side o.side 0 (traded_by (day_hours b) o)) b (result_bytes b))
  pub paid : totals.paid
      ≡ sum_to (record_count b - 1) (of_record (λ o. by_side o.side (cash_by (day_hours b) (published_price (orders_of b)) o) 0) b (result_bytes b))
  pub received : totals.received
      ≡ sum_to (record_count b - 1) (of_record (λ o. by_side o.side 0 (cash_by (day_hours b) (published_price (orders_of b)) o)) b (result_bytes b))

-- EACH TOTAL IS THE SUM OVER THE ORDER RECORDS
pub totals-over-records : (b : List ℕ) → Accepted b → SumsOfRecords b (cash_sheet (orders_of b)).totals
unfolding cash_sheet cash_of day_from day_of canonical orders_of
totals-over-records b a =
    record {
      bought = orders-over-records b a _;
      sold = orders-over-records b a _;
      paid = orders-over-records b a _;
      received = orders-over-records b a _;
    }
