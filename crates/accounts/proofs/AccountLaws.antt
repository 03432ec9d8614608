-- THE ACCOUNTS: all orders posted to empty accounts; and of an accepted book with its result the orders and the prices are those of the rules. Assumes
-- nothing.
use Prim.Native.Nat.{ℕ, zero, suc, ◌+◌, ◌*◌, ◌≤◌, ◌<◌}
use mathlib.Core.Bool.{Bool, true, false, cond}
use mathlib.Core.Path.{◌≡◌, refl, sym, ap, ap₂, ◌∙◌}
use mathlib.Core.List.{List, [], ◌∷◌, ◌++◌, map}
use native.Mathlib.Omega.{arith}
use lib.Dec.{eqb}
use lib.ListN.{length, get_or, replicate, length-replicate, get_or-replicate, get_or-eq_default}
use native.Mathlib.Decide.{dec_le}
use native.Mathlib.Nat.{lt_of_not-le}
use Rattle.rules.specs.Orders.{Block, canonical}
use Rattle.rules.specs.Hour.{by_side, when}
use Rattle.rules.specs.Day.{keep, day_of}
use Rattle.rules.specs.Outcome.{published, outcome}
use Rattle.rules.specs.Cash.{Executed, cash_by, over_executed, cash_of, owned_by, executed_steps, executed_blocks, executed_orders, published_price}
use Rattle.rules.proofs.Tests.{by-test}
use Rattle.rules.proofs.HourSums.{day_sum-le}
use Rattle.rules.proofs.CashLaws.{over-same, over-append}
use Rattle.records.specs.Records.{day_hours, side_byte, step_at, block_at, portfolio, first_step}
use Rattle.chains.specs.Bounds.{portfolio_numbers}
use Rattle.chains.specs.Chains.{chain, step_order, block_order}
use Rattle.book.specs.Refusals.{Accepted}
use Rattle.chains.proofs.Members.{Each, each_map, each-place}
use Rattle.book.proofs.Accepted.{StepRecord, BlockRecord, step-records, block-records}
use Rattle.orders.specs.Bridge.{step_from, order_from, block_on, orders_of, day_from}
use Rattle.orders.specs.Columns.{block_records, block_side_at, BlockColumns}
use Rattle.orders.proofs.RecordLaws.{blocks-all, block-each, block-as-read}
use Rattle.orders.proofs.BridgeLaws.{day-blocks, day-hours-read, block_same}
use Rattle.orders.proofs.HourLaws.{side_same}
use Rattle.result.specs.Result.{price_in, row_in, step_rows_in, result_bytes}
use Rattle.result.specs.Promise.{RowsInFull}
use Rattle.result.proofs.RowsLaws.{chosen_is, executed-is}
use Rattle.result.proofs.PromiseLaws.{result_says, taken_is, step-rows-read, promise-kept, hour-at}
use Rattle.gains.proofs.GainLaws.{column-at}
use Rattle.accounts.specs.Layout.{place_in, column_count}
use Rattle.accounts.specs.Accounts.{step_in, block_in, steps_in, blocks_in, orders_in, among, cash_in, AccountsOf}
use Rattle.accounts.specs.Postings.{figure_of, figure, account, OrdersPosted, StepFits}

-- THE RECORDS of an accepted book's orders
step-fit : (b : List ℕ) (k : ℕ) → StepRecord b k → StepFits b k
unfolding step_at
step-fit b k r = record { first = r.fields.hour.0; last = r.fields.hour.1; owned = r.fields.portfolio.0 }

pub steps-fit : (b : List ℕ) → Accepted b → Each (StepFits b) (chain b (first_step b))
unfolding step_order
steps-fit b a = each_map (StepRecord b) (StepFits b) (step_order b) (step-fit b) (step-records b a)

pub block_fit : (b : List ℕ) → Accepted b → (i : ℕ) → i < length (block_records b) → 1 ≤ portfolio b (get_or (block_records b) i 0)
unfolding block_at
block_fit b a i inside = (each-place (BlockRecord b) (block_records b) i 0 (block-each b a) inside).fields.portfolio.0

pub side-is : (b : List ℕ) (count : ℕ) (records sides hours prices quantities : List ℕ) → BlockColumns 32 b count records sides hours prices quantities →
    (i : ℕ) → i < count → get_or sides i 0 ≡ block_side_at b (get_or (block_records b) i 0)
side-is b count records sides hours prices quantities bc i inside =
    rw bc.sides_are (column-at 32 (block_side_at b) (block_records b) i (omega (arith, bc.counted)))

-- ALL ORDERS
owned-append : (p : ℕ) (l m : List Executed) → owned_by p (l ++ m) ≡ owned_by p l ++ owned_by p m
unfolding owned_by
owned-append p [] m = refl
owned-append p (o ∷ l) m =
    rw (owned-append p l m)
    (by-test (λ t. keep t o (owned_by p l ++ owned_by p m) ≡ keep t o (owned_by p l) ++ owned_by p m) (eqb o.portfolio p) (λ e. refl) (λ e. refl))

among-append : (q : ℕ) (l m : List Executed) → among q (l ++ m) ≡ among q l ++ among q m
unfolding among
among-append zero l m = refl
among-append (suc q) l m = owned-append (suc q) l m

account-append : (hours : ℕ) (price : ℕ → ℕ) (column q : ℕ) (l m : List Executed) →
    account hours price column q (l ++ m) ≡ account hours price column q l + account hours price column q m
unfolding account
account-append hours price column q l m = rw (among-append q l m) (over-append (figure hours price column) (among q l) (among q m))

count-is : (hours : ℕ) (price : ℕ → ℕ) (l : List Executed) → over_executed (figure hours price 4) l ≡ length l
unfolding figure figure_of
count-is hours price [] = refl
count-is hours price (o ∷ l) = omega (arith, count-is hours price l)

-- each column of an account
module _ (hours : ℕ) (price : ℕ → ℕ) (q : ℕ) (l : List Executed) where
  bought-is : account hours price 0 q l ≡ (cash_of hours price (among q l)).bought
  unfolding account figure figure_of cash_of
  bought-is = refl

  sold-is : account hours price 1 q l ≡ (cash_of hours price (among q l)).sold
  unfolding account figure figure_of cash_of
  sold-is = refl

  paid-is : account hours price 2 q l ≡ (cash_of hours price (among q l)).paid
  unfolding account figure figure_of cash_of
  paid-is = refl

  received_is : account hours price 3 q l ≡ (cash_of hours price (among q l)).received
  unfolding account figure figure_of cash_of
  received_is = refl

  orders-is : account hours price 4 q l ≡ length (among q l)
  unfolding account
  orders-is = count-is hours price (among q l)

-- EMPTY ACCOUNTS
pub empty-at : (i : ℕ) → ◌≡◌ {A = ℕ} (get_or (replicate 1280 0) i 0) 0
empty-at i = elim (dec_le 1280 i) [
  | yes past ↦
      let empty : List ℕ = replicate 1280 0 in
      let beyond : length empty ≤ i = omega (arith, length-replicate {A = ℕ} 1280 0) in
      get_or-eq_default empty 0 beyond
  | no less ↦ get_or-replicate {A = ℕ} 1280 i 0 0 (lt_of_not-le less)
]

module _ (b result mid after : List ℕ) (few many : ℕ)
    (first : OrdersPosted (day_hours b) (price_in result) few (steps_in b result) (replicate 1280 0) mid)
    (then : OrdersPosted (day_hours b) (price_in result) many (blocks_in b result) mid after) where
  all-posted : (column q : ℕ) → column < column_count → q < portfolio_numbers →
      get_or after (place_in column q) 0 ≡ account (day_hours b) (price_in result) column q (orders_in b result)
  unfolding orders_in
  all-posted column q inside small =
      omega (
        arith,
        first.at column q inside small,
        then.at column q inside small,
        empty-at (place_in column q),
        account-append (day_hours b) (price_in result) column q (steps_in b result) (blocks_in b result),
      )

  pub accounts-are : AccountsOf b result after
  unfolding cash_in
  accounts-are =
      let hours = day_hours b in
      let price = price_in result in
      let orders = orders_in b result in
      record {
        size = then.size ∙ first.size ∙ length-replicate {A = ℕ} 1280 0;
        bought_at = λ p small. all-posted 0 p (omega arith) small ∙ bought-is hours price p orders;
        sold_at = λ p small. all-posted 1 p (omega arith) small ∙ sold-is hours price p orders;
        paid_at = λ p small. all-posted 2 p (omega arith) small ∙ paid-is hours price p orders;
        received_at = λ p small. all-posted 3 p (omega arith) small ∙ received_is hours price p orders;
        orders_at = λ p small. all-posted 4 p (omega arith) small ∙ orders-is hours price p orders;
      }

-- THE ORDERS ARE THOSE OF THE RULES
steps-same : (b result l : List ℕ) → executed_steps (map (order_from b) l) (map (row_in result) l) ≡ map (step_in b result) l
unfolding executed_steps order_from step_from step_at step_in
steps-same b result [] = refl
steps-same b result (k ∷ l) = rw (side_same (side_byte b k), steps-same b result l)

abbrev as_taken : Bool → Block → Executed
as_taken t s = record { portfolio = s.portfolio; side = s.side; runs = s.runs; quantity = when t s.quantity }

block-taken : (b result : List ℕ) (k : ℕ) (t : Bool) → BlockRecord b k → row_in result k ≡ cond t (block_at b k).quantity 0 →
    as_taken t (block_on b k) ≡ block_in b result k
unfolding block_in
block-taken b result k true r row = ap (as_taken true) (block_same b k r) ∙ rw ((block-as-read b k r).quantity, row)
block-taken b result k false r row = ap (as_taken false) (block_same b k r) ∙ rw row

blocks-same : (b result l : List ℕ) (chosen : List Bool) → Each (BlockRecord b) l → RowsInFull b result l chosen →
    executed_blocks (map (block_on b) l) chosen ≡ map (block_in b result) l
unfolding executed_blocks
blocks-same b result [] chosen r rows = refl
blocks-same b result (k ∷ l) [] r rows = absurd rows
blocks-same b result (k ∷ l) (t ∷ chosen) r rows = ap₂ ◌∷◌ (block-taken b result k t r.0 rows.0) (blocks-same b result l chosen r.1 rows.1)

module _ (b : List ℕ) (a : Accepted b) where
  abbrev result : List ℕ
  result = result_bytes b

  executed-read : (published (orders_of b)).executed ≡ map (row_in result) (step_order b)
  unfolding step_rows_in
  executed-read = executed-is b ∙ sym (step-rows-read b result a (result_says b a))

  steps-read : executed_steps (canonical (orders_of b)).steps (published (orders_of b)).executed ≡ steps_in b result
  unfolding canonical orders_of
  steps-read = rw executed-read (steps-same b result (step_order b))

  blocks-read : executed_blocks (day_from b).blocks (published (orders_of b)).chosen ≡ blocks_in b result
  blocks-read =
      ap₂ executed_blocks (day-blocks b) (chosen_is b)
      ∙ blocks-same b result (block_order b) (outcome (day_from b)) (block-records b a)
      (rw (taken_is b result a (result_says b a)) at (promise-kept b a).blocks_in_full)
      ∙ rw (blocks-all b a)

  pub orders-are : orders_in b (result_bytes b) ≡ executed_orders (orders_of b)
  unfolding orders_in executed_orders day_from
  orders-are = rw (steps-read, blocks-read)

  -- THE PRICES ARE THE PUBLISHED ONES
  price-is : (h : ℕ) → 1 ≤ h → h ≤ 24 → price_in result h ≡ published_price (orders_of b) h
  unfolding published_price published day_from
  price-is h first last = (result_says b a).price_read h first last ∙ sym (hour-at 24 _ h first last)

  cash-by : (o : Executed) → cash_by (day_hours b) (price_in result) o ≡ cash_by (day_hours b) (published_price (orders_of b)) o
  unfolding cash_by
  cash-by o =
      let to = day_sum-le (day_hours b) (λ h. when (o.runs h) (o.quantity * price_in result h)) (λ h. when (o.runs h) (o.quantity * published_price (orders_of b) h))
      (λ h c. rw (price-is h c.first c.last) (omega arith)) in
      let from = day_sum-le (day_hours b) (λ h. when (o.runs h) (o.quantity * published_price (orders_of b) h)) (λ h. when (o.runs h) (o.quantity * price_in result h))
      (λ h c. rw (price-is h c.first c.last) (omega arith)) in
      omega arith

  cash-same : (l : List Executed) → cash_of (day_hours b) (price_in result) l ≡ cash_of (day_hours b) (published_price (orders_of b)) l
  unfolding cash_of
  cash-same l =
      rw (
        over-same (λ o. by_side o.side (cash_by (day_hours b) (price_in result) o) 0) (λ o. by_side o.side (cash_by (day_hours b) (published_price (orders_of b)) o) 0)
            (λ o. rw (cash-by o)) l,
        over-same (λ o. by_side o.side 0 (cash_by (day_hours b) (price_in result) o)) (λ o. by_side o.side 0 (cash_by (day_hours b) (published_price (orders_of b)) o))
            (λ o. rw (cash-by o)) l,
      )

  -- so the accounts are the rules' cash of each portfolio's own orders, and of all
  pub cash-are : (p : ℕ) → cash_in b (result_bytes b) p ≡ cash_of (day_of (orders_of b)).hours (published_price (orders_of b)) (among p (executed_orders (orders_of b)))
  unfolding cash_in day_from
  cash-are p = rw (day-hours-read b, orders-are) (cash-same (among p (executed_orders (orders_of b))))
