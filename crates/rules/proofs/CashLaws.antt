-- CASH BALANCES (document 02, P3: "cash paid in all equals cash received"): of orders that in each hour that counts buy together what they sell, paid is
-- received and bought is sold, at any hourly prices; so it is with all orders of a book under its published outcome. Assumes nothing.
use Prim.Native.Nat.{ℕ, ◌+◌, ◌*◌}
use mathlib.Core.Bool.{Bool, true, false}
use mathlib.Core.Path.{◌≡◌, refl, sym, ◌∙◌}
use mathlib.Core.List.{List, [], ◌∷◌, ◌++◌}
use native.Mathlib.Omega.{arith}
use native.Mathlib.Nat.{mul_comm, mul-one}
use lib.Dec.{eqb}
use Rattle.rules.specs.Orders.{Side, buy, sell, Step, Order, Block, Orders, canonical, steps_of, executed_of}
use Rattle.rules.specs.Hour.{by_side, when}
use Rattle.rules.specs.Execution.{total₂, bought, sold}
use Rattle.rules.specs.Day.{day_of, day_sum, keep, steps_in, taken, over_blocks, sells, buys, hour_of, executed}
use Rattle.rules.specs.Outcome.{outcome, published}
use Rattle.rules.specs.Contender.{quantities_in, Balanced, Counts, PricesInRange, HoursInRange}
use Rattle.rules.specs.Cash.{
  Executed,
  traded_by,
  cash_by,
  over_executed,
  cash_of,
  executed_steps,
  executed_blocks,
  executed_orders,
  published_price,
  cash_sheet,
}
use Rattle.rules.proofs.CashCases
use Rattle.rules.proofs.HourSums.{day_sum-counted, day_sum-same, day_sum-add, day_sum-zero}
use Rattle.rules.proofs.BestLaws.{outcome-first}
use Rattle.rules.proofs.DayLaws.{lawful-contends, empty-lawful}

-- SUMS OVER ORDERS
pub over-same : (f g : Executed → ℕ) → ((o : Executed) → f o ≡ g o) → (l : List Executed) → over_executed f l ≡ over_executed g l
over-same f g e [] = refl
over-same f g e (o ∷ l) = omega (arith, e o, over-same f g e l)

pub over-append : (f : Executed → ℕ) (l m : List Executed) → over_executed f (l ++ m) ≡ over_executed f l + over_executed f m
over-append f [] m = omega arith
over-append f (o ∷ l) m = omega (arith, over-append f l m)

over-times : (n : ℕ) (f : Executed → ℕ) (l : List Executed) → over_executed (λ o. n * f o) l ≡ n * over_executed f l
over-times n f [] = omega arith
over-times n f (o ∷ l) = omega (arith, over-times n f l)

-- THE EXCHANGE: a sum over the orders of sums over the hours is the sum over the hours of sums over the orders
pub exchange : (hours : ℕ) (g : Executed → ℕ → ℕ) (l : List Executed) →
    over_executed (λ o. day_sum hours (g o)) l ≡ day_sum hours (λ h. over_executed (λ o. g o h) l)
exchange hours g [] = sym (day_sum-zero hours)
exchange hours g (o ∷ l) = omega (arith, day_sum-add hours (g o) (λ h. over_executed (λ o. g o h) l), exchange hours g l)

-- IN ONE HOUR
-- what orders buy in it together, and sell
abbrev pub bought_in : ℕ → List Executed → ℕ
bought_in h = over_executed (λ o. by_side o.side (when (o.runs h) o.quantity) 0)

abbrev pub sold_in : ℕ → List Executed → ℕ
sold_in h = over_executed (λ o. by_side o.side 0 (when (o.runs h) o.quantity))

-- ALL FOUR NUMBERS, hour by hour
module _ (hours : ℕ) (price : ℕ → ℕ) where
  at-price : (t : Bool) (q p : ℕ) → when t (q * p) ≡ p * when t q
  at-price true q p = mul_comm q p
  at-price false q p = omega arith

  -- one order's cash, as a buy and as a sell
  paid-hours : (side : Side) (runs : ℕ → Bool) (q : ℕ) →
      by_side side (day_sum hours (λ h. when (runs h) (q * price h))) 0 ≡ day_sum hours (λ h. price h * by_side side (when (runs h) q) 0)
  paid-hours buy runs q = day_sum-same hours _ _ (λ h. at-price (runs h) q (price h))
  paid-hours sell runs q = sym (day_sum-same hours _ (λ h. 0) (λ h. omega arith) ∙ day_sum-zero hours)

  received-hours : (side : Side) (runs : ℕ → Bool) (q : ℕ) →
      by_side side 0 (day_sum hours (λ h. when (runs h) (q * price h))) ≡ day_sum hours (λ h. price h * by_side side 0 (when (runs h) q))
  received-hours buy runs q = sym (day_sum-same hours _ (λ h. 0) (λ h. omega arith) ∙ day_sum-zero hours)
  received-hours sell runs q = day_sum-same hours _ _ (λ h. at-price (runs h) q (price h))

  pub paid-by-hour : (l : List Executed) → (cash_of hours price l).paid ≡ day_sum hours (λ h. price h * bought_in h l)
  unfolding cash_of cash_by
  paid-by-hour l =
      over-same _ _ (λ o. paid-hours o.side o.runs o.quantity) l
      ∙ exchange hours (λ o h. price h * by_side o.side (when (o.runs h) o.quantity) 0) l
      ∙ day_sum-same hours _ _ (λ h. over-times (price h) (λ o. by_side o.side (when (o.runs h) o.quantity) 0) l)

  pub received-by-hour : (l : List Executed) → (cash_of hours price l).received ≡ day_sum hours (λ h. price h * sold_in h l)
  unfolding cash_of cash_by
  received-by-hour l =
      over-same _ _ (λ o. received-hours o.side o.runs o.quantity) l
      ∙ exchange hours (λ o h. price h * by_side o.side 0 (when (o.runs h) o.quantity)) l
      ∙ day_sum-same hours _ _ (λ h. over-times (price h) (λ o. by_side o.side 0 (when (o.runs h) o.quantity)) l)

-- a quantity is the cash at prices of 1
traded-as-cash : (hours : ℕ) (o : Executed) → traded_by hours o ≡ cash_by hours (λ h. 1) o
unfolding traded_by cash_by
traded-as-cash hours o = day_sum-same hours _ _ (λ h. rw (mul-one o.quantity))

bought-as-paid : (hours : ℕ) (price : ℕ → ℕ) (l : List Executed) → (cash_of hours price l).bought ≡ (cash_of hours (λ h. 1) l).paid
unfolding cash_of
bought-as-paid hours price l = over-same _ _ (λ o. rw (traded-as-cash hours o)) l

sold-as-received : (hours : ℕ) (price : ℕ → ℕ) (l : List Executed) → (cash_of hours price l).sold ≡ (cash_of hours (λ h. 1) l).received
unfolding cash_of
sold-as-received hours price l = over-same _ _ (λ o. rw (traded-as-cash hours o)) l

-- BALANCE: where in each hour that counts the orders buy together what they sell, paid is received and bought is sold, at any prices
module _ (hours : ℕ) (price : ℕ → ℕ) (l : List Executed) (balanced : (h : ℕ) → Counts hours h → bought_in h l ≡ sold_in h l) where
  pub paid-is-received : (cash_of hours price l).paid ≡ (cash_of hours price l).received
  paid-is-received =
      paid-by-hour hours price l ∙ day_sum-counted hours _ _ (λ h c. rw (balanced h c)) ∙ sym (received-by-hour hours price l)

pub bought-is-sold : (hours : ℕ) (price : ℕ → ℕ) (l : List Executed) → ((h : ℕ) → Counts hours h → bought_in h l ≡ sold_in h l) →
    (cash_of hours price l).bought ≡ (cash_of hours price l).sold
bought-is-sold hours price l balanced =
    bought-as-paid hours price l ∙ paid-is-received hours (λ h. 1) l balanced ∙ sym (sold-as-received hours price l)

-- THE ORDERS OF A DAY: in an hour the step chain trades what its steps of that hour do, and the blocks what those of the set do
module _ (h : ℕ) where
  kept : (f : Side → ℕ → ℕ) (t : Bool) (o : Order) (q : ℕ) (l : List Order) (qs : List ℕ) →
      total₂ (λ s q. f s.side q) (keep t o.step (steps_in h (steps_of l))) (keep t q (quantities_in h (steps_of l) qs))
      ≡ when t (f o.step.side q) + total₂ (λ s q. f s.side q) (steps_in h (steps_of l)) (quantities_in h (steps_of l) qs)
  kept f true o q l qs = refl
  kept f false o q l qs = omega arith

  none_left : (f : Side → ℕ → ℕ) (l : List Step) → total₂ (λ s q. f s.side q) l [] ≡ 0
  none_left f [] = refl
  none_left f (s ∷ l) = refl

  when-bought : (side : Side) (t : Bool) (q : ℕ) → by_side side (when t q) 0 ≡ when t (by_side side q 0)
  when-bought buy t q = refl
  when-bought sell true q = refl
  when-bought sell false q = refl

  when-sold : (side : Side) (t : Bool) (q : ℕ) → by_side side 0 (when t q) ≡ when t (by_side side 0 q)
  when-sold sell t q = refl
  when-sold buy true q = refl
  when-sold buy false q = refl

  steps-bought : (l : List Order) (qs : List ℕ) → bought_in h (executed_steps l qs) ≡ bought (steps_in h (steps_of l)) (quantities_in h (steps_of l) qs)
  unfolding executed_steps steps_of bought
  steps-bought [] qs = refl
  steps-bought (o ∷ l) [] = sym (none_left (λ side q. by_side side q 0) (steps_in h (o.step ∷ steps_of l)))
  steps-bought (o ∷ l) (q ∷ qs) =
      omega (
        arith,
        when-bought o.step.side (eqb o.step.hour h) q,
        kept (λ side q. by_side side q 0) (eqb o.step.hour h) o q l qs,
        steps-bought l qs,
      )

  steps-sold : (l : List Order) (qs : List ℕ) → sold_in h (executed_steps l qs) ≡ sold (steps_in h (steps_of l)) (quantities_in h (steps_of l) qs)
  unfolding executed_steps steps_of sold
  steps-sold [] qs = refl
  steps-sold (o ∷ l) [] = sym (none_left (λ side q. by_side side 0 q) (steps_in h (o.step ∷ steps_of l)))
  steps-sold (o ∷ l) (q ∷ qs) =
      omega (
        arith,
        when-sold o.step.side (eqb o.step.hour h) q,
        kept (λ side q. by_side side 0 q) (eqb o.step.hour h) o q l qs,
        steps-sold l qs,
      )

  -- a block that is left out trades nothing
  out-nothing : (side : Side) (t : Bool) → (by_side side (when t 0) 0 ≡ 0) × (by_side side 0 (when t 0) ≡ 0)
  out-nothing buy true = (refl, refl)
  out-nothing buy false = (refl, refl)
  out-nothing sell true = (refl, refl)
  out-nothing sell false = (refl, refl)

  blocks-bought : (l : List Block) (chosen : List Bool) → bought_in h (executed_blocks l chosen) ≡ over_blocks (buys h) (taken l chosen)
  unfolding executed_blocks
  blocks-bought [] chosen = refl
  blocks-bought (b ∷ l) [] = refl
  blocks-bought (b ∷ l) (true ∷ chosen) = omega (arith, when-bought b.side (b.runs h) b.quantity, blocks-bought l chosen)
  blocks-bought (b ∷ l) (false ∷ chosen) = omega (arith, (out-nothing b.side (b.runs h)).0, blocks-bought l chosen)

  blocks-sold : (l : List Block) (chosen : List Bool) → sold_in h (executed_blocks l chosen) ≡ over_blocks (sells h) (taken l chosen)
  unfolding executed_blocks
  blocks-sold [] chosen = refl
  blocks-sold (b ∷ l) [] = refl
  blocks-sold (b ∷ l) (true ∷ chosen) = omega (arith, when-sold b.side (b.runs h) b.quantity, blocks-sold l chosen)
  blocks-sold (b ∷ l) (false ∷ chosen) = omega (arith, (out-nothing b.side (b.runs h)).1, blocks-sold l chosen)

-- an hour of a day that balances (document 01) is an hour in which the orders buy together what they sell
pub orders-balance : (orders : Orders) (set : List Bool) (quantities : List ℕ) (h : ℕ) →
    Balanced (hour_of (day_of orders) (taken (day_of orders).blocks set) h) (quantities_in h (day_of orders).steps quantities) →
    let l = executed_steps (canonical orders).steps quantities ++ executed_blocks (day_of orders).blocks set in bought_in h l ≡ sold_in h l
unfolding day_of
orders-balance orders set quantities h balanced =
    let steps = (canonical orders).steps in
    let blocks = (day_of orders).blocks in
    omega (
      arith,
      balanced,
      over-append (λ o. by_side o.side (when (o.runs h) o.quantity) 0) (executed_steps steps quantities) (executed_blocks blocks set),
      over-append (λ o. by_side o.side 0 (when (o.runs h) o.quantity)) (executed_steps steps quantities) (executed_blocks blocks set),
      steps-bought h steps quantities,
      steps-sold h steps quantities,
      blocks-bought h blocks set,
      blocks-sold h blocks set,
    )

-- THE SHEET BALANCES, of all orders with prices and hours in range
module _ (orders : Orders) (prices : PricesInRange (day_of orders).steps) (hours : HoursInRange (day_of orders).steps) where
  all-balanced : (h : ℕ) → Counts (day_of orders).hours h → bought_in h (executed_orders orders) ≡ sold_in h (executed_orders orders)
  unfolding executed_orders published executed_of
  all-balanced h c =
      let day = day_of orders in
      let first = outcome-first day (empty-lawful day prices hours) in
      orders-balance orders (outcome day) (executed day (taken day.blocks (outcome day))) h
      ((lawful-contends day prices hours (outcome day) first.is_lawful first.of_blocks).balanced h c)

  -- cash paid in all is cash received
  pub cash-balances : (cash_sheet orders).totals.paid ≡ (cash_sheet orders).totals.received
  unfolding cash_sheet
  cash-balances = paid-is-received (day_of orders).hours (published_price orders) (executed_orders orders) all-balanced

  -- and what is bought in all is sold
  pub quantities-balance : (cash_sheet orders).totals.bought ≡ (cash_sheet orders).totals.sold
  unfolding cash_sheet
  quantities-balance = bought-is-sold (day_of orders).hours (published_price orders) (executed_orders orders) all-balanced
