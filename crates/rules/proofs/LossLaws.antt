-- THE LOSS FORM of the day. At any hourly prices p, welfare, the losses of the blocks (of a taken one what the prices take from it, of one left out
-- its gain) and the hours' gaps add up to one number, for every set whose hours clear. So of lawful sets the one of greatest welfare has the least
-- loss, and the loss of the decided blocks is no more than that of any completion. Assumes nothing.
use Prim.Native.Nat.{ℕ, ◌+◌, ◌-◌, ◌*◌, ◌≤◌}
use mathlib.Core.Bool.{Bool, true, false}
use mathlib.Core.Path.{◌≡◌, refl, ap}
use mathlib.Core.List.{List, [], ◌∷◌, ◌++◌}
use native.Mathlib.Omega.{arith}
use native.Mathlib.Nat.{suc_inj}
use lib.ListN.{length, drop, replicate}
use Rattle.rules.specs.Orders.{Side, buy, sell, Block}
use Rattle.rules.specs.Hour.{by_side}
use Rattle.rules.specs.Day.{
  Day,
  day_sum,
  steps_in,
  taken,
  over_blocks,
  sells,
  buys,
  hour_of,
  set_prices,
  hour_count,
  price_sum,
  lawful,
  blocks_value,
  blocks_cost,
  day_value,
  day_cost,
  executed,
  welfare,
}
use Rattle.rules.specs.Contender.{Counts, quantities_in, PricesInRange, HoursInRange}
use Rattle.rules.proofs.PricingLaws.{Clearable, clearable}
use Rattle.rules.proofs.DualityLaws.{value, cost, surplus}
use Rattle.rules.proofs.HourSums.{day_sum-le, day_sum-add}
use Rattle.rules.proofs.ChainLaws.{prices-in}
use Rattle.rules.proofs.DayLaws.{
  earned,
  paid,
  earned-is,
  paid-is,
  set_prices-clear,
  clearable-clears,
  executed-in,
  value-by-hour,
  cost-by-hour,
  all-clear,
  welfare-is,
}
use Rattle.rules.proofs.BoundLaws.{gain}
use Rattle.rules.proofs.NeighbourLaws.{slack, slack-is}

-- what the prices take from a block over all its hours, 0 or more: lost if it is taken, as its gain is if it is left out
unfoldable pub against : ℕ → (ℕ → ℕ) → Block → ℕ
against hours p b =
    b.quantity
    * by_side b.side (price_sum hours p b - b.price * hour_count hours b) (b.price * hour_count hours b - price_sum hours p b)

-- the losses of the decided blocks
unfoldable pub losses : ℕ → (ℕ → ℕ) → List Block → List Bool → ℕ
losses hours p [] set = 0
losses hours p (b ∷ l) [] = 0
losses hours p (b ∷ l) (true ∷ set) = against hours p b + losses hours p l set
losses hours p (b ∷ l) (false ∷ set) = gain hours p b + losses hours p l set

-- the gaps of the hours under a set
unfoldable pub gaps : Day → (ℕ → ℕ) → List Bool → ℕ
gaps day p set = day_sum day.hours (λ h. slack (p h) (hour_of day (taken day.blocks set) h))

-- THE LOSS of a set
unfoldable pub loss_of : Day → (ℕ → ℕ) → List Bool → ℕ
loss_of day p set = losses day.hours p day.blocks set + gaps day p set

-- what welfare and loss add up to
unfoldable pub whole_of : Day → (ℕ → ℕ) → ℕ
whole_of day p =
    day_sum day.hours (λ h. surplus (p h) (steps_in h day.steps)) + over_blocks (gain day.hours p) day.blocks

-- ONE BLOCK loses one way or the other, never both
module _ (hours : ℕ) (p : ℕ → ℕ) where
  apart : (q a b : ℕ) → q * a + q * (b - a) ≡ q * b + q * (a - b)
  apart q a b =
      let e : a + (b - a) ≡ b + (a - b) = omega arith in
      omega (arith, ap (λ x. q * x) e)

  block-loses : (side : Side) (q limit sum : ℕ) →
      by_side side (q * limit) 0 + by_side side 0 (q * sum) + q * by_side side (sum - limit) (limit - sum)
      ≡ by_side side 0 (q * limit) + by_side side (q * sum) 0 + q * by_side side (limit - sum) (sum - limit)
  block-loses buy q limit sum = omega (arith, apart q limit sum)
  block-loses sell q limit sum = omega (arith, apart q sum limit)

  blocks-lose : (l : List Block) (set : List Bool) → length set ≡ length l →
      blocks_value hours (taken l set) + earned hours p (taken l set) + losses hours p l set
      ≡ blocks_cost hours (taken l set) + paid hours p (taken l set) + over_blocks (gain hours p) l
  unfolding blocks_value earned blocks_cost paid losses against gain
  blocks-lose [] [] e = omega arith
  blocks-lose [] (x ∷ set) e = absurd (omega arith)
  blocks-lose (b ∷ l) [] e = absurd (omega arith)
  blocks-lose (b ∷ l) (true ∷ set) e =
      omega (arith, block-loses b.side b.quantity (b.price * hour_count hours b) (price_sum hours p b), blocks-lose l set (suc_inj e))
  blocks-lose (b ∷ l) (false ∷ set) e = omega (arith, blocks-lose l set (suc_inj e))

-- sums that agree in every hour that counts
pub day_sum-counted : (hours : ℕ) (f g : ℕ → ℕ) → ((h : ℕ) → Counts hours h → f h ≡ g h) → day_sum hours f ≡ day_sum hours g
day_sum-counted hours f g k =
    omega (arith, day_sum-le hours f g (λ h c. omega (arith, k h c)), day_sum-le hours g f (λ h c. omega (arith, k h c)))

-- THE DAY
module _ (day : Day) (prices : PricesInRange day.steps) (hours : HoursInRange day.steps) (p : ℕ → ℕ)
    (set : List Bool) (size : length set ≡ length day.blocks) where
  abbrev S : List Block
  S = taken day.blocks set

  -- welfare, losses and gaps add up, whether or not the blocks keep their limits
  pub loss-identity : ((h : ℕ) → Counts day.hours h → Clearable (hour_of day (taken day.blocks set) h)) →
      day_value day (taken day.blocks set) (executed day (taken day.blocks set)) + loss_of day p set
      ≡ day_cost day (taken day.blocks set) (executed day (taken day.blocks set)) + whole_of day p
  unfolding loss_of gaps whole_of
  loss-identity clear =
      let v : ℕ → ℕ = λ h. value (steps_in h day.steps) (quantities_in h day.steps (executed day S)) in
      let c : ℕ → ℕ = λ h. cost (steps_in h day.steps) (quantities_in h day.steps (executed day S)) in
      let pb : ℕ → ℕ = λ h. p h * over_blocks (buys h) S in
      let ps : ℕ → ℕ = λ h. p h * over_blocks (sells h) S in
      let g : ℕ → ℕ = λ h. slack (p h) (hour_of day S h) in
      let s : ℕ → ℕ = λ h. surplus (p h) (steps_in h day.steps) in
      let hour : (h : ℕ) → Counts day.hours h → (v h + pb h) + g h ≡ (c h + s h) + ps h = λ h k.
      rw (executed-in day prices hours S h)
      (slack-is (hour_of day S h) (prices-in h day.steps prices) (set_prices day S h)
      (set_prices-clear day prices hours S h (clearable-clears day prices hours S h (clear h k))) (p h)) in
      omega (
        arith,
        day_sum-counted day.hours (λ h. (v h + pb h) + g h) (λ h. (c h + s h) + ps h) hour,
        day_sum-add day.hours (λ h. v h + pb h) g,
        day_sum-add day.hours v pb,
        day_sum-add day.hours (λ h. c h + s h) ps,
        day_sum-add day.hours c s,
        earned-is day.hours p S,
        paid-is day.hours p S,
        value-by-hour day prices hours S (executed day S),
        cost-by-hour day prices hours S (executed day S),
        blocks-lose day.hours p day.blocks set size,
      )

  -- of a lawful set
  pub welfare-and-loss : lawful day set ≡ true → welfare day set + loss_of day p set ≡ whole_of day p
  welfare-and-loss law =
      omega (
        arith,
        loss-identity (λ h k. clearable (hour_of day S h) (set_prices day S h) (all-clear day prices hours set law h k)),
        welfare-is day prices hours set law,
      )

-- DECIDED BLOCKS
-- a set's losses are those of its decided part and of the rest
pub losses-split : (hours : ℕ) (p : ℕ → ℕ) (l : List Block) (d s : List Bool) →
    losses hours p l (d ++ s) ≡ losses hours p l d + losses hours p (drop (length d) l) s
unfolding losses
losses-split hours p [] [] s = omega arith
losses-split hours p [] (x ∷ d) s = omega arith
losses-split hours p (b ∷ l) [] s = omega arith
losses-split hours p (b ∷ l) (true ∷ d) s = omega (arith, losses-split hours p l d s)
losses-split hours p (b ∷ l) (false ∷ d) s = omega (arith, losses-split hours p l d s)

-- none are decided
pub losses-none : (hours : ℕ) (p : ℕ → ℕ) (l : List Block) → losses hours p l [] ≡ 0
unfolding losses
losses-none hours p [] = refl
losses-none hours p (b ∷ l) = refl

-- every block is left out
pub losses-empty : (hours : ℕ) (p : ℕ → ℕ) (l : List Block) → losses hours p l (replicate (length l) false) ≡ over_blocks (gain hours p) l
unfolding losses
losses-empty hours p [] = refl
losses-empty hours p (b ∷ l) = omega (arith, losses-empty hours p l)

-- one more decision adds one block's loss
module _ (hours : ℕ) (p : ℕ → ℕ) (l : List Block) (d : List Bool) (b : Block) (after : List Block) (next : drop (length d) l ≡ b ∷ after) where
  one-taken : losses hours p (b ∷ after) (true ∷ []) ≡ against hours p b
  unfolding losses
  one-taken = omega (arith, losses-none hours p after)

  one_left : losses hours p (b ∷ after) (false ∷ []) ≡ gain hours p b
  unfolding losses
  one_left = omega (arith, losses-none hours p after)

  pub losses-taken : losses hours p l (d ++ (true ∷ [])) ≡ losses hours p l d + against hours p b
  losses-taken = rw (losses-split hours p l d (true ∷ []), next, one-taken)

  pub losses-left : losses hours p l (d ++ (false ∷ [])) ≡ losses hours p l d + gain hours p b
  losses-left = rw (losses-split hours p l d (false ∷ []), next, one_left)

-- THE BOUND of a branch: the loss of its decided blocks, with any lower bounds of what the rest loses and of the gaps
pub bound-with : (day : Day) (p : ℕ → ℕ) (d s : List Bool) (rest : ℕ) (g : ℕ → ℕ) →
    rest ≤ losses day.hours p (drop (length d) day.blocks) s →
    ((h : ℕ) → Counts day.hours h → g h ≤ slack (p h) (hour_of day (taken day.blocks (d ++ s)) h)) →
    losses day.hours p day.blocks d + rest + day_sum day.hours g ≤ loss_of day p (d ++ s)
unfolding loss_of gaps
bound-with day p d s rest g k gap =
    omega (
      arith,
      losses-split day.hours p day.blocks d s,
      day_sum-le day.hours g (λ h. slack (p h) (hour_of day (taken day.blocks (d ++ s)) h)) gap,
    )
