-- THE OUTCOME PROPERTIES of the HUPX block order rules (source document 003, article 1.6; demand 2), of a set of blocks with hourly prices, traded
-- quantities and a quantity for each step. Definitions only. Assumes nothing.
use Rattle.std.specs.Prelude.{ℕ, ◌+◌, ◌*◌, ◌≤◌, ◌<◌, Bool, true, List, [], ◌∷◌, ◌≡◌}
use Rattle.rules.specs.Orders.{buy, sell, Block}
use Rattle.rules.specs.Hour.{pricing, is_cleared}
use Rattle.rules.specs.Execution.{bought}
use Rattle.rules.specs.Day.{Day, steps_in, taken, over_blocks, buys, hour_of, hour_count, price_sum, set_prices}
use Rattle.rules.specs.Contender.{Each, quantities_in, Balanced, Counts}

-- A statement of each block of a list.
abbrev pub EachBlock : (Block → Type 0) → List Block → Type 0
EachBlock P [] = Unit {0}
EachBlock P (b ∷ l) = P b × EachBlock P l

-- The properties, in 003's order and words; "shall be executed" is in full, "shall not be executed" is a quantity of 0.
pub record OutcomeRules (day : Day) (set : List Bool) (price traded : ℕ → ℕ) (quantities : List ℕ) : Type 0 where
  -- every hour clears, and its price is the set's: the middle of L and H under the set (document 01's choice), in edition 4 that at the set's shift
  pub clears_all : (h : ℕ) → Counts day.hours h → is_cleared (pricing (hour_of day (taken day.blocks set) h)) ≡ true
  pub set_price : (h : ℕ) → Counts day.hours h → price h ≡ set_prices day (taken day.blocks set) h
  -- steps that sell shall not be executed above the price, steps that buy not below it
  pub sells_above : Each (λ s q. s.side ≡ sell → price s.hour < s.price → q ≡ 0) day.steps quantities
  pub buys_below : Each (λ s q. s.side ≡ buy → s.price < price s.hour → q ≡ 0) day.steps quantities
  -- steps that sell shall be executed strictly below the price, steps that buy strictly above it
  pub sells_below : Each (λ s q. s.side ≡ sell → s.price < price s.hour → q ≡ s.quantity) day.steps quantities
  pub buys_above : Each (λ s q. s.side ≡ buy → price s.hour < s.price → q ≡ s.quantity) day.steps quantities
  -- at the price a step may be executed, in part or not: any quantity up to its own
  pub at_price : Each (λ s q. s.price ≡ price s.hour → q ≤ s.quantity) day.steps quantities
  -- a block sell shall not be executed where its price is higher than the average over its hours: price times hour count against the sum
  pub block_sells : EachBlock (λ b. b.side ≡ sell → b.price * hour_count day.hours b ≤ price_sum day.hours price b) (taken day.blocks set)
  -- a block buy not where its price is lower
  pub block_buys : EachBlock (λ b. b.side ≡ buy → price_sum day.hours price b ≤ b.price * hour_count day.hours b) (taken day.blocks set)
  -- no step is executed for more than its own quantity
  pub not_more : Each (λ s q. q ≤ s.quantity) day.steps quantities
  -- every hour is in balance, blocks counted for their full quantity
  pub balanced : (h : ℕ) → Counts day.hours h →
      Balanced (hour_of day (taken day.blocks set) h) (quantities_in h day.steps quantities)
  -- the traded quantity: executed buy steps and taken buy blocks
  pub traded_buys : (h : ℕ) → Counts day.hours h →
      traded h ≡ bought (steps_in h day.steps) (quantities_in h day.steps quantities) + over_blocks (buys h) (taken day.blocks set)
