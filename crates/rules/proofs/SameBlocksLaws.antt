-- THE SAME BLOCKS IN ANOTHER ORDER: what the rules say of a set of blocks is made of sums and tests over its blocks, so it does not hang on the order in
-- which they are listed, nor on that in which the day lists its own. Two lists have the same blocks where every sum over them is the same. Assumes nothing.
use Prim.Native.Nat.{ℕ, ◌+◌}
use mathlib.Core.Bool.{Bool, false, not, ◌&&◌, ◌||◌}
use mathlib.Core.Path.{◌≡◌, refl, ap, ◌∙◌, fun_ext}
use mathlib.Core.List.{List, [], ◌∷◌}
use native.Mathlib.Omega.{arith}
use native.Mathlib.Nat.{zero-add}
use lib.Dec.{eqb}
use borrow.Author.Tests.{ne_eqb}
use Rattle.rules.specs.Orders.{Block, Link}
use Rattle.rules.specs.Hour.{when}
use Rattle.rules.specs.Execution.{execution}
use Rattle.rules.specs.Day.{
  Day,
  taken,
  over_blocks,
  sells,
  buys,
  hour_of,
  hour_clears,
  is_among,
  keeps_link,
  keeps_limit,
  every_block,
  prices_at_shift,
  keeps_all,
  set_shift,
  set_prices,
  keeps_limits,
  allowed,
  lawful,
  blocks_value,
  blocks_cost,
  day_value,
  day_cost,
  in_step_order,
  executed,
  welfare,
  traded,
}
use Rattle.rules.proofs.Tests.{by-test}

-- every sum over two lists of blocks is the same: they are the same blocks, in whatever order
abbrev pub SameBlocks : List Block → List Block → Type 0
SameBlocks l m = (f : Block → ℕ) → over_blocks f l ≡ over_blocks f m

-- a day with other blocks, all else the same
abbrev pub with_blocks : List Block → Day → Day
with_blocks blocks day = record { edition = day.edition; hours = day.hours; steps = day.steps; blocks = blocks; links = day.links }

-- TESTS BY SUMS
-- one more than a number is not 0
not_none : (n : ℕ) → eqb (1 + n) 0 ≡ false
not_none n = ne_eqb (1 + n) 0 (λ e. omega arith)

-- every block passes a test where none is counted that fails it
every-by-sum : (t : Block → Bool) (l : List Block) → every_block t l ≡ eqb (over_blocks (λ b. when (not (t b)) 1) l) 0
every-by-sum t [] = refl
every-by-sum t (b ∷ l) =
    by-test (λ x. (x && every_block t l) ≡ eqb (when (not x) 1 + over_blocks (λ b. when (not (t b)) 1) l) 0) (t b)
    (λ _. rw zero-add (every-by-sum t l)) (λ _. rw not_none)

-- a number is among the blocks where one is counted that has it
among-by-sum : (l : List Block) (number : ℕ) → is_among l number ≡ not (eqb (over_blocks (λ b. when (eqb b.number number) 1) l) 0)
among-by-sum [] number = refl
among-by-sum (b ∷ l) number =
    by-test (λ x. (x || is_among l number) ≡ not (eqb (when x 1 + over_blocks (λ b. when (eqb b.number number) 1) l) 0)) (eqb b.number number)
    (λ _. rw not_none) (λ _. rw zero-add (among-by-sum l number))

-- TWO LISTS OF THE SAME BLOCKS, as sets of two days that differ in nothing but their blocks
module _ (l m : List Block) (same : SameBlocks l m) where
  pub every-same : (t : Block → Bool) → every_block t l ≡ every_block t m
  every-same t = rw (every-by-sum t l, every-by-sum t m, same (λ b. when (not (t b)) 1))

  pub among_same : (number : ℕ) → is_among l number ≡ is_among m number
  among_same number = rw (among-by-sum l number, among-by-sum m number, same (λ b. when (eqb b.number number) 1))

  pub link-same : (link : Link) → keeps_link l link ≡ keeps_link m link
  unfolding keeps_link
  link-same link = rw (among_same link.child, among_same link.parent)

  module _ (day : Day) (blocks : List Block) where
    abbrev D : Day
    D = with_blocks blocks day

    -- their hours
    pub hour-same : (h : ℕ) → hour_of (with_blocks blocks day) l h ≡ hour_of day m h
    hour-same h = rw (same (sells h), same (buys h))

    pub clears-same : (h : ℕ) → hour_clears (with_blocks blocks day) l h ≡ hour_clears day m h
    unfolding hour_clears
    clears-same h = rw (hour-same h)

    -- their prices
    pub shift-prices-same : (t h : ℕ) → prices_at_shift (with_blocks blocks day) l t h ≡ prices_at_shift day m t h
    unfolding prices_at_shift
    shift-prices-same t h = rw (hour-same h)

    pub keeps-all-same : (t : ℕ) → keeps_all (with_blocks blocks day) l t ≡ keeps_all day m t
    unfolding keeps_all
    keeps-all-same t =
        every-same (keeps_limit day.hours (prices_at_shift D l t))
        ∙ ap (λ price. every_block (keeps_limit day.hours price) m) (fun_ext (shift-prices-same t))

    pub set-shift-same : set_shift (with_blocks blocks day) l ≡ set_shift day m
    unfolding set_shift
    set-shift-same = rw (fun_ext keeps-all-same)

    pub set-prices-same : (h : ℕ) → set_prices (with_blocks blocks day) l h ≡ set_prices day m h
    unfolding set_prices
    set-prices-same h = rw (set-shift-same, shift-prices-same (set_shift day m) h, hour-same h)

    pub limits-same : keeps_limits (with_blocks blocks day) l ≡ keeps_limits day m
    unfolding keeps_limits
    limits-same =
        every-same (keeps_limit day.hours (set_prices D l)) ∙ ap (λ price. every_block (keeps_limit day.hours price) m) (fun_ext set-prices-same)

    -- what they trade
    execution-same : (h : ℕ) → execution (hour_of D l h) (set_prices D l h) ≡ execution (hour_of day m h) (set_prices day m h)
    execution-same h = rw (hour-same h, set-prices-same h)

    pub executed-same : executed (with_blocks blocks day) l ≡ executed day m
    unfolding executed
    executed-same = ap (λ quantities. in_step_order quantities day.steps) (fun_ext execution-same)

    pub traded-same : (h : ℕ) → traded (with_blocks blocks day) l h ≡ traded day m h
    unfolding traded
    traded-same h = rw (execution-same h, same (buys h))

    -- what they are worth and cost
    value_same : blocks_value day.hours l ≡ blocks_value day.hours m
    unfolding blocks_value
    value_same = same _

    cost-same : blocks_cost day.hours l ≡ blocks_cost day.hours m
    unfolding blocks_cost
    cost-same = same _

    pub day-value-same : (quantities : List ℕ) → day_value (with_blocks blocks day) l quantities ≡ day_value day m quantities
    unfolding day_value
    day-value-same quantities = rw value_same

    pub day-cost-same : (quantities : List ℕ) → day_cost (with_blocks blocks day) l quantities ≡ day_cost day m quantities
    unfolding day_cost
    day-cost-same quantities = rw cost-same

-- SETS OF DECISIONS that take the same blocks
module _ (day : Day) (blocks : List Block) (set other : List Bool) (same : SameBlocks (taken blocks set) (taken day.blocks other)) where
  pub allowed_same : allowed (with_blocks blocks day) set ≡ allowed day other
  unfolding allowed
  allowed_same = rw (fun_ext (link-same (taken blocks set) (taken day.blocks other) same))

  pub lawful-same : lawful (with_blocks blocks day) set ≡ lawful day other
  unfolding lawful
  lawful-same =
      rw (
        allowed_same,
        fun_ext (clears-same (taken blocks set) (taken day.blocks other) same day blocks),
        limits-same (taken blocks set) (taken day.blocks other) same day blocks,
      )

  pub welfare-same : welfare (with_blocks blocks day) set ≡ welfare day other
  unfolding welfare
  welfare-same =
      rw (
        executed-same (taken blocks set) (taken day.blocks other) same day blocks,
        day-value-same (taken blocks set) (taken day.blocks other) same day blocks,
        day-cost-same (taken blocks set) (taken day.blocks other) same day blocks,
      )
