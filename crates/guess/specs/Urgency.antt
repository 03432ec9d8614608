-- WHICH BLOCK IS LEFT OUT FIRST of those that miss their limits, by a rule. Definitions only. Assumes nothing.
use Rattle.std.specs.Prelude.{ℕ, ◌-◌, Bool, not, ◌&&◌, List, eqb}
use Rattle.rules.specs.Hour.{by_side, when}
use Rattle.rules.specs.Day.{sum_to}
use Rattle.orders.specs.Columns.{side_for}
use Rattle.places.specs.Layout.{hour_places}
use Rattle.places.specs.Hours.{sum_of_hours}
use Rattle.places.specs.Blocks.{side_at, hours_at, limit_at, gain_at, row_quantity}
use Rattle.guess.specs.declared.trial.Rule.{Rule}
use Rattle.guess.specs.declared.trial.Rule.TheVariants.{ByMiss, ByGain, BySmallness, BySize}

-- THE RULES
-- More than a block gains or trades: the largest number of 32 bits.
abbrev pub most_of_block : ℕ
most_of_block = 4294967295

-- How soon a block is left out by a rule: the block that misses its limit by most is left out first, the one that gains least, the smallest, the largest.
unfoldable pub urgency_by : (rule : Rule) (miss gain size : ℕ) → ℕ
urgency_by ByMiss miss gain size = miss
urgency_by ByGain miss gain size = most_of_block - gain
urgency_by BySmallness miss gain size = most_of_block - size
urgency_by BySize miss gain size = size

-- By how much a block misses its limit: a buy by what the prices of its hours come to above it, a sell by what they come to below it.
unfoldable pub missed_by : (side hours limit : ℕ) (prices : List ℕ) → ℕ
missed_by side hours limit prices = by_side (side_for side) (sum_of_hours prices hours - limit) (limit - sum_of_hours prices hours)

-- What block i trades in all its hours.
unfoldable pub block_size : (blocks : List ℕ) (i : ℕ) → ℕ
block_size blocks i = sum_to hour_places (row_quantity blocks i)

-- By how much block i misses its limit.
abbrev pub missed_at : (blocks : List ℕ) (i : ℕ) (prices : List ℕ) → ℕ
missed_at blocks i = missed_by (side_at blocks i) (hours_at blocks i) (limit_at blocks i)

-- How soon block i is left out of a set by a rule, 0 where it is not taken or keeps its limit.
unfoldable pub urgency_in : (rule : Rule) (blocks : List ℕ) (i : ℕ) (taken : Bool) (prices : List ℕ) → ℕ
urgency_in rule blocks i taken prices =
    when (taken && not (eqb (missed_at blocks i prices) 0)) (urgency_by rule (missed_at blocks i prices) (gain_at blocks i) (block_size blocks i))
