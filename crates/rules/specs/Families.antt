-- FAMILIES (document 02, P6): a block and everything below it; their gains, and the family report. Definitions only. Assumes nothing.
use Rattle.std.specs.Prelude.{ℕ, zero, suc, ◌+◌, ◌-◌, ◌*◌, Bool, cond, not, ◌&&◌, ◌||◌, List, [], ◌∷◌, eqb, length}
use Rattle.rules.specs.Orders.{Block, Link, Orders}
use Rattle.rules.specs.Hour.{when}
use Rattle.rules.specs.Day.{Day, day_of, keep, taken, over_blocks, set_prices, hour_count, price_sum}
use Rattle.rules.specs.Outcome.{outcome}

-- The number of a block's parent; 0 where no link has the block as its child.
unfoldable pub parent_of : List Link → ℕ → ℕ
parent_of [] number = 0
parent_of (link ∷ l) number = cond (eqb link.child number) link.parent (parent_of l number)

-- A block is block root, or below it by at most so many links.
unfoldable pub is_below : ℕ → List Link → ℕ → ℕ → Bool
is_below zero links root number = eqb number root
is_below (suc n) links root number =
    eqb number root || (not (eqb (parent_of links number) 0) && is_below n links root (parent_of links number))

-- A block is of the family of block root: it is root, or below it.
unfoldable pub is_of_family : List Link → ℕ → ℕ → Bool
is_of_family links root number = is_below (length links) links root number

-- How far two numbers are apart.
abbrev pub distance : ℕ → ℕ → ℕ
distance a b = (a - b) + (b - a)

-- A block's gain: its quantity times the distance between the sum of prices over its hours and its price times its hour count.
unfoldable pub block_gain : ℕ → (ℕ → ℕ) → Block → ℕ
block_gain hours price b = b.quantity * distance (price_sum hours price b) (b.price * hour_count hours b)

-- The gain of the family of block root under a set: that of the family's taken blocks.
unfoldable pub family_gain : Day → List Bool → ℕ → ℕ
family_gain day set root =
    let blocks = taken day.blocks set in
    over_blocks (λ b. when (is_of_family day.links root b.number) (block_gain day.hours (set_prices day blocks) b)) blocks

-- A line of the family report: a block without a parent, and its family's gain.
pub record Family : Type 0 where
  pub root : ℕ
  pub gain : ℕ

-- The lines of blocks, in their order: one for each without a parent.
unfoldable pub families_of : Day → List Bool → List Block → List Family
families_of day set [] = []
families_of day set (b ∷ l) =
    keep (eqb (parent_of day.links b.number) 0) (record { root = b.number; gain = family_gain day set b.number }) (families_of day set l)

-- The gains of families together.
unfoldable pub total_gain : List Family → ℕ
total_gain [] = 0
total_gain (family ∷ l) = family.gain + total_gain l

-- The family report of a book's orders: over all blocks, in rising order number, under the published set.
unfoldable pub family_report : Orders → List Family
family_report orders = families_of (day_of orders) (outcome (day_of orders)) (day_of orders).blocks
