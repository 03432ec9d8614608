-- SETS OF BLOCKS, a test for each block: the blocks that gain, a set less a block, and a set less the blocks whose parents it does not hold. Definitions
-- only. Assumes nothing.
use Rattle.std.specs.Prelude.{ℕ, zero, suc, ◌-◌, Bool, false, cond, not, ◌&&◌, List, ltb, get_or, replicate, set}
use Rattle.book.specs.Bounds.{most_blocks}
use Rattle.places.specs.Blocks.{gain_at, parent_at}

-- Whether a set holds block i.
abbrev pub holds_block : List Bool → ℕ → Bool
holds_block taken i = get_or taken i false

-- Of the first n blocks those that gain at the root prices.
unfoldable pub gainers : List ℕ → ℕ → List Bool
gainers blocks zero = replicate most_blocks false
gainers blocks (suc i) = set (gainers blocks i) i (ltb 0 (gain_at blocks i))

-- A set less block i.
abbrev pub less_block : List Bool → ℕ → List Bool
less_block taken i = set taken i false

-- Whether block i has a parent that a set does not hold.
abbrev pub lacks_parent : List ℕ → List Bool → ℕ → Bool
lacks_parent blocks taken i = ltb 0 (parent_at blocks i) && not (holds_block taken (parent_at blocks i - 1))

-- A set less block i where the block lacks its parent; else the set itself.
abbrev pub only_with_parent : List ℕ → List Bool → ℕ → List Bool
only_with_parent blocks taken i = cond (lacks_parent blocks taken i) (less_block taken i) taken

-- A set less those of the first n blocks that lack their parents: one after another, a parent before its children.
unfoldable pub all_with_parents : List ℕ → List Bool → ℕ → List Bool
all_with_parents blocks taken zero = taken
all_with_parents blocks taken (suc i) = only_with_parent blocks (all_with_parents blocks taken i) i
