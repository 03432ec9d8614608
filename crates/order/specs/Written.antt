-- WHAT PRIVATE FUNCTIONS TEST AND WRITE: whether a list is an order, and the columns and rows of the blocks in an order, one after another. No reader of a
-- result needs them. Definitions only. Assumes nothing.
use Rattle.std.specs.Prelude.{ℕ, ◌+◌, ◌-◌, ◌*◌, ◌%◌, ◌≤◌, ◌<◌, Bool, ◌&&◌, List, ◌≡◌, ltb, leb, eqb, length, get_or}
use Rattle.std.specs.List.{list_all, range_with_len}
use Rattle.rules.specs.Hour.{when}
use Rattle.rules.proofs.Ranks.{rank_of}
use Rattle.book.specs.Bounds.{most_blocks}
use Rattle.places.specs.Layout.{hour_places, parent_column, rows_column, block_list_size}
use Rattle.places.specs.Blocks.{parent_at, ahead_at, behind_at, rank_at, row_quantity}
use Rattle.order.specs.Order.{placed_name}

-- WHETHER IT IS AN ORDER
-- Whether the block at place j and the place of block j are numbers below count that lead back to j, and the block's parent stands before place j.
unfoldable pub stands_at : (blocks : List ℕ) (count : ℕ) (order place : List ℕ) (j : ℕ) → Bool
stands_at blocks count order place j =
    (ltb (get_or order j 0) count && ltb (get_or place j 0) count)
    && ((eqb (get_or place (get_or order j 0) 0) j && eqb (get_or order (get_or place j 0) 0) j)
    && leb (placed_name place (parent_at blocks (get_or order j 0))) j)

-- The same of each of the first n.
unfoldable pub all_stand : (blocks : List ℕ) (count : ℕ) (order place : List ℕ) (n : ℕ) → Bool
all_stand blocks count order place n = list_all (stands_at blocks count order place) (range_with_len 0 n)

-- Each number of a list is its own place.
abbrev pub EachItself : List ℕ → Type 0
EachItself l = (i : ℕ) → i < most_blocks → get_or l i 0 ≡ i

-- THE COLUMNS IN AN ORDER
-- The name of a twin by its place, where it stands before place j; else 0.
unfoldable pub earlier_name : (place : List ℕ) (count j name : ℕ) → ℕ
earlier_name place count j name = when (leb name count && leb (placed_name place name) j) (placed_name place name)

-- Number k of the six columns in front of the parents': that of the block at place k % most_blocks, in the column that begins so far before k.
abbrev pub column_number : (order blocks : List ℕ) (k : ℕ) → ℕ
column_number order blocks k = get_or blocks (k - k % most_blocks + get_or order (k % most_blocks) 0) 0

-- The six columns of the first count places, and nothing else yet.
pub record ColumnsIn (count : ℕ) (order blocks r : List ℕ) : Type 0 where
  pub size : length r ≡ block_list_size
  pub columns : (k : ℕ) → k < parent_column → k % most_blocks < count → get_or r k 0 ≡ column_number order blocks k
  pub empty : (k : ℕ) → k < parent_column → count ≤ k % most_blocks → get_or r k 0 ≡ 0
  pub none : (k : ℕ) → parent_column ≤ k → get_or r k 0 ≡ 0

-- The parents, twins and ranks of the first count places stand, and no others; all else is as it was.
pub record LinksIn (count : ℕ) (order place blocks before r : List ℕ) : Type 0 where
  pub size : length r ≡ block_list_size
  pub columns : (k : ℕ) → k < parent_column → get_or r k 0 ≡ get_or before k 0
  pub rows : (k : ℕ) → rows_column ≤ k → get_or r k 0 ≡ get_or before k 0
  pub parent_is : (j : ℕ) → j < count → parent_at r j ≡ placed_name place (parent_at blocks (get_or order j 0))
  pub ahead_is : (j : ℕ) → j < count → ahead_at r j ≡ earlier_name place count j (ahead_at blocks (get_or order j 0))
  pub behind_is : (j : ℕ) → j < count → behind_at r j ≡ earlier_name place count j (behind_at blocks (get_or order j 0))
  pub rank_is : (j : ℕ) → j < count → rank_at r j ≡ rank_of (get_or order j 0)
  pub none : (j : ℕ) → count ≤ j → j < most_blocks → (parent_at r j ≡ 0) × (ahead_at r j ≡ 0) × (behind_at r j ≡ 0) × (rank_at r j ≡ 0)

-- The rows of the first count places stand; all else is as it was.
pub record RowsIn (count : ℕ) (order blocks before r : List ℕ) : Type 0 where
  pub size : length r ≡ block_list_size
  pub same : (k : ℕ) → k < rows_column → get_or r k 0 ≡ get_or before k 0
  pub row_is : (j h : ℕ) → j < count → 1 ≤ h → h ≤ hour_places → row_quantity r j h ≡ row_quantity blocks (get_or order j 0) h
  pub rest : (k : ℕ) → rows_column + hour_places * count ≤ k → get_or r k 0 ≡ get_or before k 0
