-- AN ORDER OF THE BLOCKS in which the search decides them, and the blocks' columns in that order. A list `order` has at each place the number of the block
-- there, a list `place` has of each block its place. Any order is right; nothing here says which is chosen. Definitions only. Assumes nothing.
use Rattle.std.specs.Prelude.{ℕ, suc, ◌-◌, ◌/◌, ◌%◌, ◌^◌, ◌≤◌, ◌<◌, cond, List, ◌≡◌, eqb, get_or}
use Rattle.rules.proofs.Ranks.{rank_of}
use Rattle.places.specs.Layout.{hour_places}
use Rattle.places.specs.Blocks.{side_at, hours_at, quantity_at, limit_at, against_at, gain_at, parent_at, ahead_at, behind_at, rank_at, row_quantity}

-- Each of the first n numbers of a list is below a bound.
abbrev pub EachBelow : (n bound : ℕ) (l : List ℕ) → Type 0
EachBelow n bound l = (i : ℕ) → i < n → get_or l i 0 < bound

-- Every number of a list is one of 32 bits.
abbrev pub Words : List ℕ → Type 0
Words l = (i : ℕ) → get_or l i 0 < 2 ^ 32

-- A block's name, its number and 1 or 0 for none, as a name by its place: its place and 1, or 0.
unfoldable pub placed_name : (place : List ℕ) (name : ℕ) → ℕ
placed_name place name = cond (eqb name 0) 0 (suc (get_or place (name - 1) 0))

-- An order of the first count blocks, and the place of each in it; a parent stands before its child.
pub record IsOrderOf (blocks : List ℕ) (count : ℕ) (order place : List ℕ) : Type 0 where
  pub order_in : EachBelow count count order
  pub place_in : EachBelow count count place
  pub there : (j : ℕ) → j < count → get_or place (get_or order j 0) 0 ≡ j
  pub back : (i : ℕ) → i < count → get_or order (get_or place i 0) 0 ≡ i
  pub parents_before : (j : ℕ) → j < count → placed_name place (parent_at blocks (get_or order j 0)) ≤ j

-- The columns and rows in an order: at place j stands what the block there has, its parent by its place; a twin by its place, if any is named, and then it
-- stands before place j; its rank goes by number.
pub record Reordered (count : ℕ) (order place blocks other : List ℕ) : Type 0 where
  pub side_is : (j : ℕ) → j < count → side_at other j ≡ side_at blocks (get_or order j 0)
  pub hours_is : (j : ℕ) → j < count → hours_at other j ≡ hours_at blocks (get_or order j 0)
  pub quantity_is : (j : ℕ) → j < count → quantity_at other j ≡ quantity_at blocks (get_or order j 0)
  pub limit_is : (j : ℕ) → j < count → limit_at other j ≡ limit_at blocks (get_or order j 0)
  pub against_is : (j : ℕ) → j < count → against_at other j ≡ against_at blocks (get_or order j 0)
  pub gain_is : (j : ℕ) → j < count → gain_at other j ≡ gain_at blocks (get_or order j 0)
  pub row_is : (j h : ℕ) → j < count → 1 ≤ h → h ≤ hour_places → row_quantity other j h ≡ row_quantity blocks (get_or order j 0) h
  pub parent_is : (j : ℕ) → j < count → parent_at other j ≡ placed_name place (parent_at blocks (get_or order j 0))
  pub ahead_is : (j a : ℕ) → j < count → ahead_at other j ≡ suc a → (a < j) × (ahead_at blocks (get_or order j 0) ≡ suc (get_or order a 0))
  pub behind_is : (j a : ℕ) → j < count → behind_at other j ≡ suc a → (a < j) × (behind_at blocks (get_or order j 0) ≡ suc (get_or order a 0))
  pub rank_is : (j : ℕ) → j < count → rank_at other j ≡ rank_of (get_or order j 0)

-- A set of places as the set of the blocks there by their numbers, both as bits: bit i is that of block i's place.
pub record ByNumber (count : ℕ) (place : List ℕ) (set numbered : ℕ) : Type 0 where
  pub fits : numbered < 2 ^ count
  pub bits : (i : ℕ) → i < count → numbered / 2 ^ i % 2 ≡ set / 2 ^ get_or place i 0 % 2
