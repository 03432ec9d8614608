-- A SET AT ITS TABLES: what its blocks trade by their rows, its decisions by its bits, prices by the price table; of a lawful set its places, which are in
-- range, and its gaps. Assumes nothing.
use Prim.Native.Nat.{ℕ, zero, suc, ◌+◌, ◌/◌, ◌%◌, ◌^◌, ◌≤◌, ◌<◌}
use mathlib.Core.Path.{◌≡◌, refl, sym, ◌∙◌}
use mathlib.Core.List.{List, [], ◌∷◌}
use mathlib.Core.Bool.{Bool, true, false, not}
use native.Mathlib.Omega.{arith}
use lib.Dec.{eqb}
use lib.ListN.{length, get_or}
use borrow.Author.Tests.{ne_eqb}
use Rattle.rules.specs.Orders.{buy, Block}
use Rattle.rules.specs.Hour.{by_side, when}
use Rattle.rules.proofs.CurveLaws.{when-zero}
use Rattle.orders.specs.Columns.{side_for}
use Rattle.rules.specs.Shift.{shifted}
use Rattle.rules.specs.Day.{Day, taken, over_blocks, sells, buys, hour_of, steps_in, lawful}
use Rattle.rules.specs.Contender.{Counts}
use Rattle.rules.proofs.TableLaws.{unit-net, unit-ordered, table_price}
use Rattle.rules.proofs.NeighbourLaws.{slack}
use Rattle.rules.proofs.SetBits.{bits_at}
use Rattle.rules.proofs.PlaceLaws.{place, prices_at, place_is, slack-at-place}
use Rattle.rules.proofs.QuietHours.{each-in-place}
use Rattle.places.specs.Hours.{cell, of_hour}
use Rattle.places.specs.Blocks.{side_at, row_quantity}
use Rattle.branches.specs.Meaning.{AnHour, Shown, Known, Branch, last_reached}
use Rattle.branches.specs.Tables.{Tables}
use Rattle.branches.specs.declared.Node.{Node}

-- an hour that counts is one of the 24
pub an-hour : {hours h : ℕ} → Counts hours h → AnHour h
an-hour c = record { first = c.first; last = c.last }

-- what a block sells and buys in an hour, by its row
sells-row : (side : ℕ) (t : Bool) (q : ℕ) → when t (by_side (side_for side) 0 q) ≡ when (not (eqb side 0)) (when t q)
sells-row zero t q = when-zero t
sells-row (suc side) t q = rw (ne_eqb (suc side) 0 (omega arith))

buys-row : (side : ℕ) (t : Bool) (q : ℕ) → when t (by_side (side_for side) q 0) ≡ when (eqb side 0) (when t q)
buys-row zero t q = refl
buys-row (suc side) t q = rw (ne_eqb (suc side) 0 (omega arith)) (when-zero t)

module _ {day : Day} {p : ℕ → ℕ} {blocks : List ℕ} {j : ℕ} (s : Shown day p blocks j) (h : ℕ) (c : AnHour h) where
  pub sells-at : sells h s.block ≡ when (not (eqb (side_at blocks j) 0)) (row_quantity blocks j h)
  sells-at = rw (s.side_is, s.row_is h c) (sells-row (side_at blocks j) (s.block.runs h) s.block.quantity)

  pub buys-at : buys h s.block ≡ when (eqb (side_at blocks j) 0) (row_quantity blocks j h)
  buys-at = rw (s.side_is, s.row_is h c) (buys-row (side_at blocks j) (s.block.runs h) s.block.quantity)

-- A SET'S BLOCKS
taken-le : (f : Block → ℕ) (l : List Block) (s : List Bool) → over_blocks f (taken l s) ≤ over_blocks f l
taken-le f [] s = omega arith
taken-le f (b ∷ l) [] = omega arith
taken-le f (b ∷ l) (true ∷ s) = omega (arith, taken-le f l s)
taken-le f (b ∷ l) (false ∷ s) = omega (arith, taken-le f l s)

-- no place is past what all blocks trade
pub place-within : (l : List Block) (s : List Bool) (h : ℕ) → length s ≡ length l → place l s h ≤ over_blocks (sells h) l + over_blocks (buys h) l
place-within l s h size = omega (arith, place_is l s h size, taken-le (sells h) l s)

-- no block: what stands past the last
pub no_block : Block
no_block = record { number = 0; portfolio = 0; side = buy; price = 0; quantity = 0; runs = λ h. false }

-- a decision of a branch is its set's bit
pub decided-bit : {day : Day} {p : ℕ → ℕ} {d : List Bool} {node : Node} → Branch day p d node → (a : ℕ) → a < length d →
    get_or d a false ≡ eqb (node.set / 2 ^ a % 2) 1
decided-bit {d = d} {node} branch a k = rw (← branch.set_is) (bits_at (length d) node.set a k)

-- THE DAY AT ITS TABLES
-- a price made of L and H is the one at shift t
abbrev pub MadeAt : (ℕ → ℕ → ℕ) → ℕ → Type 0
MadeAt price t = (l h : ℕ) → l ≤ h → price l h ≡ shifted t l h

-- the price at a place, by the price table
pub price-at-table : {day : Day} {p rest : ℕ → ℕ} {tables : Tables} → Known day p rest tables → (price : ℕ → ℕ → ℕ) (t : ℕ) → MadeAt price t →
    (places : List ℕ) (h : ℕ) → AnHour h → of_hour places h ≤ last_reached day h →
    price (cell tables.unit_prices h (of_hour places h + 1)) (cell tables.unit_prices h (of_hour places h)) ≡ prices_at day t (of_hour places) h
unfolding prices_at table_price
price-at-table {day} known price t made places h c fits =
    let i = of_hour places h in
    let off = over_blocks (buys h) day.blocks in
    let l = steps_in h day.steps in
    rw (known.unit_price_is h (i + 1) c (omega arith), unit-net l (i + 1) (suc off) i off (omega arith), known.unit_price_is h i c (omega arith))
    (made _ _ (unit-ordered l i off))

-- LAWFUL SETS at the tables
module _ {day : Day} {p rest : ℕ → ℕ} {tables : Tables} (known : Known day p rest tables) where
  -- a lawful set's places are in range
  pub lawful-place : (s : List Bool) → length s ≡ tables.count →
      lawful day s ≡ true → (h : ℕ) → AnHour h → (of_hour tables.first h ≤ place day.blocks s h) ×
      (place day.blocks s h ≤ of_hour tables.last h)
  lawful-place s size law h c =
      let n : length s ≡ length day.blocks = size ∙ sym known.counted in
      let i = place day.blocks s h in
      known.clears_only h i c (place-within day.blocks s h n) (each-in-place day known.quiet s known.prices known.hours law n h c.first c.last)

  -- and its gaps by the table
  pub gap-of-lawful : (s : List Bool) → length s ≡ tables.count →
      lawful day s ≡ true → (h : ℕ) → AnHour h →
      slack (p h) (hour_of day (taken day.blocks s) h) ≡ cell tables.gaps h (place day.blocks s h) + rest h
  gap-of-lawful s size law h c =
      let r = lawful-place s size law h c in
      slack-at-place day s (size ∙ sym known.counted) h (p h)
      ∙ known.gap_is h (place day.blocks s h) c r.0 r.1

  -- what the tables leave off is no more
  pub rest_below : (s : List Bool) → length s ≡ tables.count →
      lawful day s ≡ true → (h : ℕ) → AnHour h → rest h ≤ slack (p h) (hour_of day (taken day.blocks s) h)
  rest_below s size law h c = omega (arith, gap-of-lawful s size law h c)
