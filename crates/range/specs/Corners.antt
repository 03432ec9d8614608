-- THE COLUMNS OF THE TWO CORNERS, in which the private functions of src/ promise their results. Definitions only. Assumes nothing.
use Rattle.std.specs.Prelude.{ℕ, ◌≤◌, List, map, false, cond, ◌≡◌, eqb, length, take}
use Rattle.fields.specs.Tests.{some_below}
use Rattle.orders.specs.Columns.{side_for, steps_from}
use Rattle.rules.specs.Hour.{by_side, pricing, answered_price}
use Rattle.rules.specs.Contender.{PricesInRange}
use Rattle.range.specs.Range.{entry_at, below, out_of_range}
use Rattle.range.specs.declared.Entry.{Entry}

-- An entry's numbers in the columns: its side, 0 buy, 1 sell ..
abbrev pub side_number : Entry → ℕ
side_number e = cond (eqb e.side 0) 0 1

-- .. and its quantity at the corner of the least price, and at that of the greatest
abbrev pub least_quantity : Entry → ℕ
least_quantity e = by_side (side_for e.side) e.low e.high

abbrev pub greatest_quantity : Entry → ℕ
greatest_quantity e = by_side (side_for e.side) e.high e.low

-- The numbers f of the first n entries stand in front of a column.
abbrev pub InFront : (Entry → ℕ) → List ℕ → ℕ → List ℕ → Type 0
InFront f b n column = take n column ≡ map (λ i. f (entry_at b i)) (below n)

-- No field of the first n entries is out of range; their sides, prices, and quantities at the two corners.
pub record Decoded (b : List ℕ) (n : ℕ) (sides prices least greatest : List ℕ) : Type 0 where
  pub in_range : some_below n (out_of_range b) ≡ false
  pub sides_are : InFront side_number b n sides
  pub prices_are : InFront (λ e. e.price) b n prices
  pub least_are : InFront least_quantity b n least
  pub greatest_are : InFront greatest_quantity b n greatest

-- The middle price of the hour of three columns without blocks, where its prices are in range.
abbrev pub PriceOf : List ℕ → List ℕ → List ℕ → ℕ → Type 0
PriceOf sides prices quantities r =
    let steps = steps_from 1 sides prices quantities in
    PricesInRange steps → r ≡ answered_price (pricing (record { steps = steps; block_sales = 0; block_buys = 0 }))
