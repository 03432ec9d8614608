-- THE COLUMNS IN FRONT: what the layers above read, the orders' numbers without the zeros behind them. Assumes nothing.
use Prim.Native.Nat.{ℕ}
use mathlib.Core.Path.{◌≡◌, refl, sym, ◌∙◌}
use mathlib.Core.List.{List, map}
use lib.ListN.{length, take, length-map}
use Rattle.orders.specs.Columns.{by_hour, block_records, padded, StepColumns, BlockColumns}
use Rattle.orders.specs.Columns.{step_side_at, step_price_at, step_quantity_at, block_side_at, block_hours_at, block_price_at, block_quantity_at}
use Rattle.orders.proofs.ColumnLaws.{padded-front, padded-whole}

-- the numbers f of the records l in front of their column
front_of : (room n : ℕ) (f : ℕ → ℕ) (l column : List ℕ) → n ≡ length l → column ≡ padded room (map f l) → take n column ≡ map f l
front_of room n f l column e = padded-front room n (map f l) column (length-map l f ∙ sym e)

-- .. and alone
alone : (room n : ℕ) (f : ℕ → ℕ) (l column : List ℕ) → n ≡ length l → column ≡ padded room (map f l) → take n column ≡ padded n (map f l)
alone room n f l column e given = front_of room n f l column e given ∙ padded-whole n (map f l) (length-map l f ∙ sym e)

-- A book's steps ..
module _ {b ends records sides prices quantities : List ℕ} (c : StepColumns b ends records sides prices quantities) where
  pub step-records-front : take (length (by_hour b 24)) records ≡ by_hour b 24
  step-records-front = padded-front 2048 _ (by_hour b 24) records refl c.records_are

  pub step-sides-front : take (length (by_hour b 24)) sides ≡ map (step_side_at b) (by_hour b 24)
  step-sides-front = front_of 2048 _ (step_side_at b) (by_hour b 24) sides refl c.sides_are

  pub step-prices-front : take (length (by_hour b 24)) prices ≡ map (step_price_at b) (by_hour b 24)
  step-prices-front = front_of 2048 _ (step_price_at b) (by_hour b 24) prices refl c.prices_are

  pub step-quantities-front : take (length (by_hour b 24)) quantities ≡ map (step_quantity_at b) (by_hour b 24)
  step-quantities-front = front_of 2048 _ (step_quantity_at b) (by_hour b 24) quantities refl c.quantities_are

-- .. and its blocks, in arrays of any size
module _ {n : ℕ} {b : List ℕ} {count : ℕ} {records sides hours prices quantities : List ℕ}
    (c : BlockColumns n b count records sides hours prices quantities) where
  pub block-records-front : take count records ≡ block_records b
  block-records-front = padded-front n count (block_records b) records (sym c.counted) c.records_are

  pub block-sides-front : take count sides ≡ map (block_side_at b) (block_records b)
  block-sides-front = front_of n count (block_side_at b) (block_records b) sides c.counted c.sides_are

  pub block-hours-front : take count hours ≡ map (block_hours_at b) (block_records b)
  block-hours-front = front_of n count (block_hours_at b) (block_records b) hours c.counted c.hours_are

  pub block-prices-front : take count prices ≡ map (block_price_at b) (block_records b)
  block-prices-front = front_of n count (block_price_at b) (block_records b) prices c.counted c.prices_are

  pub block-quantities-front : take count quantities ≡ map (block_quantity_at b) (block_records b)
  block-quantities-front = front_of n count (block_quantity_at b) (block_records b) quantities c.counted c.quantities_are

  -- The fronts alone are the columns in arrays of as many numbers as there are blocks
  pub blocks-in-front : BlockColumns count b count (take count records) (take count sides) (take count hours) (take count prices) (take count quantities)
  blocks-in-front =
      record {
        counted = c.counted;
        few = c.few;
        records_are = block-records-front ∙ padded-whole count (block_records b) (sym c.counted);
        sides_are = alone n count (block_side_at b) (block_records b) sides c.counted c.sides_are;
        hours_are = alone n count (block_hours_at b) (block_records b) hours c.counted c.hours_are;
        prices_are = alone n count (block_price_at b) (block_records b) prices c.counted c.prices_are;
        quantities_are = alone n count (block_quantity_at b) (block_records b) quantities c.counted c.quantities_are;
      }
