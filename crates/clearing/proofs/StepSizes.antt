-- The columns of a book's steps have the size of their arrays. Assumes nothing.
use Prim.Native.Nat.{ℕ, ◌-◌, ◌≤◌}
use mathlib.Core.Path.{◌≡◌}
use mathlib.Core.List.{List, map}
use native.Mathlib.Omega.{arith}
use lib.ListN.{length, replicate, length-append, length-map, length-replicate}
use Rattle.orders.specs.Columns.{StepColumns, padded, by_hour, step_side_at, step_price_at, step_quantity_at}
use Rattle.orders.proofs.HourLaws.{ends-fit}

padded-size : (l : List ℕ) → length l ≤ 2048 → length (padded 2048 l) ≡ 2048
unfolding padded
padded-size l few = omega (arith, length-append l (replicate (2048 - length l) 0), length-replicate {A = ℕ} (2048 - length l) 0)

module _ (b ends records sides prices quantities : List ℕ) (columns : StepColumns b ends records sides prices quantities) where
  few : length (by_hour b 24) ≤ 2048
  few = omega (arith, columns.ends_at 24 (omega arith), ends-fit b ends records sides prices quantities columns 24 (omega arith))

  pub records-size : length records ≡ 2048
  records-size = rw columns.records_are (padded-size (by_hour b 24) few)

  pub sides-size : length sides ≡ 2048
  sides-size = rw columns.sides_are (padded-size (map (step_side_at b) (by_hour b 24)) (omega (arith, few, length-map (by_hour b 24) (step_side_at b))))

  pub prices-size : length prices ≡ 2048
  prices-size = rw columns.prices_are (padded-size (map (step_price_at b) (by_hour b 24)) (omega (arith, few, length-map (by_hour b 24) (step_price_at b))))

  pub quantities-size : length quantities ≡ 2048
  quantities-size =
      rw columns.quantities_are (padded-size (map (step_quantity_at b) (by_hour b 24)) (omega (arith, few, length-map (by_hour b 24) (step_quantity_at b))))
