-- SMALL SETS: their shifts, each by two computed tests. Assumes nothing.
use mathlib.Core.Option.{none, some}
use mathlib.Core.Path.{◌≡◌, refl}
use lib.ListN.{replicate}
use native.Mathlib.Omega.{arith}
use Rattle.rules.specs.Shift.{middle_shift, shifted}
use Rattle.rules.specs.Day.{sum_to}
use Rattle.places.specs.Layout.{hour_places}
use Rattle.places.specs.Hours.{sum_of_hours}
use Rattle.places.specs.Blocks.{keeps_at}
use Rattle.shift.specs.Columns.{column_to, side_keeps, side_kept_at}
use Rattle.shift.specs.Cases.{open_rows, first_places, sell_and_buy, shift_alone, example_shift, example_price, prices_alone}
use Rattle.shift.proofs.ChosenLaws.{chosen-middle, chosen-lower, chosen-higher, chosen_none}

-- document 02's example
pub example-shift : shift_alone 3000 5000 3 ≡ some example_shift
unfolding shift_alone side_kept_at side_keeps keeps_at sum_of_hours sum_to column_to shifted open_rows first_places sell_and_buy
example-shift = chosen-lower _ _ _ _ _ _ example_shift (omega arith) refl refl

pub example-prices : prices_alone example_shift ≡ replicate hour_places example_price
unfolding prices_alone column_to shifted open_rows first_places
example-prices = refl

-- above the middle: a sell block at 295000 and a buy block at 296000
pub higher-shift : shift_alone 295000 296000 3 ≡ some 984
unfolding shift_alone side_kept_at side_keeps keeps_at sum_of_hours sum_to column_to shifted open_rows first_places sell_and_buy
higher-shift = chosen-higher _ _ _ _ _ _ 983 (omega arith) (omega arith) refl refl

-- nowhere: the sell block asks for more than the buy block gives
pub apart-shift : shift_alone 5000 3000 3 ≡ none
unfolding shift_alone side_kept_at side_keeps keeps_at sum_of_hours sum_to column_to shifted open_rows first_places sell_and_buy
apart-shift = chosen_none _ _ _ _ _ _ 16 refl refl

-- the empty set
pub empty-shift : shift_alone 3000 5000 0 ≡ some middle_shift
unfolding shift_alone side_kept_at side_keeps
empty-shift = chosen-middle _ _ _ _ _ _ refl
