-- SMALL SETS, AS COLUMNS: document 02's example of a shift, and sets whose shift lies above the middle, at it, or nowhere. Definitions only.
use Rattle.std.specs.Prelude.{ℕ, zero, suc, ◌-◌, ◌*◌, List, [], ◌∷◌, ◌++◌, replicate}
use Rattle.std.proofs.Math.Option.{Option}
use Rattle.rules.specs.Orders.{max_price}
use Rattle.book.specs.Bounds.{most_blocks}
use Rattle.places.specs.Layout.{hour_places}
use Rattle.shift.specs.Columns.{shifted_column, chosen_shift}

-- The rows of so many hours without orders: at the first place H is the highest price, L the lowest.
unfoldable pub open_rows : ℕ → List ℕ
open_rows zero = []
open_rows (suc n) = max_price ∷ 1 ∷ open_rows n

-- The first place of each hour.
unfoldable pub first_places : List ℕ
first_places = replicate hour_places 0

-- Two numbers of the blocks, a column of them.
abbrev pub of_two : ℕ → ℕ → List ℕ
of_two first second = first ∷ second ∷ replicate (most_blocks - 2) 0

-- A sell block and a buy block in hours 1 and 2, at these prices: sides, hours, quantities and limits.
unfoldable pub sell_and_buy : (sellPrice buyPrice : ℕ) → List ℕ
sell_and_buy sellPrice buyPrice = of_two 1 0 ++ (of_two 3 3 ++ (of_two 1 1 ++ of_two (2 * sellPrice) (2 * buyPrice)))

-- The shift of a set of the two, alone in their day: 0 neither, 3 both.
unfoldable pub shift_alone : (sellPrice buyPrice set : ℕ) → Option ℕ
shift_alone sellPrice buyPrice set = chosen_shift (open_rows hour_places) (sell_and_buy sellPrice buyPrice) 2 set first_places 1

-- "A sell block at 3000 and a buy block at 5000 .. t is 16 and the price 4800".
abbrev pub example_shift : ℕ
example_shift = 16

abbrev pub example_price : ℕ
example_price = 4800

-- The prices of that day's hours at a shift.
unfoldable pub prices_alone : ℕ → List ℕ
prices_alone t = shifted_column (open_rows hour_places) first_places t
