-- The rules at their edges, computed from the definitions alone: where one more or one less would be another rule. Assumes nothing.
use Prim.Native.Nat.{ℕ}
use mathlib.Core.Bool.{true, false, ◌||◌}
use mathlib.Core.Path.{◌≡◌, refl}
use mathlib.Core.List.{[], ◌∷◌}
use mathlib.Core.Option.{some}
use lib.Dec.{eqb}
use lib.ListN.{get_or}
use Rattle.rules.specs.Orders.{Side, buy, sell, Block, limits}
use Rattle.rules.specs.Hour.{Hour, buys_above, buys_from, sells_to, sells_below, clears, middle, cleared, pricing}
use Rattle.rules.specs.Shift.{shifted, nearest_shift}
use Rattle.rules.specs.Execution.{floors, remainders, at_least, extras, in_proportion, shares, fill_in_turn}
use Rattle.rules.specs.Day.{Day, weight, sum_to, day_sum, hour_of, hour_count, price_sum, keeps_limit, gives_way, prices_at_shift}
use Rattle.rules.specs.Outcome.{all_sets}

-- an hour of the base book: buy 100 at 5000, sell 100 at 3000, no blocks
base_hour : Hour
base_hour =
    record {
      steps = record { hour = 1; side = buy; price = 5000; quantity = 100 } ∷ record { hour = 1; side = sell; price = 3000; quantity = 100 } ∷ [];
      block_sales = 0;
      block_buys = 0;
    }

-- at 3000 the buys above equal the sells to it, at 5000 the buys from it equal the sells below: both clear, and one cent further none does
low_end : (clears base_hour 3000 ≡ true) × (clears base_hour 2999 ≡ false)
unfolding base_hour clears buys_above buys_from sells_to sells_below
low_end = (refl, refl)

high_end : (clears base_hour 5000 ≡ true) × (clears base_hour 5001 ≡ false)
unfolding base_hour clears buys_above buys_from sells_to sells_below
high_end = (refl, refl)

-- the price between 3000 and 4001 is rounded down
rounded-down : middle 3000 4001 ≡ 3500
rounded-down = refl

-- the shifted price is rounded down: a third of the way from 1 to 11; at 16 from 1 to 300000 it is 4800, at 500 the middle
shifted_down : (shifted 333 1 11 ≡ 4) × (shifted 16 1 300000 ≡ 4800) × (shifted 500 3000 4001 ≡ 3500)
unfolding shifted
shifted_down = (refl, refl, refl)

-- the shift nearest 500, of two the smaller; not the other end of those that pass; prices can give way from edition 4 on
nearest-smaller : nearest_shift (λ t. eqb t 501 || eqb t 499) 3 ≡ some 499
unfolding nearest_shift
nearest-smaller = refl

nearest-end : nearest_shift (λ t. eqb t 498 || eqb t 499) 3 ≡ some 499
unfolding nearest_shift
nearest-end = refl

way-from-4 : (gives_way 3 ≡ false) × (gives_way 4 ≡ true)
unfolding gives_way
way-from-4 = (refl, refl)

-- at shift 16 every hour moves, also one without orders, from 1 to 300000
empty-hour-moves : (day : Day) → pricing (hour_of day [] 3) ≡ cleared 1 300000 150000 → prices_at_shift day [] 16 3 ≡ 4800
unfolding prices_at_shift shifted
empty-hour-moves day e = rw e refl

-- a block of hours 1 and 2 at 3000
block : Side → Block
block side = record { number = 1; portfolio = 1; side = side; price = 3000; quantity = 50; runs = λ h. eqb h 1 || eqb h 2 }

prices : ℕ → ℕ → ℕ → ℕ
prices first second h = get_or (0 ∷ first ∷ second ∷ []) h 150000

-- a sum of 6000 keeps both limits; 6001 is too much for the buy, though the average rounds to 3000; 5999 too little for the sell
sum-decides : (keeps_limit 24 (prices 3000 3000) (block buy) ≡ true) × (keeps_limit 24 (prices 3000 3000) (block sell) ≡ true)
    × (keeps_limit 24 (prices 3000 3001) (block buy) ≡ false) × (keeps_limit 24 (prices 3000 2999) (block sell) ≡ false)
unfolding keeps_limit price_sum hour_count day_sum sum_to weight prices block
sum-decides = (refl, refl, refl, refl)

-- the listing of all sets of two blocks
two_blocks : all_sets 2 ≡ (true ∷ true ∷ []) ∷ (true ∷ false ∷ []) ∷ (false ∷ true ∷ []) ∷ (false ∷ false ∷ []) ∷ []
unfolding all_sets
two_blocks = refl

-- 100 shared by two steps of 60; by the former rule the first was filled before the second
half-each : shares 100 (60 ∷ 60 ∷ []) ≡ 50 ∷ 50 ∷ []
unfolding shares in_proportion floors remainders extras at_least
half-each = refl

filled-in-turn : fill_in_turn 100 (60 ∷ 60 ∷ []) ≡ 60 ∷ 40 ∷ []
unfolding fill_in_turn
filled-in-turn = refl

-- 3 shared by steps of 2, 1 and 1: rounded down 1, 0 and 0, and the two tenths left go to the larger remainders, not to the lower numbers
largest-remainders : shares 3 (2 ∷ 1 ∷ 1 ∷ []) ≡ 1 ∷ 1 ∷ 1 ∷ []
unfolding shares in_proportion floors remainders extras at_least
largest-remainders = refl

-- 2 shared by steps of 1 and 3: rounded down 0 and 1, equal remainders, and the lower number gets the tenth left
equal-remainders : shares 2 (1 ∷ 3 ∷ []) ≡ 1 ∷ 1 ∷ []
unfolding shares in_proportion floors remainders extras at_least
equal-remainders = refl

-- where nobody holds anything nobody gets anything
nothing-held : shares 7 (0 ∷ 0 ∷ []) ≡ 0 ∷ 0 ∷ []
unfolding shares in_proportion floors remainders extras at_least
nothing-held = refl

-- a step of 0 between gets nothing and moves no other
none_between : shares 3 (2 ∷ 0 ∷ 1 ∷ 1 ∷ []) ≡ 1 ∷ 0 ∷ 1 ∷ 1 ∷ []
unfolding shares in_proportion floors remainders extras at_least
none_between = refl

-- the limits of each edition: a block's largest quantity, and how many blocks a portfolio may have
pub limits-of-edition-1 : ((limits 1).block_quantity ≡ 50) × ((limits 1).blocks_of_portfolio ≡ 5)
unfolding limits
limits-of-edition-1 = (refl, refl)

pub limits-of-edition-2 : ((limits 2).block_quantity ≡ 250) × ((limits 2).blocks_of_portfolio ≡ 10)
unfolding limits
limits-of-edition-2 = (refl, refl)

pub limits-of-edition-3 : limits 3 ≡ limits 2
unfolding limits
limits-of-edition-3 = refl

-- how often hour 3 counts on days of 23, 24 and 25 hours; each day counts as many hours as it has
hour-3-counts : (weight 23 3 ≡ 0) × (weight 24 3 ≡ 1) × (weight 25 3 ≡ 2)
unfolding weight
hour-3-counts = (refl, refl, refl)

days-count : (day_sum 23 (λ h. 1) ≡ 23) × (day_sum 24 (λ h. 1) ≡ 24) × (day_sum 25 (λ h. 1) ≡ 25)
unfolding day_sum sum_to weight
days-count = (refl, refl, refl)
