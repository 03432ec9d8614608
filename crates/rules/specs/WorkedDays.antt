-- THE WORKED DAYS S1 to S10 (document 01, "Days to check by hand") as one table: each day's orders, all that is published of them, and the pricing
-- facts told of S2 and S6; and a second table of further days. `proofs/WorkedDayLaws.antt` proves both. Definitions only. Assumes nothing.
use Rattle.std.specs.Prelude.{ℕ, ◌-◌, ◌/◌, ◌%◌, ◌^◌, Bool, true, false, ◌≡◌, List, [], ◌∷◌, ◌++◌, eqb, replicate}
use Rattle.rules.specs.Orders.{Side, buy, sell, Order, Block, Orders}
use Rattle.rules.specs.Hour.{by_side, Pricing, cleared, does_not_clear, pricing}
use Rattle.rules.specs.Day.{day_of, taken, hour_of}
use Rattle.rules.specs.Outcome.{PublishedOutcome, published}

-- An order of the step chain: number, side, hour, quantity, price. Portfolio 1 buys, 2 sells.
abbrev pub step : ℕ → Side → ℕ → ℕ → ℕ → Order
step number side hour quantity price =
    record { number = number; portfolio = by_side side 1 2; step = record { hour = hour; side = side; price = price; quantity = quantity } }

-- Hour h is among hours given as bits, hour h with the weight 2 to the power h − 1.
abbrev pub hours_as : ℕ → ℕ → Bool
hours_as bits h = eqb (bits / 2 ^ (h - 1) % 2) 1

-- A block of portfolio 3: number, side, hours as bits, quantity, price.
abbrev pub block : ℕ → Side → ℕ → ℕ → ℕ → Block
block number side bits quantity price = record { number = number; portfolio = 3; side = side; price = price; quantity = quantity; runs = hours_as bits }

-- A sell block of 50 of portfolio 3 over hours 1 and 2 (bits 3): number, price.
abbrev pub block12 : ℕ → ℕ → Block
block12 number price = record { number = number; portfolio = 3; side = sell; price = price; quantity = 50; runs = hours_as 3 }

-- The base book with blocks: in hours 1 and 2 each, buy 100 at 5000 and sell 100 at 3000.
abbrev pub base_with : List Block → Orders
base_with blocks =
    record {
      edition = 1;
      hours = 24;
      steps = step 1 buy 1 100 5000 ∷ step 2 sell 1 100 3000 ∷ step 3 buy 2 100 5000 ∷ step 4 sell 2 100 3000 ∷ [];
      blocks = blocks;
      links = [];
    }

-- A book of steps alone.
abbrev pub steps_alone : List Order → Orders
steps_alone steps = record { edition = 1; hours = 24; steps = steps; blocks = []; links = [] }

-- A number for each of the first hours, the other for the rest of the 24.
abbrev pub rest23 : ℕ → ℕ → List ℕ
rest23 first other = first ∷ replicate 23 other

abbrev pub rest22 : ℕ → ℕ → ℕ → List ℕ
rest22 first second other = first ∷ second ∷ replicate 22 other

-- The answer of an hour under a set of the day's blocks, whether or not the set is published.
pub record PriceFact : Type 0 where
  pub set : List Bool
  pub hour : ℕ
  pub answer : Pricing

-- A worked day.
pub record WorkedDay : Type 0 where
  pub orders : Orders
  pub publishes : PublishedOutcome
  pub prices : List PriceFact

-- A day of the base book: its blocks, and what is published: both prices and traded quantities, taken blocks, executed rows, welfare; price facts.
abbrev pub base_day : List Block → (price traded : ℕ) → List Bool → List ℕ → ℕ → List PriceFact → WorkedDay
base_day blocks price traded chosen rows welfare facts =
    record {
      orders = base_with blocks;
      publishes = record {
        welfare = welfare;
        prices = rest22 price price 150000;
        traded = rest22 traded traded 0;
        chosen = chosen;
        executed = rows;
      };
      prices = facts;
    }

-- A day of steps in hour 1 alone.
abbrev pub hour_day : List Order → (price traded : ℕ) → List ℕ → ℕ → WorkedDay
hour_day steps price traded rows welfare =
    record {
      orders = steps_alone steps;
      publishes = record {
        welfare = welfare;
        prices = rest23 price 150000;
        traded = rest23 traded 0;
        chosen = [];
        executed = rows;
      };
      prices = [];
    }

abbrev pub fact : List Bool → ℕ → (low high price : ℕ) → PriceFact
fact set hour low high price = record { set = set; hour = hour; answer = cleared low high price }

unfoldable pub worked_days : List WorkedDay
worked_days =
    -- S1: the base book
    base_day [] 4000 100 [] (100 ∷ 100 ∷ 100 ∷ 100 ∷ []) 400000 []
    -- S2: a block at 3900 is left out: with it both prices would be 3000, without it they are 4000
    ∷ base_day (block12 1 3900 ∷ []) 4000 100 (false ∷ []) (100 ∷ 100 ∷ 100 ∷ 100 ∷ []) 400000
    (fact (true ∷ []) 1 3000 3000 3000 ∷ fact (true ∷ []) 2 3000 3000 3000 ∷ fact (false ∷ []) 1 3000 5000 4000 ∷ fact (false ∷ []) 2 3000 5000 4000 ∷ [])
    -- S3: at 3000 it is taken, by the equal rule
    ∷ base_day (block12 1 3000 ∷ []) 3000 100 (true ∷ []) (100 ∷ 50 ∷ 100 ∷ 50 ∷ []) 400000 []
    -- S4: at 3001 it is left out
    ∷ base_day (block12 1 3001 ∷ []) 4000 100 (false ∷ []) (100 ∷ 100 ∷ 100 ∷ 100 ∷ []) 400000 []
    -- S5: at 2900 it is taken
    ∷ base_day (block12 1 2900 ∷ []) 3000 100 (true ∷ []) (100 ∷ 50 ∷ 100 ∷ 50 ∷ []) 410000 []
    -- S6: of two such blocks only the first is taken; both would give price 1500
    ∷ base_day (block12 1 2900 ∷ block12 2 2900 ∷ []) 3000 100 (true ∷ false ∷ []) (100 ∷ 50 ∷ 100 ∷ 50 ∷ []) 410000
    (fact (true ∷ true ∷ []) 1 1 3000 1500 ∷ fact (true ∷ true ∷ []) 2 1 3000 1500 ∷ [])
    -- S7 to S10: steps in hour 1 alone
    ∷ hour_day (step 1 buy 1 10 4001 ∷ step 2 sell 1 10 3000 ∷ []) 3500 10 (10 ∷ 10 ∷ []) 10010
    ∷ hour_day (step 1 buy 1 100 300000 ∷ step 2 sell 1 60 2000 ∷ []) 300000 60 (60 ∷ 60 ∷ []) 17880000
    ∷ hour_day (step 1 sell 1 100 1 ∷ []) 1 0 (0 ∷ []) 0
    ∷ hour_day (step 1 sell 1 60 3000 ∷ step 2 sell 1 60 3000 ∷ step 3 buy 1 100 5000 ∷ []) 3000 100 (50 ∷ 50 ∷ 100 ∷ []) 200000
    ∷ []

-- FURTHER DAYS: more buy blocks than sell blocks (N below zero), the last hours, hours that do not clear.
-- A number for each of hours 23 and 24, the other for the hours before.
abbrev pub last2 : ℕ → ℕ → ℕ → List ℕ
last2 other before last = replicate 22 other ++ (before ∷ last ∷ [])

abbrev pub no_answer : List Bool → ℕ → PriceFact
no_answer set hour = record { set = set; hour = hour; answer = does_not_clear }

-- In hours 1 and 2 each, buy 50 at 5000 and sell 100 at 3000, with a buy block of 50 at a price; what is published, and the answers of hour 1 with
-- the block and without.
abbrev pub buy_block_day : (limit price traded : ℕ) → List Bool → List ℕ → ℕ → WorkedDay
buy_block_day limit price traded chosen rows welfare =
    record {
      orders = record {
        edition = 1;
        hours = 24;
        steps = step 1 buy 1 50 5000 ∷ step 2 sell 1 100 3000 ∷ step 3 buy 2 50 5000 ∷ step 4 sell 2 100 3000 ∷ [];
        blocks = block 1 buy 3 50 limit ∷ [];
        links = [];
      };
      publishes = record {
        welfare = welfare;
        prices = rest22 price price 150000;
        traded = rest22 traded traded 0;
        chosen = chosen;
        executed = rows;
      };
      prices = fact (true ∷ []) 1 3000 5000 4000 ∷ fact (false ∷ []) 1 3000 3000 3000 ∷ [];
    }

unfoldable pub further_days : List WorkedDay
further_days =
    -- a buy block at 4000 is taken: with it both prices are 4000, N is −50
    buy_block_day 4000 4000 100 (true ∷ []) (50 ∷ 100 ∷ 50 ∷ 100 ∷ []) 300000
    -- at 3999 it is left out, though without it both prices are 3000
    ∷ buy_block_day 3999 3000 50 (false ∷ []) (50 ∷ 50 ∷ 50 ∷ 50 ∷ []) 200000
    -- a buy block over hours 23 and 24 at 2500 is taken at prices 2000 and 3000: the sum decides; and by the equal rule, for it brings nothing
    ∷ record {
      orders = record { edition = 1; hours = 24; steps = step 1 sell 23 60 2000 ∷ step 2 sell 24 60 3000 ∷ []; blocks = block 1 buy 12582912 50 2500 ∷ []; links = [] };
      publishes = record {
        welfare = 0;
        prices = last2 150000 2000 3000;
        traded = last2 0 50 50;
        chosen = true ∷ [];
        executed = 50 ∷ 50 ∷ [];
      };
      prices = fact (false ∷ []) 24 1 3000 1500 ∷ [];
    }
    -- a sell block of 20 and a buy block of 50 over hours 1 and 24, in hour 24 with steps on both sides: N is −30 in both hours
    ∷ record {
      orders = record {
        edition = 1;
        hours = 24;
        steps = step 1 sell 1 40 2000 ∷ step 2 sell 24 100 3000 ∷ step 3 buy 24 60 4000 ∷ [];
        blocks = block 1 sell 8388609 20 2500 ∷ block 2 buy 8388609 50 2500 ∷ [];
        links = [];
      };
      publishes = record {
        welfare = 60000;
        prices = 2000 ∷ replicate 22 150000 ++ (3000 ∷ []);
        traded = 50 ∷ replicate 22 0 ++ (110 ∷ []);
        chosen = true ∷ true ∷ [];
        executed = 30 ∷ 90 ∷ 60 ∷ [];
      };
      prices = fact (true ∷ true ∷ []) 1 2000 2000 2000 ∷ no_answer (true ∷ false ∷ []) 1 ∷ no_answer (false ∷ true ∷ []) 1 ∷ [];
    }
    -- a book of the head alone
    ∷ hour_day [] 150000 0 [] 0
    -- a sell block at 3000 and a buy block at 5000 alone: together they meet the price 150000, which the buy's limit forbids; neither clears alone
    ∷ record {
      orders = record { edition = 1; hours = 24; steps = []; blocks = block 1 sell 3 50 3000 ∷ block 2 buy 3 50 5000 ∷ []; links = [] };
      publishes = record {
        welfare = 0;
        prices = replicate 24 150000;
        traded = replicate 24 0;
        chosen = false ∷ false ∷ [];
        executed = [];
      };
      prices = fact (true ∷ true ∷ []) 1 1 300000 150000 ∷ no_answer (true ∷ false ∷ []) 1 ∷ no_answer (false ∷ true ∷ []) 1 ∷ [];
    }
    ∷ []

-- DAYS OF 23 AND 25 HOURS: the first of hour 2, then the rest of the 24.
-- A number for each of hours 2, 3 and 4, the other for the rest.
abbrev pub hours234 : ℕ → (two three four : ℕ) → List ℕ
hours234 other two three four = other ∷ two ∷ three ∷ four ∷ replicate 20 other

-- A sell block of 50 over hours 2 and 3 (bits 6), and over hours 2, 3 and 4 (bits 14): price.
abbrev pub block23 : ℕ → Block
block23 price = block 1 sell 6 50 price

abbrev pub block234 : ℕ → Block
block234 price = block 1 sell 14 50 price

-- A day of 25 hours: in hour 2 buy 100 at 5000 and sell 50 at 3000, in hour 3 buy 100 at 5000 and sell 100 at 3000, with a block over both. With it the
-- prices are 4000 and 3000, counted 4000 + 2 × 3000.
abbrev pub autumn_orders : ℕ → Orders
autumn_orders limit =
    record {
      edition = 1;
      hours = 25;
      steps = step 1 buy 2 100 5000 ∷ step 2 sell 2 50 3000 ∷ step 3 buy 3 100 5000 ∷ step 4 sell 3 100 3000 ∷ [];
      blocks = block23 limit ∷ [];
      links = [];
    }

abbrev pub autumn_day : (limit : ℕ) (prices traded : List ℕ) → List Bool → List ℕ → ℕ → WorkedDay
autumn_day limit prices traded chosen rows welfare =
    record {
      orders = autumn_orders limit;
      publishes = record { welfare = welfare; prices = prices; traded = traded; chosen = chosen; executed = rows };
      prices = [];
    }

unfoldable pub change_days : List WorkedDay
change_days =
    -- S5 moved to hours 2 and 3 of a day of 25: hour 3 counts twice in the welfare, its row has the hour's own figures
    record {
      orders = record {
        edition = 1;
        hours = 25;
        steps = step 1 buy 2 100 5000 ∷ step 2 sell 2 100 3000 ∷ step 3 buy 3 100 5000 ∷ step 4 sell 3 100 3000 ∷ [];
        blocks = block23 2900 ∷ [];
        links = [];
      };
      publishes = record {
        welfare = 615000;
        prices = hours234 150000 3000 3000 150000;
        traded = hours234 0 100 100 0;
        chosen = true ∷ [];
        executed = 100 ∷ 50 ∷ 100 ∷ 50 ∷ [];
      };
      prices = [];
    }
    -- S5 on a day of 23 with its steps in hours 2 and 4, its block over 2, 3 and 4: hour 3 needs no balance, its row is 0 and 0
    ∷ record {
      orders = record {
        edition = 1;
        hours = 23;
        steps = step 1 buy 2 100 5000 ∷ step 2 sell 2 100 3000 ∷ step 3 buy 4 100 5000 ∷ step 4 sell 4 100 3000 ∷ [];
        blocks = block234 2900 ∷ [];
        links = [];
      };
      publishes = record {
        welfare = 410000;
        prices = hours234 150000 3000 0 3000;
        traded = hours234 0 100 0 100;
        chosen = true ∷ [];
        executed = 100 ∷ 50 ∷ 100 ∷ 50 ∷ [];
      };
      prices = [];
    }
    -- a block whose price times three is the counted sum of 10000, rounded down, is taken
    ∷ autumn_day 3333 (hours234 150000 4000 3000 150000) (hours234 0 100 100 0) (true ∷ []) (100 ∷ 50 ∷ 100 ∷ 50 ∷ []) 550050
    -- one cent more, and it is left out, though the plain sum of 7000 would do for two hours
    ∷ autumn_day 3334 (hours234 150000 5000 4000 150000) (hours234 0 50 100 0) (false ∷ []) (50 ∷ 50 ∷ 100 ∷ 100 ∷ []) 500000
    ∷ []

-- DAYS WITH LINKED BLOCKS (document 02, P6): the base book with two blocks over hours 1 and 2 (bits 3), the second the child of the first.
abbrev pub linked_day : Block → Block → (price traded : ℕ) → List Bool → List ℕ → ℕ → List PriceFact → WorkedDay
linked_day parent child price traded chosen rows welfare facts =
    record {
      orders = record {
        edition = 3;
        hours = 24;
        steps = (base_with []).steps;
        blocks = parent ∷ child ∷ [];
        links = record { child = 2; parent = 1 } ∷ [];
      };
      publishes = record {
        welfare = welfare;
        prices = rest22 price price 150000;
        traded = rest22 traded traded 0;
        chosen = chosen;
        executed = rows;
      };
      prices = facts;
    }

unfoldable pub linked_days : List WorkedDay
linked_days =
    -- a start-up block at 3500 loses alone, at prices of 3000; with its child, which buys as much at 4500, both gain, and both are taken
    linked_day (block 1 sell 3 50 3500) (block 2 buy 3 50 4500) 4000 150 (true ∷ true ∷ []) (100 ∷ 100 ∷ 100 ∷ 100 ∷ []) 500000
    (fact (true ∷ false ∷ []) 1 3000 3000 3000 ∷ fact (false ∷ true ∷ []) 1 5000 5000 5000 ∷ [])
    -- the same with a child at 3900, which misses its limit at the 4000 of both: neither is taken
    ∷ linked_day (block 1 sell 3 50 3500) (block 2 buy 3 50 3900) 4000 100 (false ∷ false ∷ []) (100 ∷ 100 ∷ 100 ∷ 100 ∷ []) 400000
    (fact (true ∷ true ∷ []) 1 3000 5000 4000 ∷ [])
    -- a child at 2900 would be taken alone, as in S5; its parent, at 4500, is not, and so it is left out
    ∷ linked_day (block 1 sell 3 50 4500) (block 2 sell 3 50 2900) 4000 100 (false ∷ false ∷ []) (100 ∷ 100 ∷ 100 ∷ 100 ∷ []) 400000
    (fact (false ∷ true ∷ []) 1 3000 3000 3000 ∷ [])
    -- equal welfare with the family, with the parent alone and without both: the family is taken, by the equal rule
    ∷ linked_day (block 1 sell 3 25 3000) (block 2 sell 3 25 3000) 3000 100 (true ∷ true ∷ []) (100 ∷ 50 ∷ 100 ∷ 50 ∷ []) 400000 []
    -- the same with a parent one cent dearer: it is left out, and its child with it
    ∷ linked_day (block 1 sell 3 25 3001) (block 2 sell 3 25 3000) 4000 100 (false ∷ false ∷ []) (100 ∷ 100 ∷ 100 ∷ 100 ∷ []) 400000 []
    ∷ []

-- DAYS WHOSE PRICES CAN GIVE WAY (document 02, P7): a sell block and a buy block alone, of 50 each over the same hours, given as bits. Together they clear at
-- every price from 1 to 300000. The edition, the day's hours and the blocks' prices are given, and what is published.
abbrev pub two_blocks : (edition hours bits sells buys : ℕ) → Orders
two_blocks edition hours bits sells buys =
    record { edition = edition; hours = hours; steps = []; blocks = block 1 sell bits 50 sells ∷ block 2 buy bits 50 buys ∷ []; links = [] }

abbrev pub shifted_day : Orders → (prices traded : List ℕ) → Bool → ℕ → WorkedDay
shifted_day orders prices traded both welfare =
    record {
      orders = orders;
      publishes = record { welfare = welfare; prices = prices; traded = traded; chosen = both ∷ both ∷ []; executed = [] };
      prices = fact (true ∷ true ∷ []) 1 1 300000 150000 ∷ [];
    }

unfoldable pub shifted_days : List WorkedDay
shifted_days =
    -- the paper's example: t is 16 and the price 4800, in every hour, those without orders too; an hour by itself is still answered with the middle
    shifted_day (two_blocks 4 24 3 3000 5000) (replicate 24 4800) (rest22 50 50 0) true 200000
    -- the same book in edition 3: the middle price forbids the buy, and neither is taken
    ∷ shifted_day (two_blocks 3 24 3 3000 5000) (replicate 24 150000) (replicate 24 0) false 0
    -- dear blocks pull t above 500, to 984
    ∷ shifted_day (two_blocks 4 24 3 295000 299000) (replicate 24 295200) (rest22 50 50 0) true 400000
    -- limits around the middle: t stays 500
    ∷ shifted_day (two_blocks 4 24 3 149000 151000) (replicate 24 150000) (rest22 50 50 0) true 200000
    -- no t keeps both limits: neither is taken, and the empty set has t = 500
    ∷ shifted_day (two_blocks 4 24 3 5000 3000) (replicate 24 150000) (replicate 24 0) false 0
    -- a day of 23, over hours 2, 3 and 4: hour 3 stays 0 and 0
    ∷ record {
      orders = two_blocks 4 23 14 3000 5000;
      publishes = record {
        welfare = 200000;
        prices = hours234 4800 4800 0 4800;
        traded = hours234 0 50 0 50;
        chosen = true ∷ true ∷ [];
        executed = [];
      };
      prices = [];
    }
    -- with steps: with a sell block at 4500 the prices of hours 1 and 2 are from 3000 to 5000, and it is taken at t = 750; every hour moves, those without
    -- orders to 225000
    ∷ record {
      orders = record {
        edition = 4;
        hours = 24;
        steps = step 1 buy 1 150 5000 ∷ step 2 sell 1 100 3000 ∷ step 3 buy 2 150 5000 ∷ step 4 sell 2 100 3000 ∷ [];
        blocks = block 1 sell 3 50 4500 ∷ [];
        links = [];
      };
      publishes = record {
        welfare = 450000;
        prices = rest22 4500 4500 225000;
        traded = rest22 150 150 0;
        chosen = true ∷ [];
        executed = 150 ∷ 100 ∷ 150 ∷ 100 ∷ [];
      };
      prices = fact (true ∷ []) 1 3000 5000 4000 ∷ [];
    }
    ∷ []

-- The hour is answered so.
abbrev pub Answered : Orders → List PriceFact → Type 0
Answered orders [] = Unit {0}
Answered orders (f ∷ l) =
    (pricing (hour_of (day_of orders) (taken (day_of orders).blocks f.set) f.hour) ≡ f.answer) × Answered orders l

-- Every day of a table is published as the table says, and its hours answered so.
abbrev pub Hold : List WorkedDay → Type 0
Hold [] = Unit {0}
Hold (d ∷ l) = (published d.orders ≡ d.publishes) × Answered d.orders d.prices × Hold l
