-- CASES for the statements of demands 2 and 3: small days with outcomes that the statements must admit, and outcomes that a part of them must refuse.
-- `proofs/NotBest.antt`, `proofs/ContenderCases.antt` and `proofs/OutcomeRulesCases.antt` prove it of them. The rules do not use them. Definitions
-- only. Assumes nothing.
use Rattle.std.specs.Prelude.{ℕ, zero, suc, Bool, true, false, List, [], ◌∷◌, ◌++◌, get_or, replicate}
use Rattle.rules.specs.Orders.{buy, sell, Order, Block, steps_of}
use Rattle.rules.specs.Day.{Day, day_of}
use Rattle.rules.specs.OutcomeRules.{OutcomeRules}
use Rattle.rules.specs.WorkedDays.{step, block, block12, base_with, block23, block234, autumn_orders}

-- DAYS FOR DEMAND 3
-- The day of a base book with blocks. S3, S4 and S5 have one sell block over hours 1 and 2, S6 has two.
abbrev pub base_day_of : List Block → Day
base_day_of blocks = day_of (base_with blocks)

abbrev pub s3 : Day
s3 = base_day_of (block12 1 3000 ∷ [])

abbrev pub s4 : Day
s4 = base_day_of (block12 1 3001 ∷ [])

abbrev pub s5 : Day
s5 = base_day_of (block12 1 2900 ∷ [])

abbrev pub s6 : Day
s6 = base_day_of (block12 1 2900 ∷ block12 2 2900 ∷ [])

-- S6 with the second block 100 cheaper: both together are outside their limits, and of the two alone the second brings more.
abbrev pub uneven : Day
uneven = base_day_of (block12 1 2900 ∷ block12 2 2800 ∷ [])

-- The day of a book of steps and blocks.
abbrev pub day_with : List Order → List Block → Day
day_with steps blocks = day_of (record { edition = 1; hours = 24; steps = steps; blocks = blocks; links = [] })

-- A block that brings one tenth of a cent: it costs 3000 in hours 1 and 2, the steps that it displaces cost 3000 and 3001.
abbrev pub narrow : Day
narrow =
    day_with (step 1 buy 1 2 5000 ∷ step 2 sell 1 2 3000 ∷ step 3 buy 2 2 5000 ∷ step 4 sell 2 2 3001 ∷ [])
    (block 1 sell 3 1 3000 ∷ [])

-- A buy block of 50 over hours 23 and 24, where 60 are sold at 2000 and at 3000: those are the prices with it. Its own price is given.
abbrev pub late_buy : ℕ → Day
late_buy price = day_with (step 1 sell 23 60 2000 ∷ step 2 sell 24 60 3000 ∷ []) (block 1 buy 12582912 50 price ∷ [])

-- Hour 24 with sells of 60, 60 at 3000 and 10 at 4000, and a buy of 100 at 5000: the price is 3000, and 50, 50, 0 and 100 are executed.
abbrev pub shared_late : Day
shared_late = day_with (step 1 sell 24 60 3000 ∷ step 2 sell 24 60 3000 ∷ step 3 sell 24 10 4000 ∷ step 4 buy 24 100 5000 ∷ []) []

-- A sell above the only buy: no trade that brings anything.
abbrev pub apart : Day
apart = day_with (step 1 sell 1 10 6000 ∷ step 2 buy 1 10 2000 ∷ []) []

-- S5 moved to hours 2 and 3 of a day of 25 hours.
abbrev pub s5_autumn : Day
s5_autumn =
    day_of (record {
      edition = 1;
      hours = 25;
      steps = step 1 buy 2 100 5000 ∷ step 2 sell 2 100 3000 ∷ step 3 buy 3 100 5000 ∷ step 4 sell 3 100 3000 ∷ [];
      blocks = block23 2900 ∷ [];
      links = [];
    })

-- A block over hours 2 and 3 of a day of 25 hours, where the prices with it are 4000 and 3000. Its own price is given.
abbrev pub autumn : ℕ → Day
autumn limit = day_of (autumn_orders limit)

-- On a day of so many hours: S5's steps in hours 2 and 4, and a sell block that runs in hours 2, 3 and 4. Nobody buys in hour 3. The day is written out: of a
-- book's blocks `day_of` leaves out the hour that does not count.
abbrev pub across : ℕ → Day
across hours =
    record {
      edition = 1;
      hours = hours;
      steps = steps_of (step 1 buy 2 100 5000 ∷ step 2 sell 2 100 3000 ∷ step 3 buy 4 100 5000 ∷ step 4 sell 4 100 3000 ∷ []);
      blocks = block234 2900 ∷ [];
      links = [];
    }

-- The base book with two sell blocks over hours 1 and 2, the second the child of the first. Their prices are given.
abbrev pub family : (parent child : ℕ) → Day
family parent child =
    day_of (record {
      edition = 3;
      hours = 24;
      steps = (base_with []).steps;
      blocks = block 1 sell 3 25 parent ∷ block 2 sell 3 25 child ∷ [];
      links = record { child = 2; parent = 1 } ∷ [];
    })

-- OUTCOMES FOR DEMAND 2
-- A set of a day's blocks with prices, traded quantities and a quantity for each step.
pub record Case : Type 0 where
  pub day : Day
  pub set : List Bool
  pub price : ℕ → ℕ
  pub traded : ℕ → ℕ
  pub quantities : List ℕ

abbrev pub Obeys : Case → Type 0
Obeys c = OutcomeRules c.day c.set c.price c.traded c.quantities

-- What a rule, given as a field of `OutcomeRules`, states of a case; and that the case breaks it.
abbrev pub States : (c : Case) {A : Type 0} → (Obeys c → A) → Type 0
States c {A} rule = A

abbrev pub Breaks : (c : Case) {A : Type 0} → (Obeys c → A) → Type 0
Breaks c rule = ¬ States c rule

-- The twelve rules of a case, in the order of `OutcomeRules`.
abbrev pub rules : Case → List (Type 0)
rules c =
    States c (λ o. o.clears_all) ∷ States c (λ o. o.set_price) ∷ States c (λ o. o.sells_above) ∷ States c (λ o. o.buys_below)
    ∷ States c (λ o. o.sells_below) ∷ States c (λ o. o.buys_above) ∷ States c (λ o. o.at_price) ∷ States c (λ o. o.block_sells)
    ∷ States c (λ o. o.block_buys) ∷ States c (λ o. o.not_more) ∷ States c (λ o. o.balanced) ∷ States c (λ o. o.traded_buys) ∷ []

-- Whether a rule is kept or broken.
pub data Mark : Type 0 where
  kept broken : Mark

-- So many rules kept, and then others.
abbrev pub keeping : ℕ → List Mark → List Mark
keeping zero l = l
keeping (suc n) l = kept ∷ keeping n l

-- Each rule is as marked; there are as many marks as rules.
abbrev pub Marked : List Mark → List (Type 0) → Type 0
Marked [] [] = Unit {0}
Marked [] (A ∷ l) = ⊥
Marked (m ∷ marks) [] = ⊥
Marked (kept ∷ marks) (A ∷ l) = A × Marked marks l
Marked (broken ∷ marks) (A ∷ l) = (¬ A) × Marked marks l

-- The number of an hour: of hours 1, 2, 3 and 24, and another for the hours between.
abbrev pub hourly : (first second third last between : ℕ) → ℕ → ℕ
hourly first second third last between h = get_or (0 ∷ first ∷ second ∷ third ∷ replicate 20 between ++ (last ∷ [])) h 0

-- The day of the cases: in hour 3 sells share at the price, in hour 24 buys do; hours 1 and 2 are those of the base book, with a sell block and a buy
-- block of 50, whose prices are given.
abbrev pub case_day : (sellPrice buyPrice : ℕ) → Day
case_day sellPrice buyPrice =
    day_with
    (step 1 sell 3 60 3000 ∷ step 2 sell 3 60 3000 ∷ step 3 sell 3 10 4000 ∷ step 4 buy 3 100 5000
    ∷ step 5 buy 24 60 5000 ∷ step 6 buy 24 60 5000 ∷ step 7 buy 24 10 4000 ∷ step 8 sell 24 100 3000
    ∷ step 9 buy 1 100 5000 ∷ step 10 sell 1 100 3000 ∷ step 11 buy 2 100 5000 ∷ step 12 sell 2 100 3000 ∷ [])
    (block 1 sell 3 50 sellPrice ∷ block 2 buy 3 50 buyPrice ∷ [])

-- Both blocks taken, at prices and traded quantities, with quantities of the steps of hour 3 and of hour 24.
abbrev pub outcome_with : Day → (price traded : ℕ → ℕ) → (third last : List ℕ) → Case
outcome_with day price traded third last =
    record { day = day; set = true ∷ true ∷ []; price = price; traded = traded; quantities = third ++ last ++ (100 ∷ 100 ∷ 100 ∷ 100 ∷ []) }

abbrev pub right_day : Day
right_day = case_day 4000 4000

abbrev pub right_prices : ℕ → ℕ
right_prices = hourly 4000 4000 3000 5000 150000

abbrev pub right_traded : ℕ → ℕ
right_traded = hourly 150 150 100 100 0

abbrev pub right_shares : List ℕ
right_shares = 50 ∷ 50 ∷ 0 ∷ 100 ∷ []

-- An outcome that keeps all rules. Each of the next differs from it in one thing.
abbrev pub right : Case
right = outcome_with right_day right_prices right_traded right_shares right_shares

-- The prices of hours 1 and 2 clear and add up as they should, but are not the middle.
abbrev pub off_middle : Case
off_middle = outcome_with right_day (hourly 3500 4500 3000 5000 150000) right_traded right_shares right_shares

-- The prices of the hours between clear too, one cent below the middle.
abbrev pub off_middle_between : Case
off_middle_between = outcome_with right_day (hourly 4000 4000 3000 5000 149999) right_traded right_shares right_shares

-- The sell at 4000 is served in hour 3, at price 3000.
abbrev pub worse_sell_served : Case
worse_sell_served = outcome_with right_day right_prices right_traded (50 ∷ 40 ∷ 10 ∷ 100 ∷ []) right_shares

-- The buy at 4000 is served in hour 24, at price 5000.
abbrev pub worse_buy_served : Case
worse_buy_served = outcome_with right_day right_prices right_traded right_shares (50 ∷ 40 ∷ 10 ∷ 100 ∷ [])

-- The sell at 3000 is cut by 10 in hour 24, at price 5000.
abbrev pub better_sell_cut : Case
better_sell_cut = outcome_with right_day right_prices (hourly 150 150 100 90 0) right_shares (50 ∷ 40 ∷ 0 ∷ 90 ∷ [])

-- The buy at 5000 is cut by 10 in hour 3, at price 3000.
abbrev pub better_buy_cut : Case
better_buy_cut = outcome_with right_day right_prices (hourly 150 150 90 100 0) (50 ∷ 40 ∷ 0 ∷ 90 ∷ []) right_shares

-- A sell of 60 at the price gets 70.
abbrev pub more_at_price : Case
more_at_price = outcome_with right_day right_prices right_traded (70 ∷ 30 ∷ 0 ∷ 100 ∷ []) right_shares

-- A buy of 100 above the price gets 110.
abbrev pub more_than_own : Case
more_than_own = outcome_with right_day right_prices (hourly 150 150 110 100 0) (60 ∷ 50 ∷ 0 ∷ 110 ∷ []) right_shares

-- A block misses its limit by one cent: the sell's price is 4001, the buy's 3999.
abbrev pub sell_block_outside : Case
sell_block_outside = outcome_with (case_day 4001 4000) right_prices right_traded right_shares right_shares

abbrev pub buy_block_outside : Case
buy_block_outside = outcome_with (case_day 4000 3999) right_prices right_traded right_shares right_shares

-- In hour 24 the sell gets 10 more than the buys.
abbrev pub unbalanced : Case
unbalanced = outcome_with right_day right_prices (hourly 150 150 100 90 0) right_shares (50 ∷ 40 ∷ 0 ∷ 100 ∷ [])

-- The sell block at 3000 alone is taken, and in hours 1 and 2 no step gives way to it: the steps balance, the hours do not.
abbrev pub block_unmet : Case
block_unmet =
    record {
      day = case_day 3000 4000;
      set = true ∷ false ∷ [];
      price = hourly 3000 3000 3000 5000 150000;
      traded = hourly 100 100 100 100 0;
      quantities = right.quantities;
    }

-- The traded quantity of hour 24 is one too many.
abbrev pub one_too_many : Case
one_too_many = outcome_with right_day right_prices (hourly 150 150 100 101 0) right_shares right_shares

-- The traded quantity of hours 1 and 2 leaves the buy block out.
abbrev pub buy_block_forgotten : Case
buy_block_forgotten = outcome_with right_day right_prices (hourly 100 100 100 100 0) right_shares right_shares

-- Hours that do not clear have no price: a buy block where nobody sells; a sell at 0 in hour 24, below every price that may clear.
abbrev pub nobody_sells : Case
nobody_sells =
    record {
      day = day_with [] (block 1 buy 3 50 5000 ∷ []);
      set = true ∷ [];
      price = hourly 0 0 150000 150000 150000;
      traded = hourly 50 50 0 0 0;
      quantities = [];
    }

abbrev pub sold_at_nothing : Case
sold_at_nothing =
    record {
      day = day_with (step 1 sell 24 10 0 ∷ []) [];
      set = [];
      price = hourly 150000 150000 150000 0 150000;
      traded = hourly 0 0 0 0 0;
      quantities = 0 ∷ [];
    }

-- The day across hour 3 with its block taken, its prices 3000 in hours 2 and 4; hour 3 has no price that clears.
abbrev pub across_taken : ℕ → Case
across_taken hours =
    record {
      day = across hours;
      set = true ∷ [];
      price = λ h. get_or (0 ∷ 150000 ∷ 3000 ∷ 0 ∷ 3000 ∷ replicate 20 150000) h 0;
      traded = λ h. get_or (0 ∷ 0 ∷ 100 ∷ 0 ∷ 100 ∷ []) h 0;
      quantities = 100 ∷ 50 ∷ 100 ∷ 50 ∷ [];
    }
