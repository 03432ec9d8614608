-- WORKED CASH SHEETS (document 02, P3): days with what is published of them, and their sheets. `proofs/CashCases.antt` proves them. The rules do not use them.
-- Definitions only. Assumes nothing.
use Rattle.std.specs.Prelude.{ℕ, true, false, ◌≡◌, List, [], ◌∷◌}
use Rattle.rules.specs.Orders.{Side, buy, sell, Order}
use Rattle.rules.specs.WorkedDays.{step, block12, block234, WorkedDay, base_day, hour_day, buy_block_day, hours234, autumn_day}
use Rattle.rules.specs.Cash.{Cash, CashLine, CashSheet, cash_sheet}

-- The four numbers of a line: bought, sold, paid, received.
abbrev pub numbers : (bought sold paid received : ℕ) → Cash
numbers bought sold paid received = record { bought = bought; sold = sold; paid = paid; received = received }

-- A line: its portfolio and the four numbers.
abbrev pub line : (portfolio bought sold paid received : ℕ) → CashLine
line portfolio bought sold paid received = record { portfolio = portfolio; cash = numbers bought sold paid received }

-- A step of a portfolio: number, portfolio, side, hour, quantity, price.
abbrev pub step_of : ℕ → ℕ → Side → ℕ → ℕ → ℕ → Order
step_of number portfolio side hour quantity price =
    record { number = number; portfolio = portfolio; step = record { hour = hour; side = side; price = price; quantity = quantity } }

-- A worked day, and its sheet.
pub record CashCase : Type 0 where
  pub day : WorkedDay
  pub sheet : CashSheet

unfoldable pub cash_cases : List CashCase
cash_cases =
    -- S5, the paper's sheet: portfolio 1 buys, 2 sells, 3 owns the block; hours 1 and 2 at 3000
    record {
      day = base_day (block12 1 2900 ∷ []) 3000 100 (true ∷ []) (100 ∷ 50 ∷ 100 ∷ 50 ∷ []) 410000 [];
      sheet = record {
        lines = line 1 200 0 600000 0 ∷ line 2 0 100 0 300000 ∷ line 3 0 100 0 300000 ∷ [];
        totals = numbers 200 200 600000 600000;
      };
    }
    -- S2: the block is left out, and its portfolio has its line
    ∷ record {
      day = base_day (block12 1 3900 ∷ []) 4000 100 (false ∷ []) (100 ∷ 100 ∷ 100 ∷ 100 ∷ []) 400000 [];
      sheet = record {
        lines = line 1 200 0 800000 0 ∷ line 2 0 200 0 800000 ∷ line 3 0 0 0 0 ∷ [];
        totals = numbers 200 200 800000 800000;
      };
    }
    -- a day of 25 hours, hours 2 and 3 at 4000 and 3000: hour 3 counts twice, in quantities and in cash
    ∷ record {
      day = autumn_day 3333 (hours234 150000 4000 3000 150000) (hours234 0 100 100 0) (true ∷ []) (100 ∷ 50 ∷ 100 ∷ 50 ∷ []) 550050;
      sheet = record {
        lines = line 1 300 0 1000000 0 ∷ line 2 0 150 0 500000 ∷ line 3 0 150 0 500000 ∷ [];
        totals = numbers 300 300 1000000 1000000;
      };
    }
    -- S5 on a day of 23, its block over hours 2, 3 and 4: hour 3 does not count
    ∷ record {
      day = record {
        orders = record {
          edition = 1;
          hours = 23;
          steps = step 1 buy 2 100 5000 ∷ step 2 sell 2 100 3000 ∷ step 3 buy 4 100 5000 ∷ step 4 sell 4 100 3000 ∷ [];
          blocks = block234 2900 ∷ [];
          links = [];
        };
        publishes = record {
          welfare = 410000;
          prices = hours234 150000 3000 0 3000;
          traded = hours234 0 100 0 100;
          chosen = true ∷ [];
          executed = 100 ∷ 50 ∷ 100 ∷ 50 ∷ [];
        };
        prices = [];
      };
      sheet = record {
        lines = line 1 200 0 600000 0 ∷ line 2 0 100 0 300000 ∷ line 3 0 100 0 300000 ∷ [];
        totals = numbers 200 200 600000 600000;
      };
    }
    -- a taken buy block: portfolio 3 pays; hours 1 and 2 at 4000
    ∷ record {
      day = buy_block_day 4000 4000 100 (true ∷ []) (50 ∷ 100 ∷ 50 ∷ 100 ∷ []) 300000;
      sheet = record {
        lines = line 1 100 0 400000 0 ∷ line 2 0 200 0 800000 ∷ line 3 100 0 400000 0 ∷ [];
        totals = numbers 200 200 800000 800000;
      };
    }
    -- the highest portfolio buys from itself in hour 1, at 3500; portfolio 9 asks too much, and has its line before it
    ∷ record {
      day = hour_day (step_of 1 255 buy 1 10 4001 ∷ step_of 2 255 sell 1 10 3000 ∷ step_of 3 9 sell 1 5 9000 ∷ []) 3500 10 (10 ∷ 10 ∷ 0 ∷ []) 10010;
      sheet = record { lines = line 9 0 0 0 0 ∷ line 255 10 10 35000 35000 ∷ []; totals = numbers 10 10 35000 35000 };
    }
    -- a book without orders
    ∷ record { day = hour_day [] 150000 0 [] 0; sheet = record { lines = []; totals = numbers 0 0 0 0 } }
    ∷ []

-- Every day of the table has the sheet that the table says.
abbrev pub SheetsHold : List CashCase → Type 0
SheetsHold [] = Unit {0}
SheetsHold (c ∷ l) = (cash_sheet c.day.orders ≡ c.sheet) × SheetsHold l
