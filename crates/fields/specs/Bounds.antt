-- HOW LARGE A RECORD'S FIELDS MAY BE (document 01, "The book in bytes"), as in src/bounds.rt; the highest price and the limits of an edition stand in the
-- rules, Orders, the hours of a day in Day. Definitions only. Assumes nothing.
use Rattle.std.specs.Prelude.{ℕ}

-- The last portfolio: 1 to 255
abbrev pub last_portfolio : ℕ
last_portfolio = 255

-- The largest quantity of a step: 1 to 99,999
abbrev pub most_step_quantity : ℕ
most_step_quantity = 99999

-- The fewest hours of a block: at least two are set
abbrev pub fewest_hours : ℕ
fewest_hours = 2
