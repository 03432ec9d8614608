-- WHAT THE SEARCH WORKS ON: the tables of the hours and the columns of the blocks, as one record. A list that a later change adds is a field here.
-- Definitions only. Assumes nothing.
use Rattle.std.specs.Prelude.{ℕ, Bool, List}
use Rattle.places.specs.declared.tables.Tables as code
use Rattle.places.specs.Hours.{clears_first, clears_last, gaps_turn, change_often, gives_way_in}

pub record Tables : Type 0 where
  -- A row of places for each hour. Each place has the unit price of the N before its own: the hour's greatest price at its place, and the least price at
  -- the place before. An hour that has a buy of 2 at 5000, a sell of 1 at 3000 and no block that buys has 5000, 5000, 3000, 1: at place 0 both prices are
  -- 5000, at place 1 the hour's price is from 3000 to 5000, its middle 4000.
  pub unit_prices : List ℕ
  -- A row of places for each hour: what the hour loses there at its root price, less what it loses at its best place.
  pub gaps : List ℕ
  -- For each hour the first and the last place at which it clears, and the place of its least gap, where its gaps turn.
  pub first : List ℕ
  pub last : List ℕ
  pub turn : List ℕ
  -- How often hour 3 counts, and whether prices can give way.
  pub change : ℕ
  pub shifts : Bool
  -- The columns and rows of the blocks, and how many blocks there are.
  pub blocks : List ℕ
  pub count : ℕ

-- The tables out of the lists that the code hands on.
abbrev pub tables_of : (unit_prices gaps hours blocks : List ℕ) (count : ℕ) → Tables
tables_of unit_prices gaps hours blocks count =
    record {
      unit_prices = unit_prices;
      gaps = gaps;
      first = clears_first hours;
      last = clears_last hours;
      turn = gaps_turn hours;
      change = change_often hours;
      shifts = gives_way_in hours;
      blocks = blocks;
      count = count;
    }

-- The tables as the code lends them.
abbrev pub seen : code.Tables → Tables
seen t = tables_of t.unit_prices.now t.gap.now t.hours.now t.blocks.now t.count
