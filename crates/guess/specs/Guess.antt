-- A LIMIT FOR A PASS OF THE SEARCH, BY A GUESS: what safety asks of the tables, and how large a guess gets. Any limit is right, so nothing is said of the
-- guess but that. Definitions only. Assumes nothing.
use Rattle.std.specs.Prelude.{ℕ, ◌+◌, ◌≤◌, ◌<◌, List, ◌≡◌, length}
use Rattle.rules.specs.Orders.{max_price}
use Rattle.book.specs.Bounds.{most_blocks}
use Rattle.places.specs.Layout.{hour_list_size, most_loss, most_counted_gaps}
use Rattle.places.specs.Hours.{Small, HasRows, last_in, clears_last, change_often}
use Rattle.places.specs.Blocks.{BlocksSized}
use Rattle.places.specs.declared.tables.Tables.{Tables}
use Rattle.guess.specs.declared.trial.Trial.{Trial}
use Rattle.guess.specs.declared.trial.Trial.TheVariants.{Keeps, Misses}

-- The tables and columns of the search, for safe arithmetic and indexing.
pub record TablesHeld (unit_prices gap hours blocks : List ℕ) (count : ℕ) : Type 0 where
  pub price_rows : HasRows unit_prices
  pub gap_rows : HasRows gap
  pub prices_fit : Small max_price unit_prices
  pub hours_size : length hours ≡ hour_list_size
  pub last_in_prices : Small (last_in unit_prices) (clears_last hours)
  pub last_in_gaps : Small (last_in gap) (clears_last hours)
  pub change_few : change_often hours ≤ 2
  pub blocks_fit : BlocksSized blocks
  pub few : count ≤ most_blocks

-- The same of the tables as they are lent.
abbrev pub Held : Tables → Type 0
Held tables = TablesHeld tables.unit_prices.now tables.gap.now tables.hours.now tables.blocks.now tables.count

-- The most that a set loses, and so the most that a guess comes to.
abbrev pub most_guess : ℕ
most_guess = most_loss + most_counted_gaps

-- What is found of a set: it loses no more than that, or one of its blocks is to be left out.
abbrev pub Safe : Trial → Type 0
Safe (Keeps loss) = loss ≤ most_guess
Safe (Misses worst) = worst < most_blocks
