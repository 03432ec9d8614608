-- WHERE THE SEARCH'S TABLES AND LISTS HAVE WHAT: their sizes, and the place at which each column begins, as in src/layout.rt. Definitions only.
use Rattle.std.specs.Prelude.{ℕ, ◌+◌, ◌*◌, ◌^◌}
use Rattle.records.specs.Layout.{last_hour}
use Rattle.book.specs.Bounds.{most_blocks}
use Rattle.rules.specs.Orders.{max_price, most_block_quantity}

-- The hours of a day: the rows of a table, and what a column of the hours holds.
abbrev pub hour_places : ℕ
hour_places = last_hour

-- The row of hour 3, in which the clocks change.
abbrev pub change_row : ℕ
change_row = 2

-- The most that a block trades in an hour, in any edition.
abbrev pub most_quantity : ℕ
most_quantity = most_block_quantity

-- The most that all blocks trade in an hour: the last place that a set can have.
abbrev pub last_place : ℕ
last_place = most_blocks * most_quantity

-- The most that an hour's price comes to as it counts, once or twice, and the most that a block asks for over 24 such hours.
abbrev pub most_counted : ℕ
most_counted = 2 * max_price

abbrev pub most_limit : ℕ
most_limit = hour_places * most_counted

-- ROOM, for safe arithmetic: what the search lets a block trade in an hour, and a place come to. Far above what a book's blocks do, and far from the end of
-- 32 bits.
abbrev pub most_added : ℕ
most_added = 50000

abbrev pub most_place : ℕ
most_place = most_blocks * most_added

-- What all blocks lose, what the gaps of all hours come to, and what they come to as they count: each of them a number of 32 bits, one of them twice.
abbrev pub most_loss : ℕ
most_loss = most_blocks * 2 ^ 32

-- What a branch is charged: what its decided blocks lose, and what its blocks that are out would gain.
abbrev pub most_charged : ℕ
most_charged = 2 * most_loss

abbrev pub most_gaps : ℕ
most_gaps = hour_places * 2 ^ 32

abbrev pub most_counted_gaps : ℕ
most_counted_gaps = most_gaps + 2 ^ 32

-- The threshold of the last pass, 2 to the power of 39: every lawful set loses less than the two together.
abbrev pub last_limit : ℕ
last_limit = 549755813888

-- THE TABLES: what a row has beyond the places below the last that the blocks reach: that one, and the one above it.
abbrev pub last_and_above : ℕ
last_and_above = 2

-- THE HOURS: the columns first, last and turn in one list, how often hour 3 counts, and whether prices can give way.
abbrev pub last_column : ℕ
last_column = hour_places

abbrev pub turn_column : ℕ
turn_column = last_column + hour_places

abbrev pub change_place : ℕ
change_place = turn_column + hour_places

abbrev pub shifts_place : ℕ
shifts_place = change_place + 1

abbrev pub hour_list_size : ℕ
hour_list_size = shifts_place + 1

-- THE BLOCKS: ten columns in one list, from sides to ranks, then a row of 24 hours for each block.
abbrev pub side_column : ℕ
side_column = 0

abbrev pub hours_column : ℕ
hours_column = side_column + most_blocks

abbrev pub quantity_column : ℕ
quantity_column = hours_column + most_blocks

abbrev pub limit_column : ℕ
limit_column = quantity_column + most_blocks

abbrev pub against_column : ℕ
against_column = limit_column + most_blocks

abbrev pub gain_column : ℕ
gain_column = against_column + most_blocks

abbrev pub parent_column : ℕ
parent_column = gain_column + most_blocks

abbrev pub ahead_column : ℕ
ahead_column = parent_column + most_blocks

abbrev pub behind_column : ℕ
behind_column = ahead_column + most_blocks

abbrev pub rank_column : ℕ
rank_column = behind_column + most_blocks

abbrev pub rows_column : ℕ
rows_column = rank_column + most_blocks

abbrev pub block_list_size : ℕ
block_list_size = rows_column + most_blocks * hour_places
