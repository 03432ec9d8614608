-- WHERE A BOOK'S BYTES HAVE WHAT (document 01, "The book in bytes"): the size of a record, the places of the head's fields and of a record's, the kinds,
-- as in src/layout.rt. Definitions only. Assumes nothing.
use Rattle.std.specs.Prelude.{ℕ}

-- Records have 16 bytes; record k starts at byte 16 × k
abbrev pub record_size : ℕ
record_size = 16

-- THE HEAD, record 0
-- Bytes 0 and 1: the record count R, head included
abbrev pub count_offset : ℕ
count_offset = 0

-- Bytes 2-3: the first step
abbrev pub first_step_offset : ℕ
first_step_offset = 2

-- Bytes 4-5: the first block
abbrev pub first_block_offset : ℕ
first_block_offset = 4

-- Byte 6: the day's hours
abbrev pub day_hours_offset : ℕ
day_hours_offset = 6

-- Byte 7: the edition
abbrev pub edition_offset : ℕ
edition_offset = 7

-- Bytes 8-9: the first link; 0 in an edition without links
abbrev pub first_link_offset : ℕ
first_link_offset = 8

-- Bytes 10-15: 0
abbrev pub head_rest_offset : ℕ
head_rest_offset = 10

abbrev pub head_rest_size : ℕ
head_rest_size = 6

-- A RECORD, counted from the byte where it starts, its kind
-- The kind of a step
abbrev pub step_kind : ℕ
step_kind = 1

-- The kind of a block
abbrev pub block_kind : ℕ
block_kind = 2

-- The kind of a link
abbrev pub link_kind : ℕ
link_kind = 3

-- Byte 1: the side, 0 buy, 1 sell; 0 in a link
abbrev pub side_offset : ℕ
side_offset = 1

-- The largest number of a side
abbrev pub last_side : ℕ
last_side = 1

-- Bytes 2-3: the index of the following record
abbrev pub next_offset : ℕ
next_offset = 2

-- Bytes 4-5: the order number; in a link the child's block number
abbrev pub number_offset : ℕ
number_offset = 4

-- Byte 6: a step's hour; 0 in a block
abbrev pub hour_offset : ℕ
hour_offset = 6

-- Byte 7: the portfolio
abbrev pub portfolio_offset : ℕ
portfolio_offset = 7

-- A step, bytes 8-11: the price
abbrev pub step_price_offset : ℕ
step_price_offset = 8

-- A step, bytes 12-15: the quantity
abbrev pub step_quantity_offset : ℕ
step_quantity_offset = 12

-- A block, bytes 8-10: the hours
abbrev pub block_hours_offset : ℕ
block_hours_offset = 8

-- A block, bytes 11-13: the price
abbrev pub block_price_offset : ℕ
block_price_offset = 11

-- A block, bytes 14-15: the quantity
abbrev pub block_quantity_offset : ℕ
block_quantity_offset = 14

-- A link, bytes 6-7: the parent's block number
abbrev pub parent_offset : ℕ
parent_offset = 6

-- A link, bytes 8-15: 0
abbrev pub link_rest_offset : ℕ
link_rest_offset = 8

abbrev pub link_rest_size : ℕ
link_rest_size = 8

-- The last hour of a day: a step's hour is 1 to 24, and the hours of a block are 24 bits
abbrev pub last_hour : ℕ
last_hour = 24
