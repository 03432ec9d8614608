-- WHERE A LIST'S BYTES HAVE WHAT, and how large a list and its fields may be (document 02, P14), as in src/layout.rt. Definitions only. Assumes nothing.
use Rattle.std.specs.Prelude.{ℕ}

-- Entries have 16 bytes; entry i starts at byte 16 × i
abbrev pub entry_size : ℕ
entry_size = 16

-- The most entries of a list
abbrev pub most_entries : ℕ
most_entries = 256

-- AN ENTRY, counted from the byte where it starts
-- Bytes 0-3: the side, 0 buy, 1 sell
abbrev pub side_offset : ℕ
side_offset = 0

-- Bytes 4-7: the price
abbrev pub price_offset : ℕ
price_offset = 4

-- Bytes 8-11: the low figure of the quantity
abbrev pub low_offset : ℕ
low_offset = 8

-- Bytes 12-15: the high figure
abbrev pub high_offset : ℕ
high_offset = 12

-- The largest figure: 0 to 99,999
abbrev pub most_figure : ℕ
most_figure = 99999
