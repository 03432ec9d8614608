-- WHERE A RESULT'S BYTES HAVE WHAT (document 01, "Result: 8 bytes welfare; .."), as in src/layout.rt. Definitions only. Assumes nothing.
use Rattle.std.specs.Prelude.{ℕ, ◌+◌, ◌-◌, ◌*◌}
use Rattle.records.specs.Layout.{last_hour}

-- Bytes 0-7: the welfare, its higher half first
abbrev pub welfare_size : ℕ
welfare_size = 8

abbrev pub half : ℕ
half = 4

-- The row of an hour: 4 bytes price, then 4 bytes traded quantity; as many bytes as the welfare, so hour h stands at byte 8 × h
abbrev pub hour_row_size : ℕ
hour_row_size = 8

abbrev pub traded_offset : ℕ
traded_offset = 4

-- The row of a record: 4 bytes executed quantity
abbrev pub record_row_size : ℕ
record_row_size = 4

-- Record k stands at this byte, 196, and 4 × k: the head, record 0, has no row
abbrev pub record_rows_offset : ℕ
record_rows_offset = welfare_size + last_hour * hour_row_size - record_row_size

-- The size of the result of a book of so many records, the head's among them: 196 + 4 × R
abbrev pub result_size : ℕ → ℕ
result_size count = record_rows_offset + record_row_size * count
