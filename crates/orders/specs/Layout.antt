-- HOW LONG THE COLUMNS ARE, as in src/layout.rt. Definitions only. Assumes nothing.
use Rattle.std.specs.Prelude.{ℕ, ◌+◌}
use Rattle.records.specs.Layout.{last_hour}
use Rattle.book.specs.Bounds.{most_records, most_blocks}

-- The places of a column of steps: as many as a book may have records, so that every chain fits.
abbrev pub step_places : ℕ
step_places = most_records

-- The places of a column of blocks: as many as a book may have.
abbrev pub block_places : ℕ
block_places = most_blocks

-- Where the steps of each hour end: at h those of hours 1 to h, and at 0 none.
abbrev pub end_places : ℕ
end_places = last_hour + 1
