-- HOW LARGE A BOOK MAY BE, AND ITS EDITIONS (document 01, "The book in bytes" and "Refused books and calls"), as in src/bounds.rt; a record's fields have
-- theirs in crate `fields`, the limits of an edition stand in the rules, Orders, the hours of a day in Day. Definitions only. Assumes nothing.
use Rattle.std.specs.Prelude.{ℕ}

-- The most records of a book, head included: R is 1 to 2,048
abbrev pub most_records : ℕ
most_records = 2048

-- The editions that there are, in the head: 1 to 4
abbrev pub first_edition : ℕ
first_edition = 1

abbrev pub last_edition : ℕ
last_edition = 4

-- The first edition with links
abbrev pub first_link_edition : ℕ
first_link_edition = 3

-- The first edition with a limit on steps
abbrev pub first_step_limit_edition : ℕ
first_step_limit_edition = 4

-- The most blocks of a book: 32
abbrev pub most_blocks : ℕ
most_blocks = 32
