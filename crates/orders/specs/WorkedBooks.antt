-- THE WORKED DAYS S1 TO S10 AS BOOKS (document 01, "Days to check by hand", "The book in bytes"), those of 23 and 25 hours, with links, and with
-- prices that can give way: each day of the rules' tables written out in bytes.
-- The numbers and portfolios of the base book are decision 23's. `proofs/WorkedBookLaws.antt` proves the whole table. Definitions only. Assumes nothing.
use Rattle.std.specs.Prelude.{ℕ, suc, ◌+◌, ◌/◌, ◌%◌, ◌≡◌, List, [], ◌∷◌, ◌++◌, length, replicate}
use Rattle.records.specs.Layout.{step_kind, block_kind, link_kind, head_rest_size, link_rest_size}
use Rattle.book.specs.Bounds.{first_edition, first_link_edition}
use Rattle.rules.specs.Day.{normal_hours, spring_hours, autumn_hours, first_shift_edition}
use Rattle.book.specs.Refusals.{refusal}
use Rattle.rules.specs.Outcome.{published}
use Rattle.rules.specs.WorkedDays.{WorkedDay, Answered}
use Rattle.orders.specs.Bridge.{orders_of}

-- WRITING
-- A number in 2, 3 and 4 bytes, high byte first.
abbrev pub two : ℕ → List ℕ
two n = n / 256 % 256 ∷ n % 256 ∷ []

abbrev pub three : ℕ → List ℕ
three n = n / 65536 % 256 ∷ two n

abbrev pub four : ℕ → List ℕ
four n = n / 16777216 % 256 ∷ three n

-- A step's record, a block's and a link's, each up to the index of the record that follows it on its chain.
abbrev pub step_record : (number side hour portfolio quantity price : ℕ) → ℕ → List ℕ
step_record number side hour portfolio quantity price next =
    step_kind ∷ side ∷ two next ++ two number ++ hour ∷ portfolio ∷ four price ++ four quantity

abbrev pub block_record : (number side portfolio hours quantity price : ℕ) → ℕ → List ℕ
block_record number side portfolio hours quantity price next =
    block_kind ∷ side ∷ two next ++ two number ++ 0 ∷ portfolio ∷ three hours ++ three price ++ two quantity

abbrev pub link_record : (child parent : ℕ) → ℕ → List ℕ
link_record child parent next = link_kind ∷ 0 ∷ two next ++ two child ++ two parent ++ replicate link_rest_size 0

-- The records of a chain, the first at index k and each followed by the next; the last is followed by none.
unfoldable pub chained : ℕ → List (ℕ → List ℕ) → List ℕ
chained k [] = []
chained k (r ∷ []) = r 0
chained k (r ∷ (s ∷ l)) = r (suc k) ++ chained (suc k) (s ∷ l)

-- The index of a chain's first record, if it has one, where that is k.
abbrev pub first_at : ℕ → List (ℕ → List ℕ) → ℕ
first_at k [] = 0
first_at k (r ∷ l) = k

-- A book of an edition, of a day of so many hours: the head, the steps from record 1 on, the blocks after them, then the links.
unfoldable pub book_with : (edition hours : ℕ) (steps blocks links : List (ℕ → List ℕ)) → List ℕ
book_with edition hours steps blocks links =
    two (1 + length steps + length blocks + length links) ++ two (first_at 1 steps) ++ two (first_at (1 + length steps) blocks) ++ hours ∷ edition
    ∷ two (first_at (1 + length steps + length blocks) links) ++ replicate head_rest_size 0
    ++ chained 1 steps ++ chained (1 + length steps) blocks ++ chained (1 + length steps + length blocks) links

-- A book of a day of so many hours, without links.
abbrev pub book_on : ℕ → List (ℕ → List ℕ) → List (ℕ → List ℕ) → List ℕ
book_on hours steps blocks = book_with first_edition hours steps blocks []

-- A book of a day of 24.
abbrev pub book_of : List (ℕ → List ℕ) → List (ℕ → List ℕ) → List ℕ
book_of = book_on normal_hours

-- THE BOOKS
-- A step of portfolio 1, which buys, and of portfolio 2, which sells: number, hour, quantity, price.
abbrev pub buy_step : ℕ → ℕ → ℕ → ℕ → ℕ → List ℕ
buy_step number hour = step_record number 0 hour 1

abbrev pub sell_step : ℕ → ℕ → ℕ → ℕ → ℕ → List ℕ
sell_step number hour = step_record number 1 hour 2

-- A sell block of portfolio 3, of 50 over hours 1 and 2 (bits 3): number, price.
abbrev pub sell_block : ℕ → ℕ → ℕ → List ℕ
sell_block number = block_record number 1 3 3 50

-- The steps of the base book, and that book with blocks.
abbrev pub base_steps : List (ℕ → List ℕ)
base_steps = buy_step 1 1 100 5000 ∷ sell_step 2 1 100 3000 ∷ buy_step 3 2 100 5000 ∷ sell_step 4 2 100 3000 ∷ []

abbrev pub base_book : List (ℕ → List ℕ) → List ℕ
base_book = book_of base_steps

-- The base book in edition 3 with blocks and links.
abbrev pub linked_book : (blocks links : List (ℕ → List ℕ)) → List ℕ
linked_book = book_with first_link_edition normal_hours base_steps

-- Blocks 1, 2, 4 and 5: block 4 the child of block 2, and block 5 of block 4.
unfoldable pub family_book : List ℕ
family_book =
    linked_book (sell_block 1 2900 ∷ sell_block 2 2900 ∷ sell_block 4 2900 ∷ sell_block 5 2900 ∷ []) (link_record 4 2 ∷ link_record 5 4 ∷ [])

-- The books of S1 to S10, in the order of the rules' table.
unfoldable pub worked_books : List (List ℕ)
worked_books =
    base_book []
    ∷ base_book (sell_block 1 3900 ∷ [])
    ∷ base_book (sell_block 1 3000 ∷ [])
    ∷ base_book (sell_block 1 3001 ∷ [])
    ∷ base_book (sell_block 1 2900 ∷ [])
    ∷ base_book (sell_block 1 2900 ∷ sell_block 2 2900 ∷ [])
    ∷ book_of (buy_step 1 1 10 4001 ∷ sell_step 2 1 10 3000 ∷ []) []
    ∷ book_of (buy_step 1 1 100 300000 ∷ sell_step 2 1 60 2000 ∷ []) []
    ∷ book_of (sell_step 1 1 100 1 ∷ []) []
    ∷ book_of (sell_step 1 1 60 3000 ∷ sell_step 2 1 60 3000 ∷ buy_step 3 1 100 5000 ∷ []) []
    ∷ []

-- A sell block of 50 of portfolio 3: hours as bits, price.
abbrev pub sell_block_over : ℕ → ℕ → ℕ → List ℕ
sell_block_over hours = block_record 1 1 3 hours 50

-- A book of a day of 25 hours with 50 or 100 to sell in hour 2: its block over hours 2 and 3 (bits 6).
abbrev pub autumn_book : (soldFirst limit : ℕ) → List ℕ
autumn_book soldFirst limit =
    book_on autumn_hours (buy_step 1 2 100 5000 ∷ sell_step 2 2 soldFirst 3000 ∷ buy_step 3 3 100 5000 ∷ sell_step 4 3 100 3000 ∷ [])
    (sell_block_over 6 limit ∷ [])

-- The books of the days of 23 and 25 hours, in the order of the rules' table; on 23 hours the block runs over hours 2, 3 and 4 (bits 14).
unfoldable pub change_books : List (List ℕ)
change_books =
    autumn_book 100 2900
    ∷ book_on spring_hours (buy_step 1 2 100 5000 ∷ sell_step 2 2 100 3000 ∷ buy_step 3 4 100 5000 ∷ sell_step 4 4 100 3000 ∷ []) (sell_block_over 14 2900 ∷ [])
    ∷ autumn_book 50 3333
    ∷ autumn_book 50 3334
    ∷ []

-- A buy block like the sell block above, and a sell block of half its quantity.
abbrev pub buy_block : ℕ → ℕ → ℕ → List ℕ
buy_block number = block_record number 0 3 3 50

abbrev pub half_block : ℕ → ℕ → ℕ → List ℕ
half_block number = block_record number 1 3 3 25

-- The books of the days with linked blocks, in the order of the rules' table: two blocks over hours 1 and 2 (bits 3), block 2 the child of block 1.
abbrev pub pair_book : (parent child : ℕ → List ℕ) → List ℕ
pair_book parent child = linked_book (parent ∷ child ∷ []) (link_record 2 1 ∷ [])

unfoldable pub linked_books : List (List ℕ)
linked_books =
    pair_book (sell_block 1 3500) (buy_block 2 4500)
    ∷ pair_book (sell_block 1 3500) (buy_block 2 3900)
    ∷ pair_book (sell_block 1 4500) (sell_block 2 2900)
    ∷ pair_book (half_block 1 3000) (half_block 2 3000)
    ∷ pair_book (half_block 1 3001) (half_block 2 3000)
    ∷ []

-- A sell block and a buy block alone, of 50 each over the same hours, given as bits: edition, the day's hours, the two prices.
abbrev pub two_block_book : (edition hours bits sells buys : ℕ) → List ℕ
two_block_book edition hours bits sells buys =
    book_with edition hours [] (block_record 1 1 3 bits 50 sells ∷ block_record 2 0 3 bits 50 buys ∷ []) []

-- The books of the days whose prices can give way, in the order of the rules' table.
unfoldable pub shifted_books : List (List ℕ)
shifted_books =
    two_block_book first_shift_edition normal_hours 3 3000 5000
    ∷ two_block_book first_link_edition normal_hours 3 3000 5000
    ∷ two_block_book first_shift_edition normal_hours 3 295000 299000
    ∷ two_block_book first_shift_edition normal_hours 3 149000 151000
    ∷ two_block_book first_shift_edition normal_hours 3 5000 3000
    ∷ two_block_book first_shift_edition spring_hours 14 3000 5000
    ∷ book_with first_shift_edition normal_hours
    (buy_step 1 1 150 5000 ∷ sell_step 2 1 100 3000 ∷ buy_step 3 2 150 5000 ∷ sell_step 4 2 100 3000 ∷ []) (sell_block 1 4500 ∷ []) []
    ∷ []

-- A book is accepted, all that is published of it is what a worked day says, and so are the prices told of it.
pub record Worked (b : List ℕ) (d : WorkedDay) : Type 0 where
  pub accepted : refusal b ≡ 0
  pub publishes : published (orders_of b) ≡ d.publishes
  pub answers : Answered (orders_of b) d.prices

-- So of each book and each day of two lists of the same length.
abbrev pub EachWorked : List (List ℕ) → List WorkedDay → Type 0
EachWorked [] [] = Unit {0}
EachWorked [] (d ∷ days) = ⊥
EachWorked (b ∷ books) [] = ⊥
EachWorked (b ∷ books) (d ∷ days) = Worked b d × EachWorked books days
