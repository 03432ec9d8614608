-- S5'S RESULT (document 01, "Days to check by hand", "Result: 8 bytes welfare; ..") to the byte, and results that differ from it in one byte.
-- `proofs/WorkedResultLaws.antt` proves that it is the book's result and meets the demands, and that none of the others does. Definitions only.
-- Assumes nothing.
use Rattle.std.specs.Prelude.{ℕ, zero, suc, List, [], ◌∷◌, ◌++◌}
use Rattle.orders.specs.WorkedBooks.{sell_block, base_book}

-- The base book with block number 1 at 2900: records 1 to 4 are the steps, record 5 the block.
abbrev pub s5_book : List ℕ
s5_book = base_book (sell_block 1 2900 ∷ [])

-- A list a number of times over.
abbrev pub times : ℕ → List ℕ → List ℕ
times zero l = []
times (suc n) l = l ++ times n l

-- Its result: welfare 410000; hours 1 and 2 at 3000, traded 100; 22 hours at 150000, traded 0; rows 100, 50, 100, 50 and the block's 50.
unfoldable pub s5_result : List ℕ
s5_result =
    0 ∷ 0 ∷ 0 ∷ 0 ∷ 0 ∷ 6 ∷ 65 ∷ 144 ∷ []
    ++ (times 2 (0 ∷ 0 ∷ 11 ∷ 184 ∷ 0 ∷ 0 ∷ 0 ∷ 100 ∷ [])
    ++ (times 22 (0 ∷ 2 ∷ 73 ∷ 240 ∷ 0 ∷ 0 ∷ 0 ∷ 0 ∷ [])
    ++ (times 2 (0 ∷ 0 ∷ 0 ∷ 100 ∷ 0 ∷ 0 ∷ 0 ∷ 50 ∷ []) ++ (0 ∷ 0 ∷ 0 ∷ 50 ∷ []))))

-- The result of the same book with its block left out, as in S2: welfare 400000, hours 1 and 2 at 4000, every step in full.
unfoldable pub s5_left_out : List ℕ
s5_left_out =
    0 ∷ 0 ∷ 0 ∷ 0 ∷ 0 ∷ 6 ∷ 26 ∷ 128 ∷ []
    ++ (times 2 (0 ∷ 0 ∷ 15 ∷ 160 ∷ 0 ∷ 0 ∷ 0 ∷ 100 ∷ [])
    ++ (times 22 (0 ∷ 2 ∷ 73 ∷ 240 ∷ 0 ∷ 0 ∷ 0 ∷ 0 ∷ [])
    ++ (times 4 (0 ∷ 0 ∷ 0 ∷ 100 ∷ []) ++ (0 ∷ 0 ∷ 0 ∷ 0 ∷ []))))

-- The bytes with byte `at` changed to `value`.
abbrev pub with_byte : ℕ → ℕ → List ℕ → List ℕ
with_byte at value [] = []
with_byte zero value (x ∷ l) = value ∷ l
with_byte (suc at) value (x ∷ l) = x ∷ with_byte at value l
