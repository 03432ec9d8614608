-- ANSWERS AS NUMBERS AND BYTES, for callers that take nothing else. Definitions only. Assumes nothing.
use Rattle.std.specs.Prelude.{ℕ, cond, List, eqb, leb, length, Option, Some, None, Result, Ok, Err}
use Rattle.text.specs.Buffer.{splice}
use Rattle.book.specs.Numbers.{refusal_number}
use Rattle.book.specs.declared.refusal.Refusal.{Refusal}
use Rattle.pricing.specs.declared.HourPrice.{HourPrice}
use Rattle.range.specs.declared.PriceRange.{PriceRange}

-- What part 0 says of an hour that does not clear: ours, and no refusal, since those are bytes.
abbrev pub not_clearing : ℕ
not_clearing = 256

-- Part 0 says which answer it is: 0 cleared, 256 not clearing, else the refusal's number. Parts 1 to 3 are L, H and the price where the hour cleared.
unfoldable pub answer_part : Result (Option HourPrice) Refusal → ℕ → ℕ
answer_part (Ok (Some found)) part = cond (eqb part 1) found.low (cond (eqb part 2) found.high (cond (eqb part 3) found.price 0))
answer_part (Ok None) part = cond (eqb part 0) not_clearing 0
answer_part (Err why) part = cond (eqb part 0) (refusal_number why) 0

-- Part 0 says which answer it is: 0 where there are prices, else the refusal's number. Parts 1 and 2 are the least price and the greatest.
unfoldable pub range_part : Result PriceRange Refusal → ℕ → ℕ
range_part (Ok found) part = cond (eqb part 1) found.least (cond (eqb part 2) found.greatest 0)
range_part (Err why) part = cond (eqb part 0) (refusal_number why) 0

-- A buffer after bytes were put at its start: with them where they have room, else as it was.
unfoldable pub buffer_after : List ℕ → List ℕ → List ℕ
buffer_after bytes buffer = cond (leb (length bytes) (length buffer)) (splice buffer 0 bytes) buffer
