-- WHAT PRICING AN HOUR ANSWERS (it clears at a price, it does not clear, or the call is refused), for every byte string, set and hour. Definitions only.
-- Assumes nothing.
use Rattle.std.specs.Prelude.{ℕ, ◌+◌, ◌^◌, ◌<◌, List, [], ◌∷◌, ◌++◌, Bool, not, ◌&&◌, ◌||◌, ◌≡◌, leb, length, Option, Some, None, Result}
use Rattle.records.specs.Layout.{last_hour}
use Rattle.records.specs.Records.{day_hours}
use Rattle.fields.specs.Tests.{within}
use Rattle.chains.specs.Chains.{block_order}
use Rattle.book.specs.Refusals.{own_causes, first_cause}
use Rattle.rules.specs.Hour.{Pricing, cleared, does_not_clear, pricing}
use Rattle.rules.specs.Orders.{Block}
use Rattle.rules.specs.Day.{is_counted, taken, decisions, over_blocks, sells, buys, hour_of}
use Rattle.rules.specs.Contender.{PricesInRange}
use Rattle.orders.specs.Bridge.{day_from}
use Rattle.orders.specs.Columns.{steps_from}
use Rattle.pricing.specs.Curves.{bias, hour_with}
use Rattle.book.specs.Numbers.{answered}
use Rattle.book.specs.declared.refusal.Refusal.{Refusal}
use Rattle.pricing.specs.declared.HourPrice.{HourPrice}

-- The answer for what the rules say of an hour: none where it does not clear.
abbrev pub answer_for : Pricing → Option HourPrice
answer_for (cleared low high price) = Some (record { low = low; high = high; price = price })
answer_for does_not_clear = None

-- A day of so many hours has hour h: it is from 1 to 24, and counts.
unfoldable pub has_hour : ℕ → ℕ → Bool
has_hour hours h = within 1 h last_hour && is_counted hours h

-- 8: an hour that the day has not, or a set that names a block position not there.
unfoldable pub wrong_call : List ℕ → ℕ → ℕ → Bool
wrong_call b set hour = not (has_hour (day_hours b) hour) || leb (2 ^ length (block_order b)) set

-- The causes of a pricing call in the order in which they are looked for: the book's own, then 8.
unfoldable pub price_causes : List ℕ → ℕ → ℕ → List (Bool × ℕ)
price_causes b set hour = own_causes b ++ ((wrong_call b set hour, 8) ∷ [])

-- The hour of the book's day under the set, the lowest bit for the first block. Its price is the middle one in every edition, whatever shift the set has.
unfoldable pub hour_answered : List ℕ → ℕ → ℕ → Pricing
hour_answered b set hour =
    pricing (hour_of (day_from b) (taken (day_from b).blocks (decisions (length (day_from b).blocks) set)) hour)

-- The answer of a pricing call.
unfoldable pub hour_answer : List ℕ → ℕ → ℕ → Result (Option HourPrice) Refusal
hour_answer b set hour = answered (first_cause (price_causes b set hour)) (answer_for (hour_answered b set hour))

-- The answer for columns and N is the rules' answer for their hour, whichever hour it is, where its prices are in range.
abbrev pub AnswerOf : List ℕ → List ℕ → List ℕ → ℕ → Option HourPrice → Type 0
AnswerOf sides prices quantities n r =
    (h : ℕ) → PricesInRange (steps_from h sides prices quantities) → r ≡ answer_for (pricing (hour_with h sides prices quantities n))

-- The blocks of the book that a set of bits holds.
abbrev pub blocks_of : List ℕ → ℕ → List Block
blocks_of b set = taken (day_from b).blocks (decisions (length (day_from b).blocks) set)

-- A set of the book's blocks: 32 bits, none past the last block.
abbrev pub SetOf : List ℕ → ℕ → Type 0
SetOf b set = set < 2 ^ length (block_order b)

-- Two sets have the same N in an hour: block sales less block purchases, each purchase written on the other side.
abbrev pub SameNet : List ℕ → (hour one other : ℕ) → Type 0
SameNet b hour one other =
    over_blocks (sells hour) (blocks_of b one) + over_blocks (buys hour) (blocks_of b other)
    ≡ over_blocks (sells hour) (blocks_of b other) + over_blocks (buys hour) (blocks_of b one)

-- N of an hour under a set, held with the bias.
abbrev pub NetOf : List ℕ → ℕ → ℕ → ℕ → Type 0
NetOf b set hour n = n + over_blocks (buys hour) (blocks_of b set) ≡ bias + over_blocks (sells hour) (blocks_of b set)
