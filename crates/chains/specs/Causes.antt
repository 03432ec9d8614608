-- The causes for which a book is refused that are looked for along its chains: 3, 4 and 5 in the words of document 01, "Refused books and calls", 9 and 10 in
-- those of document 02; by whom a chain's records are, for 6, and how many steps a portfolio has in an hour, for 11. Assumes nothing.
use Rattle.std.specs.Prelude.{ℕ, List, [], ◌∷◌, Bool, false, not, ◌&&◌, ◌||◌, eqb, leb, ltb}
use Rattle.rules.specs.Day.{spring_hours, is_counted}
use Rattle.records.specs.Records.{record_count, day_hours, kind, number, hour_byte, portfolio, record_at}
use Rattle.records.specs.declared.Link.{Link}
use Rattle.records.specs.declared.Record.{Record}
use Rattle.records.specs.declared.Record.TheVariants as record_of
use Rattle.fields.specs.Bounds.{fewest_hours}
use Rattle.fields.specs.Hours.{counted_hours}
use Rattle.fields.specs.Tests.{some_below, some_in, count_in}
use Rattle.fields.specs.Ranges.{out_of_range}
use Rattle.chains.specs.Bounds.{portfolio_numbers, hour_numbers}
use Rattle.chains.specs.Chains.{chains, kind_on, numbered, chain_of, is_on, block_order, links}
use Rattle.chains.specs.declared.Chain.{Chain}
use Rattle.chains.specs.declared.Chain.TheVariants as chain-of

-- 3, at record i of a chain, after the number `last`: an index of R or more, a kind not the chain's, or, if numbers must rise, one that does not
unfoldable pub misplaced : List ℕ → Chain → ℕ → ℕ → Bool
misplaced b c last i = leb (record_count b) i || not (eqb (kind b i) (kind_on c)) || (numbered c && leb (number b i) last)

-- 3, along records of a chain, after the number `last` (0 before the first): some record is misplaced
unfoldable pub broken : List ℕ → Chain → ℕ → List ℕ → Bool
broken b c last [] = false
broken b c last (i ∷ l) = misplaced b c last i || broken b c (number b i) l

-- 3, along a whole chain
unfoldable pub broken_on : List ℕ → Chain → Bool
broken_on b c = broken b c 0 (chain_of b c)

-- 3, on a chain: an index of R or more, a kind not the chain's, or a number that does not rise (a first one of 0 included)
unfoldable pub broken_chain : List ℕ → Bool
broken_chain b = some_in chains (broken_on b)

-- 4, along a chain: some record has a field outside its range
unfoldable pub wrong_field_on : List ℕ → Chain → Bool
wrong_field_on b c = some_in (chain_of b c) (out_of_range b)

-- 4, on a chain: any other field outside its range
unfoldable pub wrong_field : List ℕ → Bool
wrong_field b = some_in chains (wrong_field_on b)

-- Record i is not the head, and on no chain
unfoldable pub stray : List ℕ → ℕ → Bool
stray b i = leb 1 i && not (some_in chains (is_on b i))

-- 5: a record on no chain, so some index from 1 to R − 1
unfoldable pub stray_record : List ℕ → Bool
stray_record b = some_below (record_count b) (stray b)

-- Record i is of portfolio p
unfoldable pub owned_by : List ℕ → ℕ → ℕ → Bool
owned_by b p i = eqb (portfolio b i) p

-- 9, at a record: a step for an hour that does not count, or a block with fewer than two counted hours
unfoldable pub uncounted : List ℕ → Record → Bool
uncounted b (record_of.Step s) = not (is_counted (day_hours b) s.hour)
uncounted b (record_of.Block s) = ltb (counted_hours (day_hours b) s.hours) fewest_hours
uncounted b (record_of.Link l) = false
uncounted b record_of.Other = false

-- 9, along a chain: some record is such a one
unfoldable pub uncounted_on : List ℕ → Chain → Bool
uncounted_on b c = some_in (chain_of b c) (λ i. uncounted b (record_at b i))

-- 9: a step for hour 3 or a block with fewer than two counted hours on a 23-hour day
unfoldable pub wrong_hours : List ℕ → Bool
wrong_hours b = eqb (day_hours b) spring_hours && some_in chains (uncounted_on b)

-- Record i has the number n
unfoldable pub is_number : List ℕ → ℕ → ℕ → Bool
is_number b n i = eqb (number b i) n

-- A block of the book has the number n
unfoldable pub has_block : List ℕ → ℕ → Bool
has_block b n = some_in (block_order b) (is_number b n)

-- 10, of a link: it names a block not in the book (a parent of 0 included: no block has that number), or its parent's number is not below its child's
unfoldable pub misnamed : List ℕ → Link → Bool
misnamed b l = not (has_block b l.child) || not (has_block b l.parent) || leb l.child l.parent

-- 10: some link is such a one
unfoldable pub wrong_link : List ℕ → Bool
wrong_link b = some_in (links b) (misnamed b)

-- Record i is for hour h, of portfolio p
unfoldable pub is_for : List ℕ → (h p i : ℕ) → Bool
is_for b h p i = eqb (hour_byte b i) h && owned_by b p i

-- How many steps portfolio p has in hour h, both sides together
unfoldable pub steps_for : List ℕ → (h p : ℕ) → ℕ
steps_for b h p = count_in (chain_of b chain-of.Steps) (is_for b h p)

-- Some portfolio has more than so many steps in hour h
unfoldable pub more_steps_in : ℕ → List ℕ → ℕ → Bool
more_steps_in most b h = some_below portfolio_numbers (λ p. ltb most (steps_for b h p))

-- Some portfolio has more than so many steps in one hour
unfoldable pub more_steps : ℕ → List ℕ → Bool
more_steps most b = some_below hour_numbers (more_steps_in most b)
