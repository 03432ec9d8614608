-- The causes for which a book is refused, 1 to 6 in the words of document 01, "Refused books and calls", 9 to 11 in those of document 02, and the first of
-- them that holds. Those that are looked for along the chains, 3, 4, 5, 9 and 10, are defined in crate `chains`, specs/Causes.antt.
-- The causes of a call (7 a result buffer, 8 an hour or a set) belong to the calls; they are looked for after these. Assumes nothing.
use Rattle.std.specs.Prelude.{ℕ, ◌*◌, ◌≡◌, List, [], ◌∷◌, Bool, false, cond, not, ◌&&◌, ◌||◌, eqb, leb, ltb, length}
use Rattle.rules.specs.Orders.{limits}
use Rattle.rules.specs.Day.{spring_hours, autumn_hours}
use Rattle.records.specs.Bytes.{nonzero}
use Rattle.records.specs.Layout.{record_size, head_rest_offset, head_rest_size}
use Rattle.records.specs.Records.{record_count, first_link, day_hours, edition}
use Rattle.fields.specs.Tests.{within, some_below, count_in}
use Rattle.chains.specs.Bounds.{portfolio_numbers, most_steps_in_hour}
use Rattle.chains.specs.Chains.{chain_of, count_on}
use Rattle.chains.specs.Causes.{broken_chain, wrong_field, stray_record, owned_by, wrong_hours, wrong_link, more_steps}
use Rattle.chains.specs.declared.Chain.TheVariants as chain-of
use Rattle.book.specs.Bounds.{most_records, first_edition, last_edition, first_link_edition, first_step_limit_edition, most_blocks}

-- 1: length not 16 × R, below 16 bytes, or R outside 1 to 2,048
unfoldable pub wrong_size : List ℕ → Bool
wrong_size b = not (eqb (length b) (record_size * record_count b)) || ltb (length b) record_size || not (within 1 (record_count b) most_records)

-- Bytes 8-9 of the head are not 0 in an edition without links
unfoldable pub links_too_early : List ℕ → Bool
links_too_early b = ltb (edition b) first_link_edition && not (eqb (first_link b) 0)

-- 2, the head: hours not 23, 24 or 25, an edition that there is not, bytes 8-9 not 0 in an edition without links, or bytes 10-15 not all 0
unfoldable pub wrong_head : List ℕ → Bool
wrong_head b =
    not (within spring_hours (day_hours b) autumn_hours) || not (within first_edition (edition b) last_edition) || links_too_early b
    || nonzero b head_rest_offset head_rest_size

-- Portfolio p has more blocks than the limit
unfoldable pub too_many_of : List ℕ → ℕ → Bool
too_many_of b p = ltb (limits (edition b)).blocks_of_portfolio (count_in (chain_of b chain-of.Blocks) (owned_by b p))

-- 6: more than 32 blocks, or more than the limit of one portfolio
unfoldable pub too_many_blocks : List ℕ → Bool
too_many_blocks b = ltb most_blocks (count_on b chain-of.Blocks) || some_below portfolio_numbers (too_many_of b)

-- 11: more than 256 steps of a portfolio in one hour, in an edition with this limit
unfoldable pub too_many_steps : List ℕ → Bool
too_many_steps b = leb first_step_limit_edition (edition b) && more_steps most_steps_in_hour b

-- The number of the first cause of a list that holds; 0 where none does
unfoldable pub first_cause : List (Bool × ℕ) → ℕ
first_cause [] = 0
first_cause (cause ∷ l) = cond cause.0 cause.1 (first_cause l)

-- A book's own causes with their numbers, in the order in which they are looked for
unfoldable pub own_causes : List ℕ → List (Bool × ℕ)
own_causes b =
    (wrong_size b, 1)
    ∷ (wrong_head b, 2)
    ∷ (broken_chain b, 3)
    ∷ (wrong_field b, 4)
    ∷ (stray_record b, 5)
    ∷ (too_many_blocks b, 6)
    ∷ (wrong_hours b, 9)
    ∷ (wrong_link b, 10)
    ∷ (too_many_steps b, 11)
    ∷ []

-- The number for which a book by itself is refused; 0, which is ours, where it is accepted
unfoldable pub refusal : List ℕ → ℕ
refusal b = first_cause (own_causes b)

-- A book is accepted when none of its own causes holds
pub record Accepted (b : List ℕ) : Type 0 where
  pub right_size : wrong_size b ≡ false
  pub right_head : wrong_head b ≡ false
  pub unbroken : broken_chain b ≡ false
  pub in_range : wrong_field b ≡ false
  pub no_stray : stray_record b ≡ false
  pub not_too_many : too_many_blocks b ≡ false
  pub right_hours : wrong_hours b ≡ false
  pub right_links : wrong_link b ≡ false
  pub not_too_many_steps : too_many_steps b ≡ false
