-- WHAT A CLEARING PROMISES, for every byte string and every result buffer. Definitions only. Assumes nothing.
use Rattle.std.specs.Prelude.{ℕ, ◌+◌, ◌*◌, Bool, cond, not, List, [], ◌∷◌, ◌++◌, ◌≡◌, eqb, length, Result, Ok}
use Rattle.records.specs.Records.{record_count, block_at}
use Rattle.chains.specs.Chains.{block_order}
use Rattle.book.specs.Refusals.{own_causes, first_cause}
use Rattle.book.specs.Numbers.{answered}
use Rattle.book.specs.declared.refusal.Refusal.{Refusal}
use Rattle.rules.specs.Contender.{BeatsAll}
use Rattle.rules.specs.OutcomeRules.{OutcomeRules}
use Rattle.orders.specs.Bridge.{day_from}
use Rattle.result.specs.Layout.{result_size}
use Rattle.result.specs.Result.{result_bytes, welfare_in, price_in, traded_in, row_in, step_rows_in, taken_in}

-- 7: a result buffer not of 196 + 4 × R bytes.
unfoldable pub wrong_buffer : List ℕ → List ℕ → Bool
wrong_buffer b result = not (eqb (length result) (result_size (record_count b)))

-- The number for which a clearing is refused: the book's own causes, then 7; 0, which is ours, where it is not.
unfoldable pub clear_refusal : List ℕ → List ℕ → ℕ
clear_refusal b result = first_cause (own_causes b ++ ((wrong_buffer b result, 7) ∷ []))

-- The answer: published, or refused for the first of these causes.
unfoldable pub clearing : List ℕ → List ℕ → Result (Unit {0}) Refusal
clearing b result = answered (clear_refusal b result) tt

-- What the result buffer holds afterwards: the result, or, where the clearing is refused, what it held before.
unfoldable pub result_after : List ℕ → List ℕ → List ℕ
result_after b result = cond (eqb (clear_refusal b result) 0) (result_bytes b) result

-- Each block's row is its quantity or 0: blocks are executed for their full quantity only.
abbrev pub RowsInFull : List ℕ → List ℕ → List ℕ → List Bool → Type 0
RowsInFull b result [] chosen = Unit {0}
RowsInFull b result (k ∷ l) [] = ⊥
RowsInFull b result (k ∷ l) (t ∷ chosen) = (row_in result k ≡ cond t (block_at b k).quantity 0) × RowsInFull b result l chosen

-- DEMANDS 2 AND 3, read off the bytes of a book's result.
pub record Demands (b result : List ℕ) : Type 0 where
  -- demand 2: the outcome properties, with the blocks taken where their rows hold their quantities ..
  pub obeys : OutcomeRules (day_from b) (taken_in b result) (price_in result) (traded_in result) (step_rows_in b result)
  -- .. and no block executed in part
  pub blocks_in_full : RowsInFull b result (block_order b) (taken_in b result)
  -- demand 3: the taken blocks with the rows of the steps beat every contender of the book, and the 8 bytes are their welfare
  pub best : BeatsAll (day_from b) (taken_in b result) (step_rows_in b result) (welfare_in result)

-- The promise of `clear`, of the book b, the result buffer before and after, and the answer.
pub record Promise (b before after : List ℕ) (answer : Result (Unit {0}) Refusal) : Type 0 where
  -- the answer and every byte, for accepted and refused input alike
  pub answers : answer ≡ clearing b before
  pub bytes : after ≡ result_after b before
  -- a published result meets the demands
  pub demands : answer ≡ Ok tt → Demands b after
