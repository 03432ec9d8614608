-- WHAT A CLEARING WORKS ON: an accepted book with its columns and a buffer for its result, and the rows of the two pairs of tables. Definitions only.
-- Assumes nothing.
use Rattle.std.specs.Prelude.{ℕ, List, ◌≡◌, length}
use Rattle.records.specs.Records.{record_count}
use Rattle.book.specs.Refusals.{Accepted}
use Rattle.orders.specs.declared.Steps.{Steps}
use Rattle.orders.specs.declared.Blocks.{Blocks}
use Rattle.result.specs.Layout.{result_size}
use Rattle.clearing.specs.Publish.{StepsOf, BlocksOf}

-- The places of a row of the small tables, and of the large ones, as in src/lib.rt.
abbrev pub small_row : ℕ
small_row = 1602

abbrev pub large_row : ℕ
large_row = 8002

-- A book is accepted, these are its steps and blocks, and the buffer has the size of its result.
pub record Held (b : List ℕ) (steps : Steps) (blocks : Blocks) (result : List ℕ) : Type 0 where
  pub accepted : Accepted b
  pub steps_are : StepsOf b steps
  pub blocks_are : BlocksOf b blocks
  pub buffer : length result ≡ result_size (record_count b)
