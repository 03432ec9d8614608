-- What reading a book answers. Assumes nothing.
use Rattle.std.specs.Prelude.{ℕ, List, length, Result}
use Rattle.chains.specs.Chains.{step_order, block_order}
use Rattle.book.specs.Refusals.{refusal}
use Rattle.book.specs.Numbers.{answered}
use Rattle.book.specs.declared.Counted.{Counted}
use Rattle.book.specs.declared.refusal.Refusal.{Refusal}

-- The number of a book's steps and of its blocks
abbrev pub counted : List ℕ → Counted
counted b = record { steps = length (step_order b); blocks = length (block_order b) }

-- The answer: accepted with the number of its steps and of its blocks, or refused with the first of its own causes
unfoldable pub reading : List ℕ → Result Counted Refusal
reading b = answered (refusal b) (counted b)
