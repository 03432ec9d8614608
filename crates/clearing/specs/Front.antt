-- A CLEARING INTO THE FRONT OF A LARGER BUFFER. Definitions only. Assumes nothing.
use Rattle.std.specs.Prelude.{ℕ, ◌≤◌, List, ◌≡◌, length, take, Result, Err, MatchResult}
use Rattle.book.specs.Refusals.{Accepted}
use Rattle.book.specs.Answers.{reading}
use Rattle.book.specs.declared.refusal.Refusal.{Refusal}
use Rattle.result.specs.Result.{result_bytes}

-- The first bytes of the buffer, as many as are answered, are the result of an accepted book; else the answer is the book's own refusal.
abbrev pub ClearedFront : (b space : List ℕ) → Result ℕ Refusal → Type 0
ClearedFront b space answer =
    MatchResult answer (λ n. Accepted b × (n ≤ length space) × (take n space ≡ result_bytes b)) (λ why. reading b ≡ Err why)
