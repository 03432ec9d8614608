-- THE FRONT OF A LARGER BUFFER: where it has the size of a result of as many records as a book may have, the clearing tells the book's own refusal, and the
-- front is the result. Assumes nothing.
use Prim.Native.Nat.{ℕ, ◌+◌, ◌*◌, ◌≤◌}
use mathlib.Core.Path.{◌≡◌, refl, sym, ◌∙◌}
use mathlib.Core.List.{List, ◌++◌}
use native.Mathlib.Omega.{arith}
use lib.ListN.{length, take, drop, length-append}
use lib.Seq.{length-take-le, take_at}
use Rattle.std.specs.Prelude.{Result, Ok, Err}
use Rattle.records.specs.Records.{record_count}
use Rattle.rules.proofs.Tests.{by-eq}
use Rattle.book.specs.Refusals.{Accepted, refusal}
use Rattle.book.specs.Numbers.{answered}
use Rattle.book.specs.Answers.{counted, reading}
use Rattle.book.specs.declared.refusal.Refusal.{Refusal}
use Rattle.book.proofs.Refused.{answer-none, answer-some, answered_some}
use Rattle.book.proofs.Accepted.{accepted, record-count}
use Rattle.result.specs.Result.{result_bytes}
use Rattle.result.specs.Promise.{clear_refusal, clearing, result_after, Promise}
use Rattle.result.proofs.PromiseLaws.{not-refused, refused-book, result-length}

-- the clearing's refusal is the book's own, where the buffer has the right size for an accepted book
refusal-told : (b before : List ℕ) → (Accepted b → length before ≡ 196 + 4 * record_count b) → clear_refusal b before ≡ refusal b
refusal-told b before fits =
    by-eq (λ t. clear_refusal b before ≡ refusal b) (refusal b) 0 (λ e. let a = accepted b e in not-refused b before a (fits a) ∙ sym e)
    (λ e. refused-book b before (refusal b) refl e)

module _ (b space : List ℕ) (count : ℕ) (few : count ≤ 2048) (counts : record_count b ≤ 2048 → count ≡ record_count b) (large : 8388 ≤ length space) where
  pub space-fits : 196 + 4 * count ≤ length space
  space-fits = omega arith

  pub space-length : 196 + 4 * count ≡ length (take (196 + 4 * count) space)
  space-length = sym (length-take-le (196 + 4 * count) space space-fits)

  same-refusal : clear_refusal b (take (196 + 4 * count) space) ≡ refusal b
  same-refusal = refusal-told b (take (196 + 4 * count) space) (λ a. sym space-length ∙ rw (counts (record-count b a).1))

  -- a refusal is the book's own
  pub front-refused : (after : List ℕ) (why : Refusal) → Promise b (take (196 + 4 * count) space) after (Err why) → reading b ≡ Err why
  unfolding clearing reading
  front-refused after why promise =
      let refused = answer-some _ _ why (sym promise.answers) in
      let other : refusal b ≡ 0 → ⊥ = λ z. refused.0 (same-refusal ∙ z) in
      rw (refused.1, same-refusal) (answered_some (refusal b) (counted b) other)

  -- what is published is the result of an accepted book
  module _ (after : List ℕ) (promise : Promise b (take (196 + 4 * count) space) after (Ok tt)) where
    none : clear_refusal b (take (196 + 4 * count) space) ≡ 0
    unfolding clearing
    none = (answer-none _ _ _ (sym promise.answers)).0

    pub front-accepted : Accepted b
    front-accepted = accepted b (sym same-refusal ∙ none)

    pub front-after : after ≡ result_bytes b
    unfolding result_after
    front-after = promise.bytes ∙ rw none

    after-length : length after ≡ 196 + 4 * count
    after-length = rw (front-after, counts (record-count b front-accepted).1) (result-length b front-accepted)

    pub front-fits : 196 + 4 * count ≤ length (after ++ drop (196 + 4 * count) space)
    front-fits = omega (arith, length-append after (drop (196 + 4 * count) space), after-length)

    pub front-is : take (196 + 4 * count) (after ++ drop (196 + 4 * count) space) ≡ result_bytes b
    front-is = take_at after (drop (196 + 4 * count) space) (196 + 4 * count) after-length ∙ front-after
