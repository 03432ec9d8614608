use Rattle.std.proofs.Common.{◌≡◌, ℕ, ◌<◌, false}
use Rattle.book.specs.Refusals.{too_many_of}
use Rattle.book.proofs.causes.has_crowded_portfolio.Given as goal

abbrev pub invariant-loop-count : goal.invariant-loop-count
invariant-loop-count l = (p : ℕ) → p < l.count-index → too_many_of l.book p ≡ false
