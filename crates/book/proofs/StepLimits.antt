-- Cause 11 in its editions: it does not hold before the limit, and where it does not hold with the limit no portfolio is above it. Assumes nothing.
use Prim.Native.Nat.{ℕ, ◌≤◌, ◌<◌}
use mathlib.Core.Path.{◌≡◌}
use mathlib.Core.List.{List}
use mathlib.Core.Bool.{false}
use borrow.Author.Tests.{ltb-false, lt-leb, le-leb}
use lib.Dec.{ltb}
use Rattle.records.specs.Records.{edition}
use Rattle.chains.specs.Bounds.{portfolio_numbers, hour_numbers, most_steps_in_hour}
use Rattle.chains.specs.Causes.{steps_for, more_steps_in, more_steps}
use Rattle.chains.proofs.Members.{none_below}
use Rattle.book.specs.Bounds.{first_step_limit_edition}
use Rattle.book.specs.Refusals.{too_many_steps}

-- Editions before the limit have none too many
pub no-limit-before : (b : List ℕ) → edition b < first_step_limit_edition → too_many_steps b ≡ false
unfolding too_many_steps
no-limit-before b older = rw (lt-leb first_step_limit_edition (edition b) older)

-- Where it does not hold, in an edition with the limit, no portfolio has more than 256 steps in one hour
pub within-limit : (b : List ℕ) → too_many_steps b ≡ false → first_step_limit_edition ≤ edition b → (h p : ℕ) → h < hour_numbers → p < portfolio_numbers
    → steps_for b h p ≤ most_steps_in_hour
unfolding too_many_steps more_steps more_steps_in
within-limit b none limited h p g f =
    let all : more_steps most_steps_in_hour b ≡ false = rw (le-leb first_step_limit_edition (edition b) limited) at none in
    let hour = none_below hour_numbers (more_steps_in most_steps_in_hour b) all h g in
    ltb-false most_steps_in_hour (steps_for b h p) (none_below portfolio_numbers (λ q. ltb most_steps_in_hour (steps_for b h q)) hour p f)
