-- THE LIMIT OF A LOSS in a branch, in numbers: a completion that loses it or more costs no less than the best. Assumes nothing.
use Prim.Native.Nat.{ℕ, ◌+◌, ◌*◌, ◌≤◌}
use native.Mathlib.Omega.{arith}
use Rattle.rules.specs.Hour.{when}
use Rattle.rules.proofs.Tests.{by-lt}
use Rattle.rules.proofs.CostLaws.{tie_room}
use Rattle.places.specs.Layout.{most_loss}
use Rattle.search.specs.Meaning.{limit_at}

pub cut-costs : (limit tie here loss all : ℕ) → tie ≤ most_loss → here ≤ all → limit_at limit tie here ≤ loss → limit * tie_room + tie ≤ loss * tie_room + all
unfolding limit_at
cut-costs limit tie here loss all small grows =
    by-lt (λ t. limit + when t 1 ≤ loss → limit * tie_room + tie ≤ loss * tie_room + all) here tie (λ k z. omega arith) (λ k z. omega arith)
