-- THE LIMIT OF A LOSS in a branch, by the best so far and what the branch's left-out blocks come to: a completion that loses as much costs no less than the
-- best; a set that loses less costs less; and the limit falls from branch to branch. Assumes nothing.
use Prim.Native.Nat.{ℕ, ◌+◌, ◌*◌, ◌≤◌, ◌<◌}
use mathlib.Core.Bool.{Bool, false}
use mathlib.Core.List.{List, ◌++◌}
use mathlib.Core.Path.{◌≡◌, refl}
use native.Mathlib.Omega.{arith}
use lib.Dec.{ltb}
use lib.Pow.{pow_pos}
use Rattle.rules.specs.Hour.{when}
use Rattle.rules.specs.Day.{Day}
use Rattle.rules.proofs.Tests.{by-lt}
use Rattle.rules.proofs.TieLaws.{ties, ties-split}
use Rattle.rules.proofs.CostLaws.{tie_room}
use Rattle.places.specs.Layout.{most_loss}
use Rattle.places.specs.Blocks.{rank_at}
use Rattle.branches.specs.Meaning.{loss_above, cost_above}
use Rattle.branches.specs.declared.Node.{Node}
use Rattle.search.specs.Meaning.{cost_limit, limit_at, Held, Kept}
use Rattle.search.specs.declared.Best.{Best}
use Rattle.search.proofs.CutLaws.{cut-costs}

-- in numbers
less-costs : (limit tie here loss : ℕ) → here ≤ most_loss → loss < limit_at limit tie here → loss * tie_room + here < limit * tie_room + tie
unfolding limit_at
less-costs limit tie here loss small =
    by-lt (λ t. loss < limit + when t 1 → loss * tie_room + here < limit * tie_room + tie) here tie (λ k z. omega arith) (λ k z. omega arith)

limit-falls : (limit tie here limit' tie' here' : ℕ) → tie ≤ most_loss → tie' ≤ most_loss → here ≤ here' →
    limit' * tie_room + tie' ≤ limit * tie_room + tie → limit_at limit' tie' here' ≤ limit_at limit tie here
unfolding limit_at
limit-falls limit tie here limit' tie' here' small small' grows lower =
    by-lt (λ t. limit' + when t 1 ≤ limit + when (ltb here tie) 1) here' tie'
    (λ k. by-lt (λ t. limit' + 1 ≤ limit + when t 1) here tie (λ z. omega arith) (λ z. omega arith))
    (λ k. by-lt (λ t. limit' + when false 1 ≤ limit + when t 1) here tie (λ z. omega arith) (λ z. omega arith))

-- the two answers of its test
pub limit-raised : (limit tie here : ℕ) → here < tie → limit + 1 ≡ limit_at limit tie here
unfolding limit_at
limit-raised limit tie here less = by-lt (λ t. limit + 1 ≡ limit + when t 1) here tie (λ _. refl) (λ k. absurd (omega arith))

pub limit-plain : (limit tie here : ℕ) → tie ≤ here → limit ≡ limit_at limit tie here
unfolding limit_at
limit-plain limit tie here no_less = by-lt (λ t. limit ≡ limit + when t 1) here tie (λ k. absurd (omega arith)) (λ _. omega arith)

-- OF A BRANCH
module _ (day : Day) (p rest : ℕ → ℕ) (blocks : List ℕ) (d : List Bool) (node : Node) (best : Best) (tied : node.tie ≡ ties (rank_at blocks) d) where
  -- a completion that loses the limit or more costs no less than the best
  pub loses-costs : best.tie ≤ most_loss → (t : List Bool) →
      limit_at best.limit best.tie node.tie ≤ loss_above day p rest (d ++ t) → cost_limit best ≤ cost_above day p rest blocks (d ++ t)
  loses-costs small t less =
      cut-costs best.limit best.tie node.tie (loss_above day p rest (d ++ t)) (ties (rank_at blocks) (d ++ t)) small
      (omega (arith, ties-split (rank_at blocks) d t)) less

  -- the decided set itself
  pub decided-costs : best.tie ≤ most_loss → limit_at best.limit best.tie node.tie ≤ loss_above day p rest d →
      cost_limit best ≤ cost_above day p rest blocks d
  decided-costs small less =
      cut-costs best.limit best.tie node.tie (loss_above day p rest d) (ties (rank_at blocks) d) small (omega arith) less

  pub decided-cheaper : node.tie ≤ most_loss → loss_above day p rest d < limit_at best.limit best.tie node.tie →
      cost_above day p rest blocks d < cost_limit best
  decided-cheaper small less =
      rw tied at (less-costs best.limit best.tie node.tie (loss_above day p rest d) small less)

-- the limit falls with the best, and as more blocks are left out
pub lower-limit : (best r : Best) (node next : Node) → best.tie ≤ most_loss → r.tie ≤ most_loss → cost_limit r ≤ cost_limit best → node.tie ≤ next.tie →
    limit_at r.limit r.tie next.tie ≤ limit_at best.limit best.tie node.tie
lower-limit best r node next small small' lower grows =
    limit-falls best.limit best.tie node.tie r.limit r.tie next.tie small small' grows lower

-- WHAT IS KEPT
-- the best as it was
pub kept_same : (left : ℕ) (best : Best) → Held best → Kept left best best
kept_same left best held = record {
  no_more = omega arith;
  tie_fits = held.tie_fits;
  fuel_falls = omega arith;
  fuel_spent = omega (arith, pow_pos left);
}

-- a set that costs less, in its place
pub kept-found : (best r : Best) → (loss tie : ℕ) → r.limit ≡ loss → r.tie ≡ tie → r.fuel ≡ best.fuel → tie ≤ most_loss →
    loss < limit_at best.limit best.tie tie → Kept 0 best r
kept-found best r loss tie limit_is tie-is fuel-is small less = record {
  no_more = omega (arith, less-costs best.limit best.tie tie loss small less);
  tie_fits = omega arith;
  fuel_falls = omega arith;
  fuel_spent = omega arith;
}
