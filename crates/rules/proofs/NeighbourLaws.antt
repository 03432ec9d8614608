-- An hour with one more unit of N. The hour's gap at any price p (what its welfare falls short of the surplus at p and p for
-- each unit of N) is 0 or more, depends on N alone, and changes by p − L from one N to the next. Assumes nothing.
use Prim.Native.Nat.{ℕ, suc, ◌+◌, ◌-◌, ◌*◌}
use mathlib.Core.Path.{◌≡◌, ap}
use mathlib.Core.List.{List}
use native.Mathlib.Omega.{arith}
use Rattle.rules.specs.Orders.{Step}
use Rattle.rules.specs.Hour.{Hour}
use Rattle.rules.specs.Execution.{execution}
use Rattle.rules.specs.Contender.{PricesInRange}
use Rattle.rules.proofs.PricingLaws.{Clears, Clearable, clearable, net}
use Rattle.rules.proofs.ExecutionLaws.{execution-within, execution-balances, same-execution, execution-net}
use Rattle.rules.proofs.DualityLaws.{value, cost, surplus, weak-duality, execution-attains}
use Rattle.rules.proofs.TableLaws.{low_of, price_of, answered, own-clears, price-net, low-clears-next}

-- THE GAP of an hour at price p: the surplus at p and p for each unit of N, less the welfare of the hour's own execution
unfoldable pub slack : ℕ → Hour → ℕ
slack p h =
    cost h.steps (execution h (price_of h)) + surplus p h.steps + p * h.block_sales
    - (value h.steps (execution h (price_of h)) + p * h.block_buys)

module _ (h : Hour) (r : PricesInRange h.steps) where
  module _ (q : ℕ) (c : Clears h q) (p : ℕ) where
    -- the execution at any clearing price q falls short by the gap: by weak duality it is 0 or more
    pub slack-is :
        value h.steps (execution h q) + p * h.block_buys + slack p h
        ≡ cost h.steps (execution h q) + surplus p h.steps + p * h.block_sales
    unfolding slack
    slack-is =
        let own = own-clears h r (clearable h q c) in
        rw (same-execution h q (price_of h) c own)
        (omega (
          arith,
          weak-duality h p (execution h (price_of h)) (execution-within h (price_of h)) (execution-balances h (price_of h) own),
        ))

    -- it is the surplus at p and p·N, less those at a clearing price q
    pub slack-apart :
        slack p h + (surplus q h.steps + q * h.block_sales) + p * h.block_buys
        ≡ surplus p h.steps + p * h.block_sales + q * h.block_buys
    slack-apart = omega (arith, slack-is, execution-attains h q q c c)

-- it depends on N alone
pub slack-net : (l : List Step) (s b s' b' : ℕ) → s + b' ≡ s' + b → (p : ℕ) → slack p (net l s b) ≡ slack p (net l s' b')
unfolding slack
slack-net l s b s' b' same p =
    rw (price-net l s b s' b' same, execution-net l s b s' b' same (price_of (net l s' b'))) (omega (arith, ap (λ x. p * x) same))

-- ONE MORE UNIT
module _ (l : List Step) (r : PricesInRange l) (s b : ℕ) (c : Clearable (net l (suc s) b)) (d : Clearable (net l s b)) where
  abbrev one_more : Hour
  one_more = net l (suc s) b

  low-clears-both : Clears (net l (suc s) b) (low_of (net l s b))
  low-clears-both = low-clears-next l r s b c d

  -- the gap at any price p changes by p − L
  pub slack-next : (p : ℕ) → slack p (net l (suc s) b) + low_of (net l s b) ≡ slack p (net l s b) + p
  slack-next p =
      omega (
        arith,
        slack-apart one_more r (low_of (net l s b)) low-clears-both p,
        slack-apart (net l s b) r (low_of (net l s b)) (answered (net l s b) r d).low_clears p,
      )
