use Rattle.std.proofs.Common.{◌≡◌, ℕ, ◌+◌, ◌<◌, get_or, length}
use Rattle.fields.specs.Tests.{count_in}
use Rattle.chains.specs.Bounds.{portfolio_numbers}
use Rattle.chains.specs.Causes.{owned_by}
use Rattle.chains.specs.Chains.{chain_of}
use Rattle.chains.specs.Passes.{to_follow}
use Rattle.chains.proofs.walks.counts_by_portfolio.Given as goal

abbrev pub invariant-loop-i : goal.invariant-loop-i
invariant-loop-i l =
    record {
      long : length l.counts ≡ portfolio_numbers;
      counted : (p : ℕ) → p < portfolio_numbers
          → count_in (chain_of l.book l.fn.chain) (owned_by l.book p) ≡ get_or l.counts p 0 + count_in (to_follow l.i-iterator) (owned_by l.book p);
      fits : (p : ℕ) → p < portfolio_numbers → get_or l.counts p 0 + length (to_follow l.i-iterator) < 65536;
    }
