-- `chains::walks::counts_by_portfolio` meets its contract: of each portfolio the chain has the records counted and those that are left to
-- follow. A count and what is left are together no more than the chain, so that no count wraps. Assumes nothing.
use Rattle.std.proofs.Common.{ℕ, ◌<◌, arith, ◌∙◌, ap, length, length-set}
use Rattle.std.proofs.Math.ListN.{get_or-replicate, length-replicate}
use Rattle.fields.specs.Tests.{count_in}
use Rattle.chains.specs.Bounds.{portfolio_numbers}
use Rattle.chains.specs.Causes.{owned_by}
use Rattle.chains.specs.Passes.{to_follow}
use Rattle.chains.proofs.Laws.{chain-fits, count-more, count_most}
use Rattle.chains.proofs.walks.counts_by_portfolio.Goals as goal

pub loop-i-init : goal.loop-i-init
loop-i-init c =
    let all = ap to_follow c.into_iter-i-iterator.ensures.into_iter_gives ∙ c.chained-i-items.ensures in
    record {
      long = length-replicate {A = ℕ} portfolio_numbers 0;
      counted = λ p h. rw (all, c.first_on.ensures) (omega (arith, get_or-replicate {A = ℕ} portfolio_numbers p 0 0 h));
      fits = λ p h. rw all (omega (arith, get_or-replicate {A = ℕ} portfolio_numbers p 0 0 h, chain-fits c.args.book.now c.first_on.result c.type_inv.book));
    }

pub overflow_add-counts : goal.overflow_add-counts
overflow_add-counts c =
    omega (arith, c.loop-i.invariant.fits c.from.result (omega (arith, c.from.ensures)), ap length c.in-Some.ensures.steps)

pub loop-i-preserved : goal.loop-i-preserved
unfolding count_in owned_by
loop-i-preserved c =
    let v = c.loop-i.invariant in
    let q = c.from.result in
    let owner = c.from.ensures ∙ c.portfolio_of.ensures in
    record {
      long = rw length-set v.long;
      counted = λ p h.
          let g : p < length c.loop-i.counts = rw v.long h in
          v.counted p h ∙ rw (c.in-Some.ensures.steps, ← owner, count-more c.loop-i.counts q p);
      fits = λ p h.
          let g : p < length c.loop-i.counts = rw v.long h in
          omega (arith, v.fits p h, count_most c.loop-i.counts q p g, ap length c.in-Some.ensures.steps);
    }

pub returns : goal.returns
unfolding count_in
returns c = λ p h. let e = rw c.in-None.ensures.steps.0 at (c.loop-i.invariant.counted p h) in omega arith
