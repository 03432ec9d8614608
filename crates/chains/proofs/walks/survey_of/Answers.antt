-- `chains::walks::survey_of` meets its contract, by the laws of the walk: its start, one record more, its end. Assumes nothing.
use Rattle.std.proofs.Common.{arith, ◌∙◌, ap, length}
use Rattle.chains.specs.Chains.{first_on}
use Rattle.chains.specs.Passes.{to_follow}
use Rattle.chains.proofs.Laws.{chain-fits}
use Rattle.chains.proofs.Surveys.{walk-starts, walk_more, walk_ends}
use Rattle.chains.proofs.walks.survey_of.Goals as goal

pub loop-i-init : goal.loop-i-init
loop-i-init c =
    walk-starts _ _ _ (ap to_follow c.into_iter-i-iterator.ensures.into_iter_gives ∙ c.chained-i-items.ensures ∙ rw c.first_on.ensures)

pub overflow_add-length : goal.overflow_add-length
overflow_add-length c =
    let book = c.args.book.now in
    omega (arith, chain-fits book (first_on book c.args.chain) c.type_inv.book, c.loop-i.invariant.length_is, ap length c.in-Some.ensures.steps)

pub loop-i-preserved : goal.loop-i-preserved
loop-i-preserved c =
    walk_more _ _ _ _ _ _ _ _ _ _ _ _ c.loop-i.invariant c.in-Some.ensures.steps
    c.is_misplaced-broken.ensures c.is_out_of_range-outside.ensures c.number_of-last.ensures

pub returns : goal.returns
returns c = walk_ends _ _ _ _ _ _ _ c.loop-i.invariant c.in-None.ensures.steps.0
