-- `post_steps` meets its contract: along the chain, what is posted and what is left to follow are together all of it. Assumes nothing.
use Rattle.std.proofs.Common.{◌≡◌, ◌≤◌, ◌∙◌, ap, arith, length, map}
use Rattle.records.specs.Records.{record_count}
use Rattle.chains.specs.Chains.{step_order}
use Rattle.chains.specs.Passes.{to_follow}
use Rattle.chains.proofs.Laws.{chain-short}
use Rattle.book.proofs.Accepted.{record-count}
use Rattle.accounts.specs.Accounts.{step_in}
use Rattle.accounts.specs.Postings.{most_of_step}
use Rattle.accounts.proofs.WalkLaws.{underway-start, underway-room, underway-more, underway-done}
use Rattle.accounts.proofs.AccountLaws.{steps-fit}
use Rattle.accounts.proofs.post_steps.Goals as goal

pub loop-k-init : goal.loop-k-init
unfolding step_order
loop-k-init c =
    let whole : to_follow c.into_iter-k-iterator.result ≡ step_order c.args.priced.now.book.now =
    ap to_follow c.into_iter-k-iterator.ensures.into_iter_gives ∙ c.chained-k-items.ensures ∙ rw c.first_step.ensures
    in
    record { underway = rw whole (underway-start _ _ _ _ _ _); fits = rw whole (steps-fit _ c.requires.0) }

pub post_step-requires : goal.post_step-requires
unfolding step_order
post_step-requires c =
    let book = c.args.priced.now.book.now in
    let way = rw c.in-Some.ensures.steps at c.loop-k.invariant.underway in
    let fits = rw c.in-Some.ensures.steps at c.loop-k.invariant.fits in
    let few : length (step_order book) ≤ record_count book = chain-short _ _ _ in (
      fits.0,
      record {
        size = omega (arith, way.size, c.requires.1.size);
        free = underway-room _ _ _ _ _ _ _ _ _ _ way (omega (arith, few, (record-count _ c.requires.0).1)) c.requires.1.free;
      },
    )

pub loop-k-preserved : goal.loop-k-preserved
unfolding step_in
loop-k-preserved c =
    let way = rw c.in-Some.ensures.steps at c.loop-k.invariant.underway in
    let fits = rw c.in-Some.ensures.steps at c.loop-k.invariant.fits in
    record { underway = underway-more _ _ _ _ _ _ _ _ _ _ _ fits.0.owned way c.post_step.ensures; fits = fits.1 }

pub returns : goal.returns
unfolding step_order
returns c =
    let book = c.args.priced.now.book.now in
    let few : length (step_order book) ≤ record_count book = chain-short _ _ _ in
    let none = ap (map (step_in book c.args.priced.now.res.now)) c.in-None.ensures.steps.0 in
    underway-done _ _ most_of_step _ _ _ _ _ _ _ none (omega (arith, few, (record-count _ c.requires.0).1)) c.loop-k.invariant.underway
