-- `post_step` meets its contract. Assumes nothing.
use Rattle.std.proofs.Common.{◌≡◌, ◌+◌, ◌∙◌, ℕ, List, ap, arith, get_or}
use Rattle.records.specs.Records.{hour_byte}
use Rattle.accounts.specs.Accounts.{step_in}
use Rattle.accounts.specs.Postings.{most_of_step}
use Rattle.accounts.proofs.WalkLaws.{order-posted}
use Rattle.accounts.proofs.FigureLaws.{step-traded, step-cash, step_fits}
use Rattle.accounts.proofs.post_step.Goals as goal

pub overflow_mul-traded : goal.overflow_mul-traded
overflow_mul-traded c =
    record { fits = (step_fits c.from-row.result c.times_of.result 0 (omega (arith, c.from-row.ensures)) c.times_of.ensures.1 (omega arith)).0 }

pub overflow_mul-cash : goal.overflow_mul-cash
overflow_mul-cash c =
    record { fits = (step_fits c.from-row.result 0 c.from.result (omega (arith, c.from-row.ensures)) (omega arith) (rw c.from.ensures (c.args.priced.now.counts.prices_fit.1 _))).1 }

pub post-requires : goal.post-requires
post-requires c =
    let fits = step_fits c.from-row.result c.times_of.result c.from.result (omega (arith, c.from-row.ensures)) c.times_of.ensures.1 (rw c.from.ensures (c.args.priced.now.counts.prices_fit.1 _)) in (
      record { size = c.requires.1.size; free = λ i. omega (arith, c.requires.1.free i, fits.2) },
      rw c.portfolio_of.ensures c.requires.0.owned,
    )

pub returns : goal.returns
unfolding step_in
returns c =
    let book = c.args.priced.now.book.now in
    let res = c.args.priced.now.res.now in
    let k = c.args.k in
    let fit = c.requires.0 in
    let hour = c.from-hour.result in
    let row = c.from-row.ensures ∙ c.row_in.ensures in
    let later : hour + 1 ≡ hour_byte book k = omega (arith, c.from-hour.ensures, c.hour_byte.ensures, fit.first) in
    let counted = c.from.ensures ∙ ap (λ (l : List ℕ). get_or l hour 0) c.args.priced.now.counts.prices_are in
    order-posted _ _ most_of_step (step_in book res k) _ _ _ _ fit.owned
    (step-traded book res k fit.first fit.last _ _ _ hour row c.args.priced.now.counts.often_is later c.times_of.ensures.0)
    (step-cash book res k fit.first fit.last _ _ hour row later counted)
    (step_fits _ _ _ (omega (arith, c.from-row.ensures)) c.times_of.ensures.1 (rw c.from.ensures (c.args.priced.now.counts.prices_fit.1 hour))).2
    (rw (c.side_byte.ensures, c.portfolio_of.ensures) at c.post.ensures)
