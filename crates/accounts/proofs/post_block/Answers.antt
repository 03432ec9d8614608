-- `post_block` meets its contract. Assumes nothing.
use Rattle.std.proofs.Common.{◌≤◌, ◌∙◌, arith}
use Rattle.accounts.specs.Accounts.{block_in}
use Rattle.accounts.specs.Postings.{most_of_block}
use Rattle.accounts.proofs.WalkLaws.{order-posted}
use Rattle.accounts.proofs.FigureLaws.{block-traded, block-cash, hours-small, block-fits}
use Rattle.accounts.proofs.post_block.Goals as goal

pub overflow_mul-traded : goal.overflow_mul-traded
overflow_mul-traded c =
    let few : c.from.result ≤ 25 = rw (c.from.ensures, c.counted_hours.ensures) (hours-small c.day_hours.result c.args.hours (rw c.day_hours.ensures c.requires.0)) in
    record { fits = (block-fits c.from-row.result c.from.result 0 (omega (arith, c.from-row.ensures)) few (omega arith)).0 }

pub overflow_mul-cash : goal.overflow_mul-cash
overflow_mul-cash c =
    record { fits = (block-fits c.from-row.result 0 c.from-2.result (omega (arith, c.from-row.ensures)) (omega arith) (rw c.from-2.ensures c.price_sum.ensures.1)).1 }

pub post-requires : goal.post-requires
post-requires c =
    let few : c.from.result ≤ 25 = rw (c.from.ensures, c.counted_hours.ensures) (hours-small c.day_hours.result c.args.hours (rw c.day_hours.ensures c.requires.0)) in
    let fits = block-fits c.from-row.result c.from.result c.from-2.result (omega (arith, c.from-row.ensures)) few (rw c.from-2.ensures c.price_sum.ensures.1) in (
      record { size = c.requires.4.size; free = λ i. omega (arith, c.requires.4.free i, fits.2) },
      rw c.portfolio_of.ensures c.requires.3,
    )

pub returns : goal.returns
unfolding block_in
returns c =
    let book = c.args.priced.now.book.now in
    let res = c.args.priced.now.res.now in
    let few : c.from.result ≤ 25 = rw (c.from.ensures, c.counted_hours.ensures) (hours-small c.day_hours.result c.args.hours (rw c.day_hours.ensures c.requires.0)) in
    let row = c.from-row.ensures ∙ c.row_in.ensures in
    order-posted _ _ most_of_block (block_in book res c.args.k) _ _ _ _ c.requires.3
    (rw (c.from.ensures, c.counted_hours.ensures, c.day_hours.ensures) (block-traded book res c.args.k _ _ row c.requires.2))
    (block-cash book res c.args.k _ _ _ _ row c.requires.2 c.args.priced.now.counts.prices_are (c.from-2.ensures ∙ c.price_sum.ensures.0))
    (block-fits _ _ _ (omega (arith, c.from-row.ensures)) few (rw c.from-2.ensures c.price_sum.ensures.1)).2
    (rw (c.requires.1, c.portfolio_of.ensures) at c.post.ensures)
