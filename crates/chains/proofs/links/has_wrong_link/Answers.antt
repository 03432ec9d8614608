-- `chains::links::has_wrong_link` meets its contract: some link of their chain is misnamed. Assumes nothing.
use Rattle.std.proofs.Common.{rules, tests}
use Rattle.std.proofs.lemmas.Iterator.Consumers.{YieldsList-from_first}
use Rattle.std.proofs.lemmas.Iterator.Search.{any_from_yields_List}
use Rattle.records.specs.Records.{link_at}
use Rattle.chains.specs.Causes.{misnamed, wrong_link}
use Rattle.chains.specs.Chains.{links, link_order}
use Rattle.chains.specs.Passes.{to_follow}
use Rattle.chains.proofs.Laws.{some-made}
use Rattle.chains.proofs.links.has_wrong_link.Goals as goal

pub returns : goal.returns
unfolding wrong_link links link_order
returns c =
    let book = c.args.book.now in
    rw (← c.first_link.ensures, ← some-made _ (link_at book) (misnamed book))
    (any_from_yields_List (λ i. misnamed book (link_at book i)) c.any.new.self _ _ c.any.ensures.ran
    (YieldsList-from_first (λ x. x) to_follow _ c.chained.ensures) (λ x b q k. search (rules, tests)))
