-- `chains::uncounted::is_uncounted_on` meets its contract: some record of the chain has cause 9. Assumes nothing.
use Rattle.std.proofs.Common.{rules, tests}
use Rattle.std.proofs.lemmas.Iterator.Consumers.{YieldsList-from_first}
use Rattle.std.proofs.lemmas.Iterator.Search.{any_from_yields_List}
use Rattle.records.specs.Records.{record_at}
use Rattle.chains.specs.Causes.{uncounted, uncounted_on}
use Rattle.chains.specs.Passes.{to_follow}
use Rattle.chains.proofs.Laws.{some_any}
use Rattle.chains.proofs.uncounted.is_uncounted_on.Goals as goal

pub returns : goal.returns
unfolding uncounted_on
returns c =
    let book = c.args.book.now in
    rw (← c.first_on.ensures, ← some_any _ (λ i. uncounted book (record_at book i)))
    (any_from_yields_List (λ i. uncounted book (record_at book i)) c.any.new.self _ _ c.any.ensures.ran
    (YieldsList-from_first (λ x. x) to_follow _ c.chained.ensures) (λ x b q k. search (rules, tests)))
