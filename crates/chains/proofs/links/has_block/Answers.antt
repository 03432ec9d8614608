-- `chains::links::has_block` meets its contract: some record of the blocks' chain has the number. Assumes nothing.
use Rattle.std.proofs.Common.{rules, tests}
use Rattle.std.proofs.lemmas.Iterator.Consumers.{YieldsList-from_first}
use Rattle.std.proofs.lemmas.Iterator.Search.{any_from_yields_List}
use Rattle.chains.specs.Causes.{is_number, has_block}
use Rattle.chains.specs.Chains.{block_order}
use Rattle.chains.specs.Passes.{to_follow}
use Rattle.chains.proofs.Laws.{some_any}
use Rattle.chains.proofs.links.has_block.Goals as goal

pub returns : goal.returns
unfolding has_block block_order is_number
returns c =
    rw (← c.first_block.ensures, ← some_any _ (is_number c.args.book.now c.args.number))
    (any_from_yields_List (is_number c.args.book.now c.args.number) c.any.new.self _ _ c.any.ensures.ran
    (YieldsList-from_first (λ x. x) to_follow _ c.chained.ensures) (λ x b q k. search (rules, tests)))
