-- `order::tested::is_order` meets its contract: the tests of all places. Assumes nothing.
use mathlib.Core.Path.{◌≡◌}
use Rattle.std.proofs.Common.{rules, tests}
use Rattle.std.proofs.lemmas.Iterator.{YieldsList-from_range}
use Rattle.std.proofs.lemmas.Iterator.Search.{all_from_yields_List}
use Rattle.order.specs.Written.{stands_at, all_stand}
use Rattle.order.proofs.TestLaws.{ordered, passes-ordered}
use Rattle.order.proofs.tested.is_order.Goals as goal

pub returns : goal.returns
unfolding all_stand
returns c =
    let blocks = c.args.listed.now.blocks.now in
    let count = c.args.listed.now.count in
    let order = c.args.order.now in
    let all : c.all.result ≡ all_stand blocks count order.blocks order.places count =
    all_from_yields_List (stands_at blocks count order.blocks order.places) _ _ _ c.all.ensures.ran
    (YieldsList-from_range 0 count count (search rules) (search rules)) (λ x b q k. search (rules, tests)) in
    (ordered _ _ _ _ _ all, passes-ordered _ _ _ _ _ all)
