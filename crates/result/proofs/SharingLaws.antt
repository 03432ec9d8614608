-- P5, OF A BOOK: the sharing rule of document 02 and the former one publish the same of every accepted book, but for the rows of steps at their hour's
-- price. Assumes nothing.
use mathlib.Core.Path.{◌≡◌, refl, ap, sym}
use mathlib.Core.List.{List}
use Prim.Native.Nat.{ℕ}
use Rattle.book.specs.Refusals.{Accepted}
use Rattle.rules.specs.Orders.{executed_of}
use Rattle.rules.specs.Execution.{shares, fill_in_turn}
use Rattle.rules.specs.Day.{taken, set_prices}
use Rattle.rules.specs.Outcome.{published}
use Rattle.rules.specs.SharingRules.{executed_by, outcome_by, published_by, AlikeButExecuted, AlikeApart}
use Rattle.rules.proofs.SharingRuleLaws.{shares-move-no-outcome, shares-move-at-price}
use Rattle.orders.specs.Bridge.{orders_of, day_from}
use Rattle.orders.proofs.BridgeLaws.{hours-in-range}
use Rattle.result.proofs.RowsLaws.{published_blocks, chosen_is, executed-is}

-- welfare, prices, traded quantities and taken blocks are the same
pub shares-move-no-result : (b : List ℕ) → Accepted b → AlikeButExecuted (published (orders_of b)) (published_by fill_in_turn (orders_of b))
unfolding day_from
shares-move-no-result b a = shares-move-no-outcome (orders_of b) (hours-in-range b a)

former-executed : (b : List ℕ) →
    (published_by fill_in_turn (orders_of b)).executed ≡ executed_by fill_in_turn (day_from b) (taken (day_from b).blocks (published_by fill_in_turn (orders_of b)).chosen)
unfolding published_by day_from executed_of
former-executed b = refl

-- and so is the executed quantity of every order whose price is not its hour's
pub shares-move-rows-at-price : (b : List ℕ) → Accepted b →
    AlikeApart (set_prices (day_from b) (published_blocks b)) (day_from b).steps (published (orders_of b)).executed
    (published_by fill_in_turn (orders_of b)).executed
shares-move-rows-at-price b a =
    rw (executed-is b, former-executed b, ← (shares-move-no-result b a).chosen, chosen_is b) (shares-move-at-price (day_from b) (published_blocks b))
