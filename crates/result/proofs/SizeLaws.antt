-- THE DAY OF AN ACCEPTED BOOK IS SMALL: so few and so small orders that every number of its result has room in its bytes (rules, BoundsLaws).
-- Assumes nothing.
use Prim.Native.Nat.{ℕ}
use mathlib.Core.List.{List, [], ◌∷◌}
use native.Mathlib.Omega.{arith}
use lib.ListN.{length-map}
use Rattle.book.specs.Refusals.{Accepted}
use Rattle.chains.proofs.Members.{Each}
use Rattle.book.proofs.Accepted.{steps-few, blocks-few}
use Rattle.rules.specs.Orders.{Step, Block}
use Rattle.rules.specs.OutcomeRules.{EachBlock}
use Rattle.rules.proofs.BoundsLaws.{SmallSteps, SmallBlock, SmallDay, weight-small}
use Rattle.orders.specs.Bridge.{day_from}
use Rattle.orders.proofs.BridgeLaws.{StepInRange, BlockInRange, day-steps, day-blocks, day-short, steps-in-range, blocks-in-range}

small-steps : (l : List Step) → Each StepInRange l → SmallSteps l
small-steps [] e = tt
small-steps (s ∷ l) e = (e.0.price.1, e.0.quantity.1, small-steps l e.1)

small-blocks : (l : List Block) → Each BlockInRange l → EachBlock SmallBlock l
small-blocks [] e = tt
small-blocks (s ∷ l) e = (record { price = e.0.price.1; quantity = omega (arith, e.0.quantity.1) }, small-blocks l e.1)

pub small-day : (b : List ℕ) → Accepted b → SmallDay (day_from b)
small-day b a =
    record {
      few_steps = rw (day-steps b, length-map) (steps-few b a);
      small_steps = small-steps (day_from b).steps (steps-in-range b a);
      few_blocks = rw (day-blocks b, length-map) (blocks-few b a);
      small_blocks = small-blocks (day_from b).blocks (blocks-in-range b a);
      at_most_twice = λ h. weight-small (day_from b).hours h (day-short b a);
    }
