-- TWO SETS WITH THE SAME N IN AN HOUR GET THE SAME ANSWER (document 02, P4), whatever the book. Assumes nothing.
use Prim.Native.Nat.{ℕ, ◌^◌}
use mathlib.Core.Path.{◌≡◌}
use mathlib.Core.List.{List}
use lib.ListN.{length}
use borrow.Author.Tests.{lt-leb}
use Rattle.chains.specs.Chains.{block_order}
use Rattle.rules.specs.Day.{steps_in, over_blocks, sells, buys}
use Rattle.rules.proofs.PricingLaws.{pricing-net}
use Rattle.orders.specs.Bridge.{day_from}
use Rattle.pricing.specs.Answers.{hour_answered, wrong_call, price_causes, hour_answer, blocks_of, SetOf, SameNet}

-- The rules' answer goes by N
same-net-same-pricing : (b : List ℕ) (hour one other : ℕ) → SameNet b hour one other → hour_answered b one hour ≡ hour_answered b other hour
unfolding hour_answered
same-net-same-pricing b hour one other same =
    pricing-net (steps_in hour (day_from b).steps) (over_blocks (sells hour) (blocks_of b one)) (over_blocks (buys hour) (blocks_of b one))
    (over_blocks (sells hour) (blocks_of b other)) (over_blocks (buys hour) (blocks_of b other)) same

-- .. and neither set names a block that is not there, so neither is refused for it
same-causes : (b : List ℕ) (hour one other : ℕ) → SetOf b one → SetOf b other → price_causes b one hour ≡ price_causes b other hour
unfolding price_causes wrong_call
same-causes b hour one other in_one in-other =
    rw (lt-leb (2 ^ length (block_order b)) one in_one, lt-leb (2 ^ length (block_order b)) other in-other)

pub same-net-same-answer : (b : List ℕ) (hour one other : ℕ) → SetOf b one → SetOf b other → SameNet b hour one other →
    hour_answer b one hour ≡ hour_answer b other hour
unfolding hour_answer
same-net-same-answer b hour one other in_one in-other same =
    rw (same-causes b hour one other in_one in-other, same-net-same-pricing b hour one other same)
