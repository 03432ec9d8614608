use Rattle.std.proofs.Common.{◌≡◌}
use Rattle.chains.specs.Chains.{link_order}
use Rattle.chains.specs.Passes.{to_follow}
use Rattle.orders.specs.Columns.{parent_among}
use Rattle.orders.proofs.parents.parent_of.Given as goal

abbrev pub invariant-loop-i : goal.invariant-loop-i
invariant-loop-i l = parent_among l.book (link_order l.book) l.number ≡ parent_among l.book (to_follow l.i-iterator) l.number
