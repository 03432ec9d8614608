-- `rivals::compare::holds_parents` meets its contract: the first blocks have their parents. Assumes nothing.
use Rattle.std.proofs.Common.{arith}
use Rattle.rivals.proofs.TestLaws.{below_none, below_more, parent-held}
use Rattle.rivals.proofs.compare.holds_parents.Goals as goal

pub loop-j-init : goal.loop-j-init
loop-j-init c = below_none _

pub is_left-requires : goal.is_left-requires
is_left-requires c = omega (arith, c.requires.1, c.requires.0.parents_fit c.loop-j.j (omega (arith, c.requires.1, c.loop-j-test.true)))

pub loop-j-preserved : goal.loop-j-preserved
loop-j-preserved c =
    let a = c.args in
    below_more _ _ c.loop-j.invariant
    (parent-held a.blocks.now a.rival c.loop-j.j _ _ c.takes.ensures c.is_left.ensures c.if-takes-is_left.false)

pub returns : goal.returns
returns c = λ _ j k. c.loop-j.invariant j (omega (arith, c.loop-j-test.false))
