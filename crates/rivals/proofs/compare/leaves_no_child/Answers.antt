-- `rivals::compare::leaves_no_child` meets its contract: the undecided blocks before this one keep their parents. Assumes nothing.
use Rattle.std.proofs.Common.{arith}
use Rattle.rivals.proofs.TestLaws.{below_more, child-kept}
use Rattle.rivals.proofs.compare.leaves_no_child.Goals as goal

pub loop-j-init : goal.loop-j-init
loop-j-init c = λ j k le _. absurd (omega (arith, k, le))

pub is_left-requires : goal.is_left-requires
is_left-requires c = omega (arith, c.requires.1, c.requires.0.parents_fit c.loop-j.j (omega (arith, c.requires.1, c.loop-j-test.true)))

pub is_left-requires-in-loop-j : goal.is_left-requires-in-loop-j
is_left-requires-in-loop-j c = omega (arith, c.requires.1, c.requires.0.parents_fit c.loop-j.j (omega (arith, c.requires.1, c.loop-j-test.true)))

pub loop-j-preserved : goal.loop-j-preserved
loop-j-preserved c =
    let a = c.args in
    below_more _ _ c.loop-j.invariant
    (child-kept a.blocks.now a.at a.set a.rival c.loop-j.j _ _ c.is_left.ensures c.is_left-in-loop-j.ensures c.if-is_left.false)

pub returns : goal.returns
returns c = λ _ j k. c.loop-j.invariant j (omega (arith, c.loop-j-test.false))
