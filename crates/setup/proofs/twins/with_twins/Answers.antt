-- `setup::with_twins` meets its contract: the twins of the blocks before i stand. Assumes nothing.
use Rattle.std.proofs.Common.{rules, arith}
use Rattle.setup.proofs.SetupTwinLaws.{twins-start, twins-next, twins-all}
use Rattle.setup.proofs.twins.with_twins.Goals as goal

pub loop-i-init : goal.loop-i-init
loop-i-init c = twins-start _ _ (search rules) c.requires.1

pub numbered-requires : goal.numbered-requires
numbered-requires c = λ a e. let twin = c.nearest_twin.ensures a e in omega (arith, twin.earlier, c.loop-i-test.true, c.requires.0)

pub numbered-requires-in-loop-i : goal.numbered-requires-in-loop-i
numbered-requires-in-loop-i c = λ a e. let twin = c.nearest_twin-in-loop-i.ensures a e in omega (arith, twin.earlier, c.loop-i-test.true, c.requires.0)

pub loop-i-preserved : goal.loop-i-preserved
loop-i-preserved c =
    twins-next _ _ _ _ _ _ c.loop-i.invariant c.requires.0 c.loop-i-test.true (λ a e. c.nearest_twin.ensures a (c.numbered.ensures a e))
    (λ a e. c.nearest_twin-in-loop-i.ensures a (c.numbered-in-loop-i.ensures a e))

pub returns : goal.returns
returns c = twins-all _ _ _ _ c.loop-i.invariant c.loop-i-test.false
