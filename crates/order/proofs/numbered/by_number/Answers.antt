-- `order::numbered::by_number` meets its contract: the bits of the blocks from number i on stand. Assumes nothing.
use native.Mathlib.Omega.{arith}
use Rattle.order.proofs.NumberLaws.{none-numbered, numbered_next, numbered-room, numbered-all}
use Rattle.order.proofs.numbered.by_number.Goals as goal

pub loop-i-init : goal.loop-i-init
loop-i-init c = none-numbered _ _ _

pub overflow_mul-numbered : goal.overflow_mul-numbered
overflow_mul-numbered c = omega (arith, numbered-room _ _ _ _ _ c.loop-i-test.true c.requires.0 c.loop-i.invariant)

pub overflow_add-numbered : goal.overflow_add-numbered
overflow_add-numbered c = omega (arith, numbered-room _ _ _ _ _ c.loop-i-test.true c.requires.0 c.loop-i.invariant)

pub loop-i-preserved : goal.loop-i-preserved
loop-i-preserved c = numbered_next _ _ _ _ _ c.loop-i-test.true c.loop-i.auto.i c.loop-i.invariant

pub returns : goal.returns
returns c = numbered-all _ _ _ _ _ (omega arith) c.loop-i.invariant
