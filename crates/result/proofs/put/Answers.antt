-- `put` meets its contract: the bytes stand from `at` on. Assumes nothing.
use native.Mathlib.Omega.{arith}
use Rattle.result.proofs.ByteLaws.{part-splice}
use Rattle.result.proofs.put.Goals as goal

pub returns : goal.returns
returns c = part-splice _ _ _ c.args.at _ (omega arith) c.copy_from_slice.ensures.after
