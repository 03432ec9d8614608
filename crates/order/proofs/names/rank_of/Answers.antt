-- `order::names::rank_of` meets its contract. Assumes nothing.
use Prim.Native.Nat.{◌-◌}
use mathlib.Core.Path.{◌∙◌}
use native.Mathlib.Omega.{arith}
use native.Mathlib.Nat.{one-mul}
use lib.Pow.{shl_exact}
use lib.Dec.{lit<}
use Rattle.order.proofs.names.rank_of.Goals as goal

pub returns : goal.returns
returns c = unfold Rattle.rules.proofs.Ranks.rank_of in (shl_exact 1 (31 - c.args.i) 32 (lit< tt) (omega arith) ∙ one-mul _)
