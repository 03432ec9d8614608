-- `passes::light::find_light` meets its contract: a pass that finds a set, with fuel left, has found the published one. Assumes nothing.
use Rattle.std.proofs.Common.{arith}
use Rattle.passes.proofs.PassLaws.{pass-is}
use Rattle.passes.proofs.light.find_light.Goals as goal

pub returns-then-found-limit : goal.returns-then-found-limit
returns-then-found-limit c =
    λ day p rest set same known turning best. pass-is known turning same c.pass-found.ensures (omega (arith, c.if-found-eq0.false)) best c.if-found-limit.true
