-- `passes::heavy::find_heavy` meets its contract: a pass that finds a set has found the published one, and the last pass finds. Assumes nothing.
use Rattle.std.proofs.Common.{arith}
use Rattle.passes.proofs.PassLaws.{pass-is, pass-found, fuel-left}
use Rattle.passes.proofs.heavy.find_heavy.Goals as goal

pub returns-then-found-limit : goal.returns-then-found-limit
returns-then-found-limit c =
    let passed = c.pass-found.ensures in
    let few = c.requires.0.0.few in
    λ day p rest set same known turning best. pass-is known turning same passed (fuel-left few (omega arith) passed) best c.if-found-limit.true

pub returns : goal.returns
returns c =
    let passed = c.pass.ensures in
    let few = c.requires.0.0.few in
    let some = fuel-left few (omega arith) passed in
    λ day p rest set same known turning best.
    pass-is known turning same passed some best
    (pass-found known turning same passed some best few c.are_words-2.ensures c.are_words.ensures c.loop-limit-test.false)
