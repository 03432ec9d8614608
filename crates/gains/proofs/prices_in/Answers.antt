-- `prices_in` meets its contract: the prices of the hours 1 to h are read. Assumes nothing.
use Rattle.std.proofs.Common.{◌≡◌, refl, replicate, length-set, arith}
use Rattle.gains.proofs.GainLaws.{prices-none, prices-more, prices-all}
use Rattle.gains.proofs.prices_in.Goals as goal

pub loop-h-init : goal.loop-h-init
loop-h-init c = (refl, prices-none c.args.res.now (replicate 24 0))

pub loop-h-preserved : goal.loop-h-preserved
loop-h-preserved c =
    let loop = c.loop-h in
    (rw (c.from.ensures, length-set) loop.invariant.0, rw c.from.ensures (prices-more _ _ loop.h _ (omega arith) c.price_in.ensures loop.invariant.1))

pub returns : goal.returns
returns c =
    let loop = c.loop-h in
    let all : loop.h ≡ 24 = omega arith in
    prices-all _ _ loop.invariant.0 (rw all at loop.invariant.1)
