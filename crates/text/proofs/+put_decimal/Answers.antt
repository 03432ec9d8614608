-- `put_decimal` meets its contract; the number falls from call to call. Assumes nothing.
use native.Mathlib.Omega.{arith}
use Rattle.text.proofs.TextLaws.{digit_room, put-digit, others-room, last-room, put_last}
use Prim.Native.Nat.{◌≤◌}
use Rattle.text.proofs.+put_decimal.Goals as goal

pub bounds-out-at : goal.bounds-out-at
bounds-out-at t c = digit_room _ _ c.args.n (omega arith) c.requires

pub overflow_add-result : goal.overflow_add-result
overflow_add-result t c = omega (arith, digit_room _ _ c.args.n (omega arith) c.requires)

pub returns-then-n-lt10 : goal.returns-then-n-lt10
returns-then-n-lt10 t c = put-digit _ _ c.args.n (omega arith) c.requires

pub put_decimal-last-requires : goal.put_decimal-last-requires
put_decimal-last-requires t c = (omega (arith, c.decreases), others-room _ _ c.args.n c.ranges.n.fits (omega arith) c.requires)

pub bounds-out-last : goal.bounds-out-last
bounds-out-last t c =
    let several : 10 ≤ c.args.n = omega arith in
    last-room _ _ c.args.n c.ranges.n.fits several c.requires _ _ c.put_decimal-last.ensures

pub overflow_add-result-2 : goal.overflow_add-result-2
overflow_add-result-2 t c =
    let several : 10 ≤ c.args.n = omega arith in
    omega (arith, last-room _ _ c.args.n c.ranges.n.fits several c.requires _ _ c.put_decimal-last.ensures)

pub returns : goal.returns
returns t c =
    let several : 10 ≤ c.args.n = omega arith in
    put_last _ _ c.args.n c.ranges.n.fits several c.requires _ _ c.put_decimal-last.ensures
