-- `places::reach::with_moves` meets its contract: the hours before this one have the row added to either list. Assumes nothing.
use Rattle.std.proofs.Common.{suc, ◌+◌, ◌*◌, get_or, arith}
use Rattle.std.proofs.Math.Numerals.{sub-one}
use Rattle.places.specs.Layout.{hour_places, rows_column}
use Rattle.places.proofs.NumberLaws.{times-le}
use Rattle.places.proofs.reach.with_moves.Goals as goal

pub overflow_add-more : goal.overflow_add-more
overflow_add-more c =
    let v = c.loop-h in
    let a = c.args in
    let cell = get_or c.args.blocks.now (rows_column + hour_places * a.i + v.h) 0 in
    let row = rw sub-one at (c.requires.0.rows_fit a.i (suc v.h)) in
    omega (arith, row, times-le a.moves.must c.from-must.result cell c.from-must.ensures, v.invariant.0.ahead v.h (omega arith), c.requires.2 v.h)

pub overflow_add-freer : goal.overflow_add-freer
overflow_add-freer c =
    let v = c.loop-h in
    let a = c.args in
    let cell = get_or c.args.blocks.now (rows_column + hour_places * a.i + v.h) 0 in
    let row = rw sub-one at (c.requires.0.rows_fit a.i (suc v.h)) in
    omega (arith, row, times-le a.moves.may c.from-may.result cell c.from-may.ensures, v.invariant.1.ahead v.h (omega arith), c.requires.3 v.h)
