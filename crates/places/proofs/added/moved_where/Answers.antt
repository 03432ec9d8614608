-- `places::added::moved_where` meets its contract: the hours before this one have the row added. Assumes nothing.
use Rattle.std.proofs.Common.{suc, ◌+◌, ◌*◌, get_or, arith}
use Rattle.std.proofs.Math.Numerals.{sub-one}
use Rattle.places.specs.Layout.{hour_places, rows_column}
use Rattle.places.proofs.NumberLaws.{times-le}
use Rattle.places.proofs.added.moved_where.Goals as goal

pub overflow_add-r-in-loop-h : goal.overflow_add-r-in-loop-h
overflow_add-r-in-loop-h c =
    let v = c.loop-h in
    let a = c.args in
    let cell = get_or c.args.blocks.now (rows_column + hour_places * a.i + v.h) 0 in
    let row = rw sub-one at (c.requires.0.rows_fit a.i (suc v.h)) in
    omega (arith, row, times-le a.test c.from-times.result cell c.from-times.ensures, v.invariant.ahead v.h (omega arith), c.requires.2 v.h)
