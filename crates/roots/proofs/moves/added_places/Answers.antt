-- `roots::added_places` meets its contract: each block adds at most its quantity. Assumes nothing.
use Rattle.std.proofs.Common.{◌≤◌, arith, get_or, leb}
use Rattle.places.specs.Layout.{most_quantity}
use Rattle.roots.proofs.SizeLaws.{chosen-le, moved-most}
use Rattle.roots.proofs.moves.added_places.Goals as goal

pub loop-i-preserved : goal.loop-i-preserved
loop-i-preserved c =
    let v = c.loop-i in
    let few = c.args.asked.now.few.1 v.i c.loop-i-test.true in
    let fits : c.choose.result ≤ most_quantity = rw c.choose.ensures (chosen-le (leb (get_or c.args.asked.now.limits v.i 0) c.price_sum.result) _ most_quantity few) in
    let m = moved-most _ _ v.places c.moved-more.result c.moved-more.ensures.0 c.moved-more.ensures.1 in
    λ j. omega (arith, m j, fits, v.invariant j)
