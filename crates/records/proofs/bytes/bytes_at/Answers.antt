-- `records::bytes::bytes_at` meets its contract: each byte where it is read by itself. Assumes nothing.
use Rattle.std.proofs.Common.{◌<◌, ◌≢◌, length, arith, get_or-set_other, get_or-set_same, below_more, length-set}
use Rattle.records.proofs.bytes.bytes_at.Goals as goal

pub loop-k-preserved : goal.loop-k-preserved
loop-k-preserved g c =
    record {
      long = rw length-set c.loop-k.invariant.long;
      read = below_more _ _
          (λ k h. let ne : k ≢ c.loop-k.k = omega arith in rw get_or-set_other (c.loop-k.invariant.read k h))
          (let lt : c.loop-k.k < length c.loop-k.b-items = omega (arith, c.loop-k.invariant.long, c.loop-k-test.true) in rw get_or-set_same c.byte.ensures);
    }
