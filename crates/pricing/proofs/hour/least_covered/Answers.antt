-- `pricing::hour::least_covered` meets its contract: the least price that covers stays between low and high. Assumes nothing.
use Rattle.std.proofs.Common.{arith}
use Rattle.pricing.proofs.EndLaws.{between-not}
use Rattle.pricing.proofs.hour.least_covered.Goals as goal

pub loop-low-preserved : goal.loop-low-preserved
loop-low-preserved c =
    let v = c.loop-low.invariant in
    let t = c.totals_at-totals.ensures in
    record {
      positive = omega arith;
      ordered = omega arith;
      in_range = v.in_range;
      between = λ h. between-not _ _ _ _ _ (v.between h)
          (omega (arith, t.buys h, t.sells h, c.from.ensures, c.from-in-loop-low.ensures, c.if-totals-from.false));
    }
