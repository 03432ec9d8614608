-- `pricing::answer_in` meets its contract: the hour's part of the columns is priced. Assumes nothing.
use Rattle.std.proofs.Common.{◌≡◌, ◌+◌, ◌-◌, arith}
use Rattle.orders.proofs.HourLaws.{ends-rise, ends-fit}
use Rattle.pricing.proofs.CallLaws.{answer-is}
use Rattle.pricing.proofs.answer_in.Goals as goal

pub hour-requires : goal.hour-requires
hour-requires c =
    let pre = c.requires in
    let e : c.args.hour - 1 + 1 ≡ c.args.hour = omega arith in
    record {
      an_hour = omega arith;
      ordered = rw e (ends-rise _ _ _ _ _ _ c.steps_of-steps.ensures _ _ (omega arith) pre.2);
      fits = rw e (ends-fit _ _ _ _ _ _ c.steps_of-steps.ensures _ pre.2);
    }

pub returns : goal.returns
returns c =
    let pre = c.requires in
    let part = c.hour.ensures in
    let e : c.args.hour - 1 + 1 ≡ c.args.hour = omega arith in
    answer-is _ pre.0 _ _ _ _ _ c.steps_of-steps.ensures _ _ pre.1 pre.2 _ (rw (part.sides, part.prices, part.quantities, e) at c.answer_of.ensures)
