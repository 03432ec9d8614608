-- `shares::share_out` meets its contract: the quotients rounded down, then the leftover tenths of each side. Assumes nothing.
use Rattle.std.proofs.Common.{arith}
use Rattle.shares.proofs.ShareOutLaws.{amounts-fit, buys-left-over, sells-left-over, first-room, second-room, shared-out}
use Rattle.shares.proofs.share_out.Goals as goal

pub round_down-left-requires : goal.round_down-left-requires
round_down-left-requires c = (c.requires.1, amounts-fit _ _ _ _ _ _ _ _ c.args.steps.now.sized c.requires.3 c.requires.0)

pub give_leftover-requires : goal.give_leftover-requires
give_leftover-requires c =
    let down = c.round_down-left in
    let sized = c.args.steps.now.sized in (
      omega (arith, c.requires.1, down.auto.out),
      c.requires.2,
      buys-left-over _ _ _ _ _ _ _ _ sized c.requires.3 c.requires.0 _ down.ensures.buys,
      first-room _ _ _ _ _ _ _ _ sized c.requires.3 c.requires.0 _ down.ensures.first,
    )

pub give_leftover-requires-2 : goal.give_leftover-requires-2
give_leftover-requires-2 c =
    let down = c.round_down-left in
    let first = c.give_leftover in
    let sized = c.args.steps.now.sized in (
      omega (arith, c.requires.1, down.auto.out, first.auto.out),
      omega (arith, c.requires.2, first.auto.rests),
      sells-left-over _ _ _ _ _ _ _ _ sized c.requires.3 c.requires.0 _ down.ensures.sells,
      second-room _ _ _ _ _ _ _ _ sized c.requires.3 c.requires.0 _ _ _ down.ensures.first first.ensures,
    )

pub returns : goal.returns
returns c =
    let down = c.round_down-left.ensures in
    shared-out _ _ _ _ _ _ _ _ c.args.steps.now.sized c.requires.3 _ _ _ _ _ down.first down.buys down.sells
    c.give_leftover.ensures c.give_leftover-2.ensures
