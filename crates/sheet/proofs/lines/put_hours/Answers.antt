-- `put_hours` meets its contract: the lines of the hours 1 to h are put. Assumes nothing.
use mathlib.Core.Path.{◌≡◌, refl, ◌∙◌}
use native.Mathlib.Omega.{arith}
use Rattle.sheet.proofs.LineLaws.{put-none, no-hours, hour-room, hour-put}
use Rattle.sheet.proofs.lines.put_hours.Goals as goal

pub loop-h-init : goal.loop-h-init
loop-h-init c = (refl, rw (no-hours _ _) (put-none _ _))

pub put_hour-end-requires : goal.put_hour-end-requires
put_hour-end-requires c =
    rw (c.price_in.ensures, c.traded_in.ensures) (hour-room _ _ _ _ c.loop-h.h c.loop-h-test.true c.requires _ _ c.loop-h.invariant.1)

pub loop-h-preserved : goal.loop-h-preserved
loop-h-preserved c = (
  c.put_hour-end.auto.out ∙ c.loop-h.invariant.0,
  hour-put _ _ _ _ c.loop-h.h c.loop-h-test.true c.requires _ _ c.loop-h.invariant.1 _ _
      (rw (c.price_in.ensures, c.traded_in.ensures) at c.put_hour-end.ensures),
)

pub returns : goal.returns
returns c =
    let all : c.loop-h.h ≡ 24 = omega arith in
    rw all at c.loop-h.invariant.1
