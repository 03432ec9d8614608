-- `put_portfolios` meets its contract: the lines of the portfolios 1 to p are put. Assumes nothing.
use mathlib.Core.Path.{◌≡◌, refl, ◌∙◌}
use native.Mathlib.Omega.{arith}
use Rattle.cash.proofs.LineLaws.{put-none, no_lines, line-room, line-put}
use Rattle.cash.proofs.lines.put_portfolios.Goals as goal

pub loop-p-init : goal.loop-p-init
loop-p-init c = (refl, rw (no_lines _) (put-none _ _))

pub put_portfolio-end-requires : goal.put_portfolio-end-requires
put_portfolio-end-requires c =
    (c.requires.0, line-room _ c.loop-p.p c.loop-p-test.true _ _ c.requires.1 _ _ c.loop-p.invariant.1)

pub loop-p-preserved : goal.loop-p-preserved
loop-p-preserved c = (
  c.put_portfolio-end.auto.out ∙ c.loop-p.invariant.0,
  line-put _ c.loop-p.p c.loop-p-test.true _ _ c.requires.1 _ _ c.loop-p.invariant.1 _ _ c.put_portfolio-end.ensures,
)

pub returns : goal.returns
returns c =
    let all : c.loop-p.p ≡ 255 = omega arith in
    rw all at c.loop-p.invariant.1
