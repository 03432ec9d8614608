-- `put_families` meets its contract: the lines of the first i blocks are put. Assumes nothing.
use Rattle.std.proofs.Common.{◌≡◌, length, refl, ◌∙◌, arith}
use Rattle.families.proofs.LineLaws.{put-none, no_lines, line-room, line-put}
use Rattle.families.proofs.lines.put_families.Goals as goal

pub loop-i-init : goal.loop-i-init
loop-i-init c = (refl, rw (no_lines _ _ _ _) (put-none _ _))

pub put_root-end-requires : goal.put_root-end-requires
put_root-end-requires c =
    let loop = c.loop-i in
    record {
      columns = (c.requires.columns, c.loop-i-test.true);
      room = line-room _ _ _ _ loop.i c.loop-i-test.true _ _ c.requires.room _ _ loop.invariant.1;
    }

pub loop-i-preserved : goal.loop-i-preserved
loop-i-preserved c =
    let loop = c.loop-i in
    let root = c.put_root-end in
    (root.auto.out ∙ loop.invariant.0, line-put _ _ _ _ loop.i c.loop-i-test.true _ _ c.requires.room _ _ loop.invariant.1 _ _ root.ensures)

pub returns : goal.returns
returns c =
    let all : c.loop-i.i ≡ length c.args.gains.now = omega arith in
    rw all at c.loop-i.invariant.1
