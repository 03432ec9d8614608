-- `put_blocks` meets its contract: the lines of the first i blocks are put. Assumes nothing.
use mathlib.Core.Path.{◌≡◌, refl, ◌∙◌}
use native.Mathlib.Omega.{arith}
use lib.ListN.{length}
use lib.Seq.{take-length}
use Rattle.orders.specs.Columns.{block_records}
use Rattle.orders.proofs.FrontLaws.{block-records-front}
use Rattle.sheet.proofs.LineLaws.{put-none, no_blocks, block_room, block-put}
use Rattle.sheet.proofs.lines.put_blocks.Goals as goal

pub loop-i-init : goal.loop-i-init
loop-i-init c = (refl, rw (no_blocks _ _) (put-none _ _))

pub put_block-end-requires : goal.put_block-end-requires
put_block-end-requires c =
    let blocks = c.blocks_of-blocks.ensures in
    rw (c.number_of.ensures, c.is_taken-taken.ensures)
    (block_room _ _ _ _ _ c.loop-i.i (block-records-front blocks) blocks.counted c.loop-i-test.true _ _ c.requires _ _ c.loop-i.invariant.1)

pub loop-i-preserved : goal.loop-i-preserved
loop-i-preserved c =
    let blocks = c.blocks_of-blocks.ensures in (
      c.put_block-end.auto.out ∙ c.loop-i.invariant.0,
      block-put _ _ _ _ _ c.loop-i.i (block-records-front blocks) blocks.counted c.loop-i-test.true _ _ c.requires _ _ c.loop-i.invariant.1 _ _
          (rw (c.number_of.ensures, c.is_taken-taken.ensures) at c.put_block-end.ensures),
    )

pub returns : goal.returns
returns c =
    let all : c.loop-i.i ≡ length (block_records c.args.book.now) = omega (arith, c.blocks_of-blocks.ensures.counted) in
    rw (all, take-length) at c.loop-i.invariant.1
