-- `setup::block_columns` meets its contract: the blocks before i are written. Assumes nothing.
use Rattle.std.proofs.Common.{arith, get_or, refl}
use Rattle.roots.proofs.SizeLaws.{limit-fits}
use Rattle.setup.proofs.SetupBlockLaws.{written_start, written_next, written_all}
use Rattle.setup.proofs.blocks.block_columns.Goals as goal

pub loop-i-init : goal.loop-i-init
loop-i-init c = written_start _ _ _ _ _ _ _

pub overflow_mul-limit : goal.overflow_mul-limit
overflow_mul-limit c =
    let v = c.loop-i in
    let fits = limit-fits (get_or c.args.blocks.now.prices v.i 0) c.args.day (get_or c.args.blocks.now.hours v.i 0) c.requires.2 (c.requires.0.prices_fit v.i c.loop-i-test.true) in
    rw c.counted_hours.ensures (record { fits = omega (arith, fits) })

pub price_sum-requires : goal.price_sum-requires
price_sum-requires c = c.requires.1

pub with_block-more-requires : goal.with_block-more-requires
with_block-more-requires c =
    let v = c.loop-i in
    let k = c.loop-i-test.true in
    let h = c.requires.0 in (
      omega (arith, h.few, k),
      h.quantities_fit v.i k,
      rw c.counted_hours.ensures (limit-fits (get_or c.args.blocks.now.prices v.i 0) c.args.day (get_or c.args.blocks.now.hours v.i 0) c.requires.2 (h.prices_fit v.i k)),
      c.price_sum.ensures.1,
    )

pub loop-i-preserved : goal.loop-i-preserved
loop-i-preserved c =
    written_next _ _ _ _ _ _ _ _ c.loop-i.columns _ _ _ _ _ _ c.loop-i.invariant c.requires.0 c.loop-i-test.true refl refl refl
    (rw c.counted_hours.ensures) c.price_sum.ensures.0 c.with_block-more.ensures

pub returns : goal.returns
returns c =
    let w = written_all _ _ _ _ _ _ _ _ _ c.loop-i.invariant c.loop-i-test.false in
    record { small = w.0; blocks = w.1 }
