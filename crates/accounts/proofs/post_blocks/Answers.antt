-- `post_blocks` meets its contract: the blocks before block i are posted. Assumes nothing.
use Rattle.std.proofs.Common.{◌≡◌, ◌-◌, ◌<◌, ◌∙◌, ℕ, suc, ap, add-one, arith, length, drop, drop-cons, map}
use Rattle.std.proofs.Math.Seq.{drop-length}
use Rattle.orders.specs.Columns.{block_records}
use Rattle.gains.proofs.GainLaws.{day-few, record_is, hours-are}
use Rattle.accounts.specs.Accounts.{block_in}
use Rattle.accounts.specs.Postings.{most_of_block}
use Rattle.accounts.proofs.WalkLaws.{underway-start, underway-room, underway-more, underway-done}
use Rattle.accounts.proofs.AccountLaws.{block_fit, side-is}
use Rattle.accounts.proofs.post_blocks.Goals as goal

pub loop-i-init : goal.loop-i-init
loop-i-init c =
    let all : c.blocks_of-blocks.result.count - 0 ≡ c.blocks_of-blocks.result.count = omega arith in
    rw all (underway-start _ _ _ _ _ _)

pub post_block-requires : goal.post_block-requires
post_block-requires c =
    let i = c.loop-i.i in
    let count = c.blocks_of-blocks.result.count in
    let columns = c.blocks_of-blocks.ensures in
    let inside : i < count = omega (arith, c.loop-i-test.true) in
    let a = c.requires.0 in
    let here = record_is _ a _ _ _ _ _ _ columns i inside in
    let left : count - i ≡ suc (count - suc i) = omega arith in
    let way = rw left at c.loop-i.invariant in (
      day-few _ a,
      rw here (side-is _ _ _ _ _ _ _ columns i inside),
      rw here (hours-are _ a _ _ _ _ _ _ columns i inside),
      rw here (block_fit _ a i (omega (arith, columns.counted))),
      record {
        size = omega (arith, way.size, c.requires.1.size);
        free = underway-room _ _ _ _ _ _ _ _ _ _ way (omega (arith, columns.few)) c.requires.1.free;
      },
    )

pub loop-i-preserved : goal.loop-i-preserved
unfolding block_in
loop-i-preserved c =
    let i = c.loop-i.i in
    let count = c.blocks_of-blocks.result.count in
    let columns = c.blocks_of-blocks.ensures in
    let inside : i < count = omega (arith, c.loop-i-test.true) in
    let a = c.requires.0 in
    let on_list : i < length (block_records c.args.priced.now.book.now) = omega (arith, columns.counted) in
    let here = record_is _ a _ _ _ _ _ _ columns i inside in
    let left : count - i ≡ suc (count - suc i) = omega arith in
    rw (add-one i)
    (underway-more _ _ _ _ _ _ _ _ _ _ _ (block_fit _ a i on_list) (rw (drop-cons (block_records c.args.priced.now.book.now) i 0 on_list, left) at c.loop-i.invariant)
    (rw here at c.post_block.ensures))

pub returns : goal.returns
returns c =
    let columns = c.blocks_of-blocks.ensures in
    let l = block_records c.args.priced.now.book.now in
    let all : c.loop-i.i ≡ length l = omega (arith, columns.counted, c.loop-i-test.false) in
    let none = ap (map (block_in c.args.priced.now.book.now c.args.priced.now.res.now)) (ap (λ (n : ℕ). drop n l) all ∙ drop-length l) in
    underway-done _ _ most_of_block _ _ _ _ _ _ _ none (omega (arith, columns.few)) c.loop-i.invariant
