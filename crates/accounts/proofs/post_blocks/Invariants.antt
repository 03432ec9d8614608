use Rattle.std.proofs.Common.{◌-◌, drop, map}
use Rattle.records.specs.Records.{day_hours}
use Rattle.orders.specs.Columns.{block_records}
use Rattle.result.specs.Result.{price_in}
use Rattle.accounts.specs.Accounts.{block_in, blocks_in}
use Rattle.accounts.specs.Postings.{most_of_block}
use Rattle.accounts.proofs.WalkLaws.{Underway}
use Rattle.accounts.proofs.post_blocks.Given as goal

abbrev pub invariant-loop-i : goal.invariant-loop-i
invariant-loop-i l =
    Underway (day_hours l.priced.book.now) (price_in l.priced.res.now) most_of_block (blocks_in l.priced.book.now l.priced.res.now) (map (block_in l.priced.book.now l.priced.res.now) (drop l.i (block_records l.priced.book.now)))
    l.blocks.count (l.blocks.count - l.i) l.initial.accounts l.accounts
