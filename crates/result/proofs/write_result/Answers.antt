-- `write_result` meets its contract: its three parts fill the buffer. Assumes nothing.
use mathlib.Core.Path.{◌≡◌}
use lib.ListN.{length}
use borrow.Author.Rules.{rules}
use Rattle.result.proofs.ByteLaws.{be-eight}
use Rattle.result.proofs.RowLaws.{parts_are}
use Rattle.result.proofs.write_result.Goals as goal

pub returns : goal.returns
returns c =
    let lp : length c.args.prices ≡ 24 = search rules in
    let lq : length c.args.quantities ≡ 24 = search rules in
    let welfare = rw (c.to_be_bytes.ensures, be-eight) at c.put.ensures in
    parts_are _ _ _ _ _ _ _ c.args.count _ c.requires.0 c.requires.2 lp lq
    welfare c.put_hours.ensures c.put_records.ensures
