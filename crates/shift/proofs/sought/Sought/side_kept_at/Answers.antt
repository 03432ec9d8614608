-- `shift::sought::Sought::side_kept_at` meets its contract: the code's column is the one of the definition. Assumes nothing.
use Rattle.std.proofs.Common.{ap, ◌∙◌}
use Rattle.places.specs.Hours.{counted_column}
use Rattle.shift.specs.Columns.{side_keeps, side_kept_at}
use Rattle.shift.proofs.ShiftedLaws.{column-is}
use Rattle.shift.proofs.sought.Sought.side_kept_at.Goals as goal

pub returns : goal.returns
unfolding side_kept_at
returns c =
    let a = c.args in
    let s = a.self.now in
    let made = column-is s.tables.now.unit_prices.now s.places a.t _ c.shifted_prices-prices.ensures in
    c.side_keeps.ensures ∙ ap (λ prices. side_keeps a.sells s.tables.now.blocks.now s.set prices s.tables.now.count)
    (c.counted_prices-counted.ensures.0 ∙ ap (counted_column s.often) made)
