-- `setup::fill_hour` meets its contract: the range has the place off, so there are gaps to fill. Assumes nothing.
use Rattle.setup.proofs.SetupTableLaws.{hour-room, hour-ranged}
use Rattle.setup.proofs.rows.fill_hour.Goals as goal

pub fill_gaps-turn-requires : goal.fill_gaps-turn-requires
fill_gaps-turn-requires c =
    let q = c.requires.held in
    let t = c.requires.table in
    hour-room _ _ _ _ _ _ _ t.1 t.0 q.0 q.1 q.2 _ _ _ _ _ q.3 c.clear_range-range.ensures

pub returns : goal.returns
returns c =
    let q = c.requires.held in
    let t = c.requires.table in
    let g = c.fill_gaps-turn in
    let r = hour-ranged _ _ _ _ _ _ _ t.1 t.0 q.0 q.1 q.2 _ _ _ _ g.result _ c.all_totals-all.ensures c.clear_range-range.ensures g.ensures.gaps in
    record { fits = r.0; ranged = r.1 }
