-- `put_lines` meets its contract: five parts, one after another. Assumes nothing.
use Rattle.text.specs.Text.{text}
use Rattle.sheet.proofs.LineLaws.{room-heading, room-hours, room-title, room-blocks, room-welfare, put_all}
use Rattle.sheet.proofs.lines.put_lines.Goals as goal

pub put_text-hours_at-requires : goal.put_text-hours_at-requires
unfolding text
put_text-hours_at-requires c =
    room-heading _ _ _ c.requires

pub put_hours-title_at-requires : goal.put_hours-title_at-requires
unfolding text
put_hours-title_at-requires c =
    room-hours _ _ _ c.requires _ _ c.put_text-hours_at.ensures

pub put_text-blocks_at-requires : goal.put_text-blocks_at-requires
unfolding text
put_text-blocks_at-requires c =
    room-title _ _ _ c.requires _ _ c.put_text-hours_at.ensures _ _ c.put_hours-title_at.ensures

pub put_blocks-welfare_at-requires : goal.put_blocks-welfare_at-requires
unfolding text
put_blocks-welfare_at-requires c =
    room-blocks _ _ _ c.requires _ _ c.put_text-hours_at.ensures _ _ c.put_hours-title_at.ensures _ _ c.put_text-blocks_at.ensures

pub put_line-requires : goal.put_line-requires
unfolding text
put_line-requires c =
    rw c.welfare_in.ensures
    (room-welfare _ _ _ c.requires _ _ c.put_text-hours_at.ensures _ _ c.put_hours-title_at.ensures _ _ c.put_text-blocks_at.ensures
    _ _ c.put_blocks-welfare_at.ensures)

pub returns : goal.returns
unfolding text
returns c =
    put_all _ _ _ c.requires _ _ c.put_text-hours_at.ensures _ _ c.put_hours-title_at.ensures _ _ c.put_text-blocks_at.ensures
    _ _ c.put_blocks-welfare_at.ensures _ _ (rw c.welfare_in.ensures at c.put_line.ensures)
