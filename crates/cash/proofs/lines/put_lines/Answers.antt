-- `put_lines` meets its contract: the title, the lines of the portfolios, the totals. Assumes nothing.
use Rattle.text.specs.Text.{text}
use Rattle.cash.proofs.LineLaws.{room-title, room-lines, room_word, room-totals, put_all}
use Rattle.cash.proofs.lines.put_lines.Goals as goal

pub put_text-lines_at-requires : goal.put_text-lines_at-requires
unfolding text
put_text-lines_at-requires c =
    room-title c.args.accounts.now _ c.requires.1

pub put_portfolios-totals_at-requires : goal.put_portfolios-totals_at-requires
unfolding text
put_portfolios-totals_at-requires c =
    (c.requires.0, room-lines c.args.accounts.now _ c.requires.1 _ _ c.put_text-lines_at.ensures)

pub put_text-behind_word-requires : goal.put_text-behind_word-requires
unfolding text
put_text-behind_word-requires c =
    room_word c.args.accounts.now _ c.requires.1 _ _ c.put_text-lines_at.ensures _ _ c.put_portfolios-totals_at.ensures

pub put_cash-requires : goal.put_cash-requires
unfolding text
put_cash-requires c = (
  c.requires.0,
  room-totals c.args.accounts.now _ c.requires.1 _ _ c.put_text-lines_at.ensures _ _ c.put_portfolios-totals_at.ensures _ _ c.put_text-behind_word.ensures,
)

pub returns : goal.returns
unfolding text
returns c =
    put_all c.args.accounts.now _ c.requires.1 _ _ c.put_text-lines_at.ensures _ _ c.put_portfolios-totals_at.ensures _ _ c.put_text-behind_word.ensures _ _
    c.put_cash.ensures
