-- `exports::auction_read` meets its contract. Assumes nothing.
use mathlib.Core.Path.{sym, ◌∙◌}
use Rattle.book.proofs.Refused.{answer-accepted, answer-refused}
use Rattle.exports.proofs.auction_read.Goals as goal

pub returns-in-Ok : goal.returns-in-Ok
returns-in-Ok c = sym (answer-accepted _ _ (sym c.in-Ok.ensures)).0

pub returns-in-Err : goal.returns-in-Err
returns-in-Err c = c.number_of.ensures ∙ sym (answer-refused _ _ (sym c.in-Err.ensures)).1
