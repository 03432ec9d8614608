-- `exports::put_where_room` meets its contract: there is no room, or the bytes are put. Assumes nothing.
use mathlib.Core.Path.{refl}
use native.Mathlib.Omega.{arith}
use Rattle.text.proofs.TextLaws.{room-from}
use Rattle.exports.proofs.BufferLaws.{with-room, without-room}
use borrow.Author.Rules.{rules}
use Rattle.exports.proofs.put_where_room.Statement.{statement}
use Rattle.exports.proofs.put_where_room.Tie as tie

cast-result : tie.Need-overflow_cast-result
cast-result c = search rules

returns : tie.Need-returns-then-out-count
returns c = (refl, without-room _ _ (omega (arith, c.if-out-count.true)))

put-text-requires : tie.Need-put_text-requires
put-text-requires c κs = room-from _ 0 _ (omega (arith, c.if-out-count.false))

cast-result-2 : tie.Need-overflow_cast-result-2
cast-result-2 c = search rules

same_length : tie.Need-shape_of-out
same_length c = search rules

returns-2 : tie.Need-returns
returns-2 c = (refl, with-room _ _ _ (omega (arith, c.if-out-count.false)) c.put_text.ensures.written)

pub put_where_room_spec : {M : Type 1} → statement M
put_where_room_spec =
    tie.close (tie.spec cast-result returns put-text-requires cast-result-2 same_length returns-2)
