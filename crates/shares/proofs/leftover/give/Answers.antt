-- `shares::leftover::give` meets its contract: the first i places have one more where they should. Assumes nothing.
use Rattle.std.proofs.Common.{◌≡◌, ◌∙◌, ◌+◌, ◌&&◌, ◌||◌, get_or, eqb, ltb}
use Rattle.rules.specs.Hour.{when}
use Rattle.shares.proofs.PassLaws.{one-when, extra_at, giving-at, giving-more}
use Rattle.shares.proofs.leftover.give.Goals as goal

pub loop-i-preserved : goal.loop-i-preserved
loop-i-preserved c =
    let l = c.loop-i in
    let a = c.args in
    let r = get_or a.rests.now l.i 0 in
    let one : c.from.result ≡ when (ltb a.cut r || (eqb r a.cut && ltb 0 l.room)) 1 = c.from.ensures ∙ one-when _ in
    let less : c.from-room.result ≡ when (eqb r a.cut && ltb 0 l.room) 1 = c.from-room.ensures ∙ one-when _ in
    let v : get_or l.out l.i 0 + c.from.result ≡ get_or a.out.now l.i 0 + extra_at a.cut l.room r = rw (giving-at _ _ _ _ c.requires.0 _ _ _ l.invariant, one) in
    rw less (giving-more _ _ _ _ c.requires.0 _ _ _ _ l.invariant c.loop-i-test.true v)
