-- `branches::judge::is_forced` meets its contract: no block is decided, or the last one's bit tells its other decision. Assumes nothing.
use borrow.Author.Tests.{eq-eqb, ne_eqb}
use Rattle.branches.proofs.DecisionLaws.{forced-none, forced-taken, forced-left}
use Rattle.branches.proofs.judge.is_forced.Goals as goal
use Rattle.branches.proofs.judge.is_forced.Lts.{then-taken, else-taken}

pub returns-then-at-eq0 : goal.returns-then-at-eq0
returns-then-at-eq0 c = forced-none _ _ _ _ _ c.if-at-eq0.true

pub returns : goal.returns
returns c =
    let s = c.args in
    let some = c.if-at-eq0.false in
    elim c.if-taken.branch [
      | then-taken w ↦ rw (c.from.ensures, w.other-is) (forced-taken s.blocks.now s.at s.set s.loss s.limit some (eq-eqb _ 1 w.if-taken.true))
      | else-taken w ↦ rw (c.from.ensures, w.other-is) (forced-left s.blocks.now s.at s.set s.loss s.limit some (ne_eqb _ 1 w.if-taken.false))
    ]
