-- A step of `chains::following::Walk` meets its contract: it gives the first of the indices that are left, and leaves the others. Assumes nothing.
use Rattle.std.proofs.Common.{ap, arith, length}
use Rattle.chains.proofs.Laws.{chain-none, chain-end, chain_more}
use Rattle.chains.proofs.following.WalkIterator.next.Goals as goal
use Rattle.chains.proofs.following.WalkIterator.next.Goals.{then-self-eq0-via-then-self-eq0, then-self-eq0-via-else-self-eq0+then-self-eq0-2}

pub returns-then-self-eq0-clause-steps : goal.returns-then-self-eq0-clause-steps
returns-then-self-eq0-clause-steps c =
    elim c.then-self-eq0.branch [
      | then-self-eq0-via-then-self-eq0 w ↦ let e = chain-none _ _ _ (omega arith) in (e, e)
      | then-self-eq0-via-else-self-eq0+then-self-eq0-2 w ↦ let e = chain-end _ _ _ w.if-self-eq0-2.true in (e, e)
    ]

pub returns-clause-steps : goal.returns-clause-steps
returns-clause-steps c = rw c.next_of-self.ensures (chain_more _ _ _ (omega arith) c.if-self-eq0-2.false)

pub returns-clause-goes : goal.returns-clause-goes
returns-clause-goes c =
    let e = ap length (returns-clause-steps c) in
    record { on = λ f. (tt, tt, omega (arith, e)); keeps = tt; rests = λ f. tt }
