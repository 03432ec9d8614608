-- `branches::judge::out_gains` meets its contract: none is out, or what the blocks up to number i would gain, of them that are. Assumes nothing.
use Rattle.std.proofs.Common.{refl, sym, arith}
use Rattle.branches.proofs.DecisionLaws.{gains-none, gains-start, gains-next}
use Rattle.branches.proofs.judge.out_gains.Goals as goal

pub returns-then-out-eq0 : goal.returns-then-out-eq0
returns-then-out-eq0 c = (sym (gains-none _ _ _ _ c.if-out-eq0.true), omega arith)

pub loop-i-init : goal.loop-i-init
loop-i-init c = gains-start _ _ _ _ c.requires.2

pub loop-i-preserved : goal.loop-i-preserved
loop-i-preserved c =
    rw c.from-gains.ensures (gains-next _ _ _ _ _ _ _ _ _ c.loop-i.invariant c.loop-i-test.true (λ _ _. refl) (sym c.is_out.ensures)
    c.choose-gain.ensures (omega arith))
