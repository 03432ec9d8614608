-- `guess::sets::closed` meets its contract: the first i blocks looked at; a parent's number is that of an earlier block. Assumes nothing.
use mathlib.Core.Path.{refl}
use native.Mathlib.Omega.{arith}
use Rattle.guess.specs.Sets.{all_with_parents}
use Rattle.guess.proofs.SetLaws.{with-parents-next, with-parents-none}
use Rattle.guess.proofs.sets.closed.Goals as goal
use Rattle.guess.proofs.sets.closed.Goals.{in-Some, in_default}

pub loop-i-init : goal.loop-i-init
unfolding all_with_parents
loop-i-init c = refl

pub loop-i-preserved : goal.loop-i-preserved
loop-i-preserved c =
    elim c.match-checked_sub.branch [
      | in-Some w ↦
          let parent = w.in-Some.ensures in
          rw w.r-is (with-parents-next c.args.blocks.now c.args.set c.loop-i.i c.loop-i.r _ c.loop-i.invariant parent.0 parent.1)
      | in_default w ↦
          let none = w.in_default.ensures in
          rw w.r-is (with-parents-none c.args.blocks.now c.args.set c.loop-i.i c.loop-i.r c.loop-i.invariant (omega (arith, none)))
    ]
