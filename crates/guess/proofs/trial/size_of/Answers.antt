-- `guess::trial::size_of` meets its contract: the sum over the first h hours; a row's numbers are small. Assumes nothing.
use mathlib.Core.Path.{◌≡◌, refl}
use native.Mathlib.Omega.{arith}
use Rattle.rules.specs.Day.{sum_to}
use Rattle.places.specs.Layout.{hour_places}
use Rattle.guess.specs.Urgency.{block_size}
use Rattle.guess.proofs.GuessLaws.{row_small, row_next}
use Rattle.guess.proofs.trial.size_of.Goals as goal

pub loop-h-init : goal.loop-h-init
unfolding sum_to
loop-h-init c = (omega arith, refl)

pub overflow_add-sum-in-loop-h : goal.overflow_add-sum-in-loop-h
overflow_add-sum-in-loop-h c = omega (arith, row_small _ c.requires.0 c.args.i c.loop-h.h)

pub loop-h-preserved : goal.loop-h-preserved
loop-h-preserved c = (
  omega (arith, row_small _ c.requires.0 c.args.i c.loop-h.h),
  row_next c.args.blocks.now c.args.i c.loop-h.h c.loop-h.sum c.loop-h.invariant.1,
)

pub returns : goal.returns
unfolding block_size
returns c =
    let all : c.loop-h.h ≡ hour_places = omega arith in
    rw (← all) c.loop-h.invariant.1
