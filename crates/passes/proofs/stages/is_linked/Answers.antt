-- `passes::stages::is_linked` meets its contract: the blocks before i are looked at. Assumes nothing.
use Rattle.std.proofs.Common.{◌≡◌, refl, sym, arith}
use Rattle.passes.specs.Passes.{is_linked}
use Rattle.passes.proofs.PassLaws.{linked-none, linked-some}
use Rattle.passes.proofs.stages.is_linked.Goals as goal

pub loop-i-init : goal.loop-i-init
loop-i-init c = unfold is_linked in refl

pub returns-then-blocks-i-ne0 : goal.returns-then-blocks-i-ne0
returns-then-blocks-i-ne0 c = sym (linked-some _ _ _ c.loop-i-test.true c.if-blocks-i-ne0.true)

pub loop-i-preserved : goal.loop-i-preserved
loop-i-preserved c = linked-none _ _ c.loop-i.invariant c.if-blocks-i-ne0.false

pub returns : goal.returns
returns c =
    let e : c.loop-i.i ≡ c.args.count = omega (arith, c.loop-i-test.false) in
    sym (rw e at c.loop-i.invariant)
