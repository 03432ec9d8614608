-- `places::limits::keeps_limits` meets its contract: the blocks from number i on keep their limits. Assumes nothing.
use Rattle.std.proofs.Common.{sym, ◌∙◌}
use Rattle.places.proofs.LimitLaws.{keep-none, keep-fails, keep-passes, keep-skips}
use Rattle.places.proofs.limits.keeps_limits.Goals as goal

pub returns-then-not-keeps_limit : goal.returns-then-not-keeps_limit
returns-then-not-keeps_limit c =
    sym (c.loop-i.invariant ∙ keep-fails _ _ _ _ _ c.loop-i-test.true c.if-chosen-eq1.true (sym c.keeps_limit.ensures ∙ c.if-not-keeps_limit.true))

pub loop-i-preserved-else-not-keeps_limit : goal.loop-i-preserved-else-not-keeps_limit
loop-i-preserved-else-not-keeps_limit c =
    c.loop-i.invariant ∙ keep-passes _ _ _ _ _ c.loop-i-test.true c.if-chosen-eq1.true (sym c.keeps_limit.ensures ∙ c.if-not-keeps_limit.false)

pub loop-i-preserved : goal.loop-i-preserved
loop-i-preserved c = c.loop-i.invariant ∙ keep-skips _ _ _ _ _ c.loop-i-test.true c.if-chosen-eq1.false

pub returns : goal.returns
returns c = sym (c.loop-i.invariant ∙ keep-none _ _ _ _ _ c.loop-i-test.false)
