-- `setup::joined` meets its contract: the hours before h stand in the three columns, and the day's two numbers behind them. Assumes nothing.
use Rattle.std.proofs.Common.{◌≡◌, ℕ, Bool, true, false, cond, rules, refl, ap, ◌∙◌}
use mir.Val.{bool_byte}
use Rattle.setup.proofs.SetupTwinLaws.{joined-start, joined-next, joined-all}
use Rattle.setup.proofs.rows.joined.Goals as goal

byte_is : (b : Bool) → bool_byte b ≡ cond b 1 0
byte_is true = refl
byte_is false = refl

pub loop-h-init : goal.loop-h-init
loop-h-init c = rw (c.from.ensures ∙ byte_is _ ∙ ap (λ (b : Bool). cond {A = ℕ} b 1 0) c.gives_way.ensures) (joined-start _ _ _ _ _)

pub loop-h-preserved : goal.loop-h-preserved
loop-h-preserved c = joined-next _ _ _ _ _ _ _ c.loop-h.invariant c.loop-h-test.true

pub returns : goal.returns
returns c = joined-all _ _ _ _ _ _ _ c.loop-h.invariant c.loop-h-test.false (search rules) (search rules) (search rules) _ refl
