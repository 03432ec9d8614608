-- `setup::nearest_twin` meets its contract: what is found among the blocks before j is such a twin. Assumes nothing.
use Rattle.std.proofs.Common.{◌≡◌, ℕ, Option, unwrap_or, ap, sym, ◌∙◌}
use Rattle.setup.proofs.SetupTwinLaws.{twin-here}
use Rattle.setup.proofs.twins.nearest_twin.Goals.{then-fits-is_no_worse, else-fits-is_no_worse}
use Rattle.setup.proofs.twins.nearest_twin.Goals as goal

pub loop-j-preserved : goal.loop-j-preserved
loop-j-preserved c =
    elim c.if-fits-is_no_worse.branch [
      | then-fits-is_no_worse w ↦ λ a e.
          let same : c.loop-j.j ≡ a = ap (λ (found : Option ℕ). unwrap_or found 0) (sym w.found-is ∙ e) in
          rw (← same) (twin-here _ _ _ _ _ _ _ c.loop-j-test.true c.may_exchange-twins.ensures c.is_no_worse.ensures w.if-fits-is_no_worse.true)
      | else-fits-is_no_worse w ↦ rw w.found-is c.loop-j.invariant
    ]
