-- `shift::sought::Sought::lower_shift` meets its contract: a law for each way out. Assumes nothing.
use Rattle.std.proofs.Common.{sym, ◌∙◌, arith}
use Rattle.shift.proofs.ChosenLaws.{no-buys-way, apart-way, lower-way}
use Rattle.shift.proofs.sought.Sought.lower_shift.Goals as goal

pub returns-then-not-side_kept_at : goal.returns-then-not-side_kept_at
returns-then-not-side_kept_at c = no-buys-way _ _ _ _ _ _ (sym c.side_kept_at.ensures ∙ c.if-not-side_kept_at.true)

pub last_before-t-requires : goal.last_before-t-requires
last_before-t-requires c =
    record {
      apart = (omega arith, omega arith);
      first_value = sym c.side_kept_at.ensures ∙ c.if-not-side_kept_at.false;
      last_value = c.requires;
    }

pub returns-then-not-side_kept_at-2 : goal.returns-then-not-side_kept_at-2
returns-then-not-side_kept_at-2 c =
    apart-way _ _ _ _ _ _ c.last_before-t.result (sym c.side_kept_at-2.ensures ∙ c.if-not-side_kept_at-2.true) c.last_before-t.ensures.behind

pub returns : goal.returns
returns c = lower-way _ _ _ _ _ _ c.last_before-t.result c.last_before-t.ensures (sym c.side_kept_at-2.ensures ∙ c.if-not-side_kept_at-2.false)
