-- `records::records::hour_count` meets its contract. Before hour h + 1 the rest is the hours divided by 2 to the power h, and the count
-- is that of the hours 1 to h. Assumes nothing.
use Rattle.std.proofs.Common.{refl, sym, arith, add-one}
use native.Mathlib.Nat.{div-one, div-div-eq-div-mul, pow-suc}
use borrow.Author.Tests.{eq-eqb, ne_eqb}
use Rattle.records.specs.Records.{hours_set}
use Rattle.records.proofs.Laws.{hour-more}
use Rattle.records.proofs.records.hour_count.Goals as goal
use Rattle.records.proofs.records.hour_count.Goals.{then-rest-eq1, else-rest-eq1}

pub loop-init : goal.loop-init
unfolding hours_set
loop-init c = record { rest_is = sym (div-one _); count_is = refl; few = omega arith }

pub loop-preserved : goal.loop-preserved
loop-preserved c =
    let e = c.loop.invariant.rest_is in
    record {
      rest_is = rw (e, div-div-eq-div-mul, add-one, pow-suc);
      count_is = elim c.if-rest-eq1.branch [
        | then-rest-eq1 w ↦ rw (w.count-is, hour-more, ← e, eq-eqb _ _ w.if-rest-eq1.true) (omega arith)
        | else-rest-eq1 w ↦ rw (w.count-is, hour-more, ← e, ne_eqb _ _ w.if-rest-eq1.false) (omega arith)
      ];
      few = elim c.if-rest-eq1.branch [ then-rest-eq1 w ↦ omega arith | else-rest-eq1 w ↦ omega arith ];
    }
