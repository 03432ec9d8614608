-- `search::explore::explore` meets its contract: a branch is dropped, decided, or explored with its next block taken and then left out; only left out where it
-- is out, and of twins only one way where the other is decided. Assumes nothing.
use Rattle.std.proofs.Common.{ℕ, ◌+◌, ◌-◌, ◌≤◌, ◌<◌, ◌≡◌, refl, sym, ◌∙◌, arith}
use Rattle.branches.proofs.DecisionLaws.{neither}
use Rattle.search.proofs.ExploredLaws.{
  kept-longer,
  kept-joined,
  held-spent,
  explored-dropped,
  explored-judged,
  explored-decided,
  explored-rivalled,
  explored-both,
  explored-spent,
  explored-left,
  explored-taken,
}
use Rattle.search.proofs.explore.+explore.Goals as goal

-- the number of decided blocks grows by one
one_more : (count left : ℕ) → left ≤ count → 0 < left → count - left + 1 ≡ count - (left - 1)
one_more count left le some = omega arith

pub returns-in_default-clause-explored : goal.returns-in_default-clause-explored
returns-in_default-clause-explored t c = explored-dropped c.requires.5.tie_fits c.limit_at-limit.ensures c.in_default.ensures

pub returns-then-left-eq0-clause-explored : goal.returns-then-left-eq0-clause-explored
returns-then-left-eq0-clause-explored t c =
    let e : c.args.tables.now.count - c.args.left ≡ c.args.tables.now.count = omega (arith, c.if-left-eq0.true) in
    explored-decided c.if-left-eq0.true (rw e at c.requires.4.set_fits) c.decide.ensures.decided

pub returns-then-is_rivalled-clause-explored : goal.returns-then-is_rivalled-clause-explored
returns-then-is_rivalled-clause-explored t c =
    explored-judged c.limit_at-limit.ensures c.in-Some.ensures (explored-rivalled (c.is_rivalled.ensures c.if-is_rivalled.true _ refl refl))

pub explore-requires : goal.explore-requires
explore-requires t c =
    let p = c.requires in
    let some : 0 < c.args.left = grind arith in
    (omega (arith, c.decreases), (p.0, p.1, p.2, omega (arith, p.3), rw (one_more _ _ p.3 some) at c.leave-without.ensures.0, p.5))

pub returns-then-is_out-is_barred-clause-kept : goal.returns-then-is_out-is_barred-clause-kept
returns-then-is_out-is_barred-clause-kept t c =
    let some : 0 < c.args.left = grind arith in
    kept-longer _ _ _ some c.explore.ensures.kept

pub returns-then-is_out-is_barred-clause-explored : goal.returns-then-is_out-is_barred-clause-explored
returns-then-is_out-is_barred-clause-explored t c =
    let p = c.requires in
    let some : 0 < c.args.left = grind arith in
    explored-judged c.limit_at-limit.ensures c.in-Some.ensures
    (explored-left _ some p.3 p.4.set_fits p.5.tie_fits
    (rw (c.is_out.ensures, c.is_barred.ensures) at c.if-is_out-is_barred.true) c.leave-without.ensures.1 c.explore.ensures.explored)

pub explore-taken-requires : goal.explore-taken-requires
explore-taken-requires t c =
    let p = c.requires in
    let some : 0 < c.args.left = grind arith in
    (omega (arith, c.decreases), (p.0, p.1, p.2, omega (arith, p.3), rw (one_more _ _ p.3 some) at c.take-with.ensures.0, p.5))

pub returns-then-taken-eq0-clause-kept : goal.returns-then-taken-eq0-clause-kept
returns-then-taken-eq0-clause-kept t c =
    let some : 0 < c.args.left = grind arith in
    kept-longer _ _ _ some c.explore-taken.ensures.kept

pub returns-then-taken-eq0-clause-explored : goal.returns-then-taken-eq0-clause-explored
returns-then-taken-eq0-clause-explored t c =
    let p = c.requires in
    let some : 0 < c.args.left = grind arith in
    explored-judged c.limit_at-limit.ensures c.in-Some.ensures
    (explored-spent _ some p.3 p.4.set_fits p.5.tie_fits (sym c.is_barred.ensures ∙ (neither c.is_out.result c.is_barred.result c.if-is_out-is_barred.false).1)
    c.take-with.ensures.1 c.if-taken-eq0.true
    c.explore-taken.ensures.explored)

pub returns-then-is_due-clause-kept : goal.returns-then-is_due-clause-kept
returns-then-is_due-clause-kept t c =
    let some : 0 < c.args.left = grind arith in
    kept-longer _ _ _ some c.explore-taken.ensures.kept

pub returns-then-is_due-clause-explored : goal.returns-then-is_due-clause-explored
returns-then-is_due-clause-explored t c =
    let p = c.requires in
    let some : 0 < c.args.left = grind arith in
    explored-judged c.limit_at-limit.ensures c.in-Some.ensures
    (explored-taken _ some p.3 p.4.set_fits p.5.tie_fits (sym c.is_barred.ensures ∙ (neither c.is_out.result c.is_barred.result c.if-is_out-is_barred.false).1)
    (sym c.is_due.ensures ∙ c.if-is_due.true) c.take-with.ensures.1 c.explore-taken.ensures.explored)

pub explore-requires-2 : goal.explore-requires-2
explore-requires-2 t c =
    let p = c.requires in
    let some : 0 < c.args.left = grind arith in
    (omega (arith, c.decreases), (p.0, p.1, p.2, omega (arith, p.3), rw (one_more _ _ p.3 some) at c.leave-without.ensures.0, held-spent _ _ _ p.5 c.explore-taken.ensures.kept))

pub returns-clause-kept : goal.returns-clause-kept
returns-clause-kept t c =
    let some : 0 < c.args.left = grind arith in
    let fuel : 0 < c.explore-taken.result.fuel = omega arith in
    kept-joined _ _ _ _ some fuel c.explore-taken.ensures.kept c.explore-2.ensures.kept

pub returns-clause-explored : goal.returns-clause-explored
returns-clause-explored t c =
    let p = c.requires in
    let some : 0 < c.args.left = grind arith in
    let fuel : 0 < c.explore-taken.result.fuel = omega arith in
    explored-judged c.limit_at-limit.ensures c.in-Some.ensures
    (explored-both _ some p.3 p.4.set_fits p.5.tie_fits (sym c.is_barred.ensures ∙ (neither c.is_out.result c.is_barred.result c.if-is_out-is_barred.false).1)
    c.take-with.ensures.1 c.leave-without.ensures.1 fuel c.explore-taken.ensures.kept c.explore-2.ensures.kept c.explore-taken.ensures.explored
    c.explore-2.ensures.explored)
