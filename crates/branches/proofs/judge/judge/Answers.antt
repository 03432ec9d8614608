-- `branches::judge::judge` meets its contract: one law for each reason to drop a branch, and one for what is out of it. Assumes nothing.
use Rattle.std.proofs.Common.{rules, sym, ◌∙◌, arith}
use lib.ListN.{length-take, length-drop}
use borrow.Author.Tests.{le-leb, lt-leb}
use Rattle.branches.proofs.DropLaws.{dropped-by-loss, dropped-unbalanced, dropped-by-gaps, dropped-by-limit, judged-open}
use Rattle.places.proofs.ReachLaws.{to-fits, to-small, from-small}
use Rattle.branches.proofs.judge.judge.Goals as goal

pub returns-then-limit-charged : goal.returns-then-limit-charged
returns-then-limit-charged c = dropped-by-loss c.out_gains.ensures.0 c.if-limit-charged.true

pub returns-in_err-reach : goal.returns-in_err-reach
returns-in_err-reach c =
    rw c.from_residual.ensures (dropped-unbalanced c.out_gains.ensures.0 c.reach_at.ensures.rest (rw c.in_err-reach.was at c.reach_at.ensures.reached))

pub counted_least_gaps-requires : goal.counted_least_gaps-requires
counted_least_gaps-requires c =
    let p = c.requires in
    let reached = rw c.in_ok-reach.was at c.reach_at.ensures.reached in
    (p.0.gap_rows, simp (length-take, length-drop) (omega (arith, p.1)), to-fits reached p.0.last_in_gaps, p.0.change_few)

pub returns-then-limit-least : goal.returns-then-limit-least
returns-then-limit-least c =
    let reached = rw c.in_ok-reach.was at c.reach_at.ensures.reached in
    dropped-by-gaps c.out_gains.ensures.0 c.reach_at.ensures.rest reached (omega (arith, c.if-limit-least.true, c.counted_least_gaps.ensures.0))

pub bounds_at-bounds-requires : goal.bounds_at-bounds-requires
bounds_at-bounds-requires c =
    let p = c.requires.0 in
    let reached = rw c.in_ok-reach.was at c.reach_at.ensures.reached in
    (p.price_rows, p.prices_fit, from-small reached p.last_in_prices (search rules), to-small reached p.last_in_prices (search rules), p.change_few)

pub returns-then-not-keeps_limits : goal.returns-then-not-keeps_limits
returns-then-not-keeps_limits c =
    let reached = rw c.in_ok-reach.was at c.reach_at.ensures.reached in
    dropped-by-limit c.out_gains.ensures.0 c.reach_at.ensures.rest reached c.bounds_at-bounds.ensures (sym c.keeps_limits.ensures ∙ c.if-not-keeps_limits.true)

pub returns-then-limit-least-2 : goal.returns-then-limit-least-2
returns-then-limit-least-2 c =
    let reached = rw c.in_ok-reach.was at c.reach_at.ensures.reached in
    let judged = judged-open c.out_gains.ensures.0 c.reach_at.ensures.rest reached c.bounds_at-bounds.ensures c.requires.2 _
    c.ruled_out-ruled.ensures.out c.counted_least_gaps.ensures.0 c.ruled_out-ruled.ensures.gains.0 in
    judged.0 (le-leb _ _ c.if-limit-least-2.true)

pub returns : goal.returns
returns c =
    let reached = rw c.in_ok-reach.was at c.reach_at.ensures.reached in
    let judged = judged-open c.out_gains.ensures.0 c.reach_at.ensures.rest reached c.bounds_at-bounds.ensures c.requires.2 _
    c.ruled_out-ruled.ensures.out c.counted_least_gaps.ensures.0 c.ruled_out-ruled.ensures.gains.0 in
    judged.1 (lt-leb _ _ (omega (arith, c.if-limit-least-2.false)))
