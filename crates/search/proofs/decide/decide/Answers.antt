-- `search::decide::decide` meets its contract: one law for each way out. Assumes nothing.
use Rattle.std.proofs.Common.{rules, ℕ, ◌≡◌, true, not, eqb, refl, sym, ◌∙◌, arith}
use borrow.Author.Tests.{ne_eqb}
use Rattle.places.specs.Hours.{clears_first, clears_last}
use Rattle.places.proofs.CellLaws.{places-small}
use Rattle.search.proofs.LimitLaws.{kept-found}
use Rattle.search.proofs.DecidedLaws.{decided-unclear, decided-worse, decided-broken, decided-better, decided-at-shift}
use Rattle.search.proofs.decide.decide.Goals as goal

-- a number that is not 0
not-zero : (n : ℕ) → (n ≡ 0 → ⊥) → not (eqb n 0) ≡ true
not-zero n k = rw (ne_eqb n 0 k) refl

pub returns-in_default-clause-decided : goal.returns-in_default-clause-decided
returns-in_default-clause-decided c = decided-unclear c.in_default.ensures

pub returns-then-limit_at-total-clause-decided : goal.returns-then-limit_at-total-clause-decided
returns-then-limit_at-total-clause-decided c =
    decided-worse c.in-Some.ensures c.requires.5.tie_fits (omega (arith, rw c.limit_at.ensures at c.if-limit_at-total.true))

pub prices_at-middles-requires : goal.prices_at-middles-requires
prices_at-middles-requires c = (
  c.requires.0.price_rows,
  c.requires.0.prices_fit,
  places-small _ (clears_first c.args.tables.now.hours.now) (clears_last c.args.tables.now.hours.now) c.args.node.places
      c.in-Some.ensures.in_range c.requires.0.last_in_prices (search rules),
)

pub returns-then-keeps_limits-clause-kept : goal.returns-then-keeps_limits-clause-kept
returns-then-keeps_limits-clause-kept c =
    let found = c.found_at.ensures in
    kept-found _ _ _ _ found.limit_is found.tie_is found.fuel_is c.requires.4 (rw c.limit_at.ensures at c.if-limit_at-total.false)

pub returns-then-keeps_limits-clause-decided : goal.returns-then-keeps_limits-clause-decided
returns-then-keeps_limits-clause-decided c =
    decided-better c.in-Some.ensures c.prices_at-middles.ensures
    (rw c.counted_prices-counted.ensures.0 at (sym c.keeps_limits.ensures ∙ c.if-keeps_limits.true)) c.requires.4
    (rw c.limit_at.ensures at c.if-limit_at-total.false) c.found_at.ensures

pub returns-then-hours-eq0-clause-decided : goal.returns-then-hours-eq0-clause-decided
returns-then-hours-eq0-clause-decided c =
    decided-broken c.in-Some.ensures c.prices_at-middles.ensures
    (rw c.counted_prices-counted.ensures.0 at (sym c.keeps_limits.ensures ∙ c.if-keeps_limits.false))
    (rw c.if-hours-eq0.true refl)

pub decide_at_shift-requires : goal.decide_at_shift-requires
decide_at_shift-requires c = (
  record {
    rows = c.requires.0.price_rows;
    prices_fit = c.requires.0.prices_fit;
    places_fit = places-small _ (clears_first c.args.tables.now.hours.now) (clears_last c.args.tables.now.hours.now) c.args.node.places
        c.in-Some.ensures.in_range c.requires.0.last_in_prices (search rules);
    columns = c.requires.0.blocks_fit.columns;
    count_fits = c.requires.0.few;
    often_fits = c.requires.0.change_few;
  },
  c.requires.1,
  c.requires.0.blocks_fit,
  c.requires.2,
  c.requires.4,
  c.requires.5,
  rw c.limit_at.ensures at c.if-limit_at-total.false,
)

pub returns-clause-decided : goal.returns-clause-decided
returns-clause-decided c = decided-at-shift c.in-Some.ensures (not-zero _ c.if-hours-eq0.false) (c.decide_at_shift.ensures.decided _)
