-- `search::decide::decide_at_shift` meets its contract: one law for a shift that is found, one for none. Assumes nothing.
use Rattle.shift.proofs.ChosenLaws.{chosen-small}
use Rattle.search.proofs.LimitLaws.{kept-found}
use Rattle.search.proofs.ShiftedLaws.{shift-missing, shift-found}
use Rattle.search.proofs.decide.decide_at_shift.Goals as goal

pub returns-in_default-clause-decided : goal.returns-in_default-clause-decided
returns-in_default-clause-decided c = λ gaps. shift-missing c.in_default.ensures

pub shifted_prices-shifted-requires : goal.shifted_prices-shifted-requires
shifted_prices-shifted-requires c =
    let p = c.requires.0 in
    (p.rows, p.prices_fit, p.places_fit, chosen-small _ _ _ _ _ _ c.in-Some.ensures)

pub returns-clause-kept : goal.returns-clause-kept
returns-clause-kept c =
    let found = c.found_at.ensures in
    kept-found _ _ _ _ found.limit_is found.tie_is found.fuel_is c.requires.4 c.requires.6

pub returns-clause-decided : goal.returns-clause-decided
returns-clause-decided c = λ gaps. shift-found c.in-Some.ensures c.shifted_prices-shifted.ensures c.found_at.ensures c.requires.4 c.requires.6
