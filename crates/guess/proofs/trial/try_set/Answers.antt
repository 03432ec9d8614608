-- `guess::trial::try_set` meets its contract: prices are read only where every hour clears. Assumes nothing.
use mathlib.Core.Path.{◌≡◌}
use lib.ListN.{length}
use Rattle.places.specs.Layout.{hour_places}
use Rattle.places.specs.Hours.{clears_first, clears_last}
use Rattle.places.proofs.CellLaws.{places-small}
use borrow.Author.Rules.{rules}
use Rattle.guess.proofs.trial.try_set.Goals as goal

pub prices_at-requires : goal.prices_at-requires
prices_at-requires c =
    let s = c.requires in
    let hours = c.args.tables.now.hours.now in
    let places = c.places_of-places.result in
    let size : length places ≡ hour_places = search rules in
    let gaps = c.in_ok-gaps.ensures in (
      s.price_rows,
      s.prices_fit,
      places-small _ (clears_first hours) (clears_last hours) places gaps.in_range s.last_in_prices size,
    )
