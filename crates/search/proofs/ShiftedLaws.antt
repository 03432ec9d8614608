-- A DECIDED SET where prices can give way: the shift found by the columns is the set's own, or there is none and the set is not lawful. Assumes nothing.
use Prim.Native.Nat.{ℕ, ◌≤◌, ◌<◌}
use mathlib.Core.Path.{◌≡◌, refl, sym, ap, ◌∙◌, fun_ext}
use mathlib.Core.List.{List}
use mathlib.Core.Bool.{Bool}
use mathlib.Core.Option.{some, none}
use native.Mathlib.Omega.{arith}
use lib.ListN.{length}
use Rattle.rules.specs.Orders.{Step}
use Rattle.rules.specs.Shift.{shifted, nearest_shift, all_shifts}
use Rattle.rules.specs.Day.{Day, taken, keeps_all}
use Rattle.rules.proofs.SetShiftLaws.{shift_small, shift-chosen, shift-not-chosen}
use Rattle.rules.proofs.SetPriceLaws.{any-shift, own-shift}
use Rattle.places.specs.Layout.{hour_places, most_loss}
use Rattle.places.specs.Hours.{PlacesClear, PricesOf}
use Rattle.shift.specs.Columns.{shifted_column, chosen_shift}
use Rattle.shift.proofs.ShiftedLaws.{column-size, column-of}
use Rattle.shift.proofs.ChosenLaws.{chosen-small}
use Rattle.branches.specs.Tables.{Tables}
use Rattle.branches.specs.Meaning.{Known, Branch}
use Rattle.branches.specs.declared.Node.{Node}
use Rattle.search.specs.Meaning.{limit_at, FoundAt, ShiftDecided}
use Rattle.search.proofs.DecidedLaws.{priced-at, keeps-by-columns, prices-are, limits-kept, limits-broken, becomes-best, leaf-as-it-was}
use Rattle.search.specs.declared.Best.{Best}

-- THE CHOICE by the columns is the choice by the set
module _ {tables : Tables} {node : Node} {day : Day} {p rest : ℕ → ℕ} (known : Known day p rest tables) {d : List Bool} (branch : Branch day p d node)
    (whole : length d ≡ tables.count) (inside : PlacesClear tables.first tables.last node.places) where
  chosen-same : nearest_shift (keeps_all day (taken day.blocks d)) all_shifts
      ≡ chosen_shift tables.unit_prices tables.blocks tables.count node.set node.places tables.change
  unfolding chosen_shift
  chosen-same =
      ap (λ (f : ℕ → Bool). nearest_shift f all_shifts) (fun_ext (λ t.
      keeps-by-columns known branch whole inside t (shifted_column tables.unit_prices node.places t) (column-size hour_places _)
      (priced-at known branch whole (shifted t) t (λ l h k. refl) (shifted_column tables.unit_prices node.places t) (column-of hour_places _))))

module _ {tables : Tables} {steps : ℕ → List Step} {node : Node} {limit : ℕ} {best : Best} where
  -- no shift keeps all blocks
  pub shift-missing : none ≡ chosen_shift tables.unit_prices tables.blocks tables.count node.set node.places tables.change →
      ShiftDecided tables steps node limit best best
  shift-missing is day p rest d same known branch tied closed whole room loses inside way =
      leaf-as-it-was (λ law. absurd (limits-broken known branch whole inside
      (rw (own-shift day (taken day.blocks d) (known.shifts_is ∙ way))
      (shift-not-chosen day (taken day.blocks d) (chosen-same known branch whole inside ∙ sym is) _
      (shift_small day (taken day.blocks d)))) law))

  -- the set at its shift
  pub shift-found : {found : ℕ} → some found ≡ chosen_shift tables.unit_prices tables.blocks tables.count node.set node.places tables.change →
      {prices : List ℕ} → PricesOf (shifted found) tables.unit_prices node.places prices → {fuel : ℕ} {r : Best} →
      FoundAt tables.blocks tables.count steps node limit fuel prices r → node.tie ≤ most_loss → limit < limit_at best.limit best.tie node.tie →
      ShiftDecided tables steps node limit best r
  shift-found {found} is {prices} priced at small less day p rest d same known branch tied closed whole room loses inside way =
      let gives = known.shifts_is ∙ way in
      let chosen = shift-chosen day (taken day.blocks d) (chosen-same known branch whole inside ∙ sym is) in
      becomes-best at small less loses tied same known branch whole room
      (limits-kept known branch whole inside closed (any-shift gives found (chosen-small _ _ _ _ _ _ is)) chosen.1)
      (prices-are known branch whole inside found prices priced.size (priced-at known branch whole (shifted found) found (λ l h z. refl) prices priced.are)
      (own-shift day (taken day.blocks d) gives ∙ chosen.0))
