-- How large the numbers get that are chosen, multiplied, moved on and stored. Assumes nothing.
use Prim.Native.Nat.{ℕ, suc, ◌+◌, ◌-◌, ◌*◌, ◌≤◌, ◌<◌}
use mathlib.Core.Path.{◌≡◌, refl}
use mathlib.Core.List.{List}
use mathlib.Core.Bool.{Bool, true, false, cond}
use native.Mathlib.Omega.{arith}
use native.Mathlib.Decide.{dec_le}
use native.Mathlib.Nat.{lt_of_not-le, mul-le-mul}
use lib.ListN.{length, get_or, set}
use lib.Seq.{get_or-set_same, get_or-set_other}
use Rattle.records.specs.Records.{holds_hour}
use Rattle.fields.specs.Hours.{counted_hours}
use Rattle.rules.specs.Orders.{Side, buy, sell, max_price}
use Rattle.rules.specs.Hour.{by_side, when}
use Rattle.rules.specs.Day.{autumn_hours, hour_count}
use Rattle.rules.proofs.BoundsLaws.{weight-small, hour_count-small}
use Rattle.rules.proofs.CurveLaws.{when-le}
use Rattle.places.specs.Layout.{most_quantity, most_limit, hour_places}
use Rattle.places.specs.Hours.{Small, HasRows, row_width}
use Rattle.places.proofs.CellLaws.{row_fits}
use Rattle.roots.specs.Roots.{RowHeld}

-- a number for each side stays below what both do
pub side-le : (side : Side) (a b m : ℕ) → a ≤ m → b ≤ m → by_side side a b ≤ m
side-le buy a b m x y = x
side-le sell a b m x y = y

-- one number or the other stays below what both do
pub either-le : (t : Bool) (r a b m : ℕ) → r ≡ cond t a b → a ≤ m → b ≤ m → r ≤ m
either-le true r a b m e x y = rw e x
either-le false r a b m e x y = rw e y

-- a number or 0 stays below what the number does
pub chosen-le : (t : Bool) (a m : ℕ) → a ≤ m → cond t a 0 ≤ m
chosen-le t a m x = either-le t _ a 0 m refl x (omega arith)

pub product-fits : (q x : ℕ) → q ≤ most_quantity → x ≤ most_limit → q * x ≤ most_quantity * most_limit
product-fits q x a b = omega (arith, mul-le-mul a b)

-- a block's 24 hours count at most twice each
counted-few : (day x : ℕ) → day ≤ autumn_hours → counted_hours day x ≤ 2 * hour_places
unfolding counted_hours hour_count
counted-few day x few =
    hour_count-small day (λ h. weight-small day h few) (record { number = 0; portfolio = 0; side = buy; price = 0; quantity = 0; runs = holds_hour x })

pub limit-fits : (price day x : ℕ) → day ≤ autumn_hours → price ≤ max_price → price * counted_hours day x ≤ most_limit
limit-fits price day x few a = omega (arith, mul-le-mul a (counted-few day x few))

-- places moved on by a quantity in some hours
pub moved-most : (x q : ℕ) (places more : List ℕ) → length more ≡ hour_places →
    ((h : ℕ) → 1 ≤ h → h ≤ hour_places → get_or more (h - 1) 0 ≡ get_or places (h - 1) 0 + when (holds_hour x h) q) → (j : ℕ) → get_or more j 0 ≤ get_or places j 0 + q
moved-most x q places more size moved j = elim (dec_le hour_places j) [
  | yes k ↦ let z : length more ≤ j = omega arith in rw (lib.ListN.get_or-eq_default more 0 z) (omega arith)
  | no k ↦
      let one : suc j - 1 ≡ j = omega arith in
      let m : get_or more (suc j - 1) 0 ≡ get_or more j 0 = rw one in
      let n : get_or places (suc j - 1) 0 ≡ get_or places j 0 = rw one in
      omega (arith, moved (suc j) (omega arith) (omega (arith, lt_of_not-le k)), when-le (holds_hour x (suc j)) q)
]

-- a list of small numbers with one more written
pub set-small : (m : ℕ) (l : List ℕ) (h v : ℕ) → h < length l → v ≤ m → Small m l → Small m (set l h v)
set-small m l h v k a small j = elim (dec_le j h) [
  | yes b ↦ elim (dec_le h j) [
    | yes c ↦ let e : j ≡ h = omega arith in rw (e, get_or-set_same l h v 0 k) a
    | no c ↦ let d : j < h = lt_of_not-le c in rw (get_or-set_other l h j v 0 (λ e. omega arith)) (small j)
  ]
  | no b ↦ let d : h < j = lt_of_not-le b in rw (get_or-set_other l h j v 0 (λ e. omega arith)) (small j)
]

-- the row of an hour
pub row-held : (table : List ℕ) (h : ℕ) → HasRows table → h < hour_places → RowHeld table (h * row_width table) (row_width table)
row-held table h rows k =
    record { inside = row_fits table h (row_width table) k (omega arith); narrow = rows.1; table_fits = omega (arith, rows.1) }
