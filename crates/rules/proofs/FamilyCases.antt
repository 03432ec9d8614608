-- THE WORKED FAMILIES HOLD, from the rules alone. Prices are put in by certificate; what is left computes. Assumes nothing.
-- (The laws of families import it, so that a wrong rule is met here first.)
use Prim.Native.Nat.{ℕ}
use mathlib.Core.Bool.{Bool}
use mathlib.Core.Path.{◌≡◌, refl, ◌∙◌}
use mathlib.Core.List.{List, [], ◌∷◌}
use Rattle.rules.specs.Orders.{Block}
use Rattle.rules.specs.Day.{Day}
use Rattle.rules.specs.Families.{parent_of, is_below, is_of_family, block_gain, family_gain, Family, families_of}
use Rattle.rules.specs.WorkedFamilies.{FamilyCase, family_cases, FamiliesHold}
use Rattle.rules.proofs.CertifiedHours.{prices-tested, computed}

-- the lines with the tested prices in them, with the proof that they are the ones asked for
gain-as : (day : Day) (set : List Bool) (root asked : ℕ) → asked ≡ family_gain day set root → (value : ℕ) × (asked ≡ value)
unfolding family_gain
gain-as day set root asked e = (_, rw (family_gain, prices-tested) at e)

lines-as : (day : Day) (set : List Bool) (l : List Block) (asked : List Family) → asked ≡ families_of day set l → (value : List Family) × (asked ≡ value)
unfolding families_of
lines-as day set [] asked e = (_, e)
lines-as day set (b ∷ l) asked e = (_, rw ((lines-as day set l _ refl).1, (gain-as day set b.number _ refl).1) at e)

abbrev LinesTested : List FamilyCase → Type 0
LinesTested [] = Unit {0}
LinesTested (c ∷ l) = ((lines-as c.day c.set c.day.blocks _ refl).0 ≡ c.lines) × LinesTested l

hold : (l : List FamilyCase) → LinesTested l → FamiliesHold l
hold [] h = tt
hold (c ∷ l) h = ((lines-as c.day c.set c.day.blocks _ refl).1 ∙ h.0, hold l h.1)

pub families-hold : FamiliesHold family_cases
unfolding computed family_cases parent_of is_below is_of_family block_gain lines-as gain-as
families-hold = hold family_cases (refl, (refl, (refl, (refl, tt))))
