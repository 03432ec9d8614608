-- HOW LARGE A GAIN GETS, for the code's number widths: of a day of at most 25 hours and 32 blocks of at most 250 each, at prices up to 300000, a block
-- gains at most 1,875,000,000 and a family at most 60,000,000,000. Assumes nothing.
use Prim.Native.Nat.{ℕ, ◌-◌, ◌*◌, ◌≤◌}
use mathlib.Core.Bool.{Bool}
use mathlib.Core.List.{List, [], ◌∷◌}
use native.Mathlib.Omega.{arith}
use native.Mathlib.Nat.{le_trans}
use lib.ListN.{length}
use Rattle.rules.specs.Orders.{Block, max_price}
use Rattle.rules.specs.Hour.{when}
use Rattle.rules.specs.Day.{Day, autumn_hours, weight, sum_to, day_sum, taken, over_blocks, set_prices, hour_count, price_sum}
use Rattle.rules.specs.Contender.{PricesInRange}
use Rattle.rules.specs.OutcomeRules.{EachBlock}
use Rattle.rules.specs.Families.{is_of_family, distance, block_gain, family_gain}
use Rattle.rules.proofs.FamilyCases
use Rattle.rules.proofs.CurveLaws.{when-le}
use Rattle.rules.proofs.HourSums.{day_sum-le, day_sum-times}
use Rattle.rules.proofs.BoundsLaws.{SmallBlock, product_le, price-small, taken-few, each-taken}

-- The most that a block gains, and a family.
abbrev pub most_block_gain : ℕ
most_block_gain = 1875000000

abbrev pub most_family_gain : ℕ
most_family_gain = 60000000000

module _ (hours : ℕ) (few : hours ≤ autumn_hours) where
  -- the hours count 25 times at most
  pub counted-few : day_sum hours (λ h. 1) ≤ 25
  unfolding day_sum sum_to weight
  counted-few = omega (arith, few)

  pub count-few : (b : Block) → hour_count hours b ≤ 25
  unfolding hour_count
  count-few b = le_trans (day_sum-le hours (λ h. when (b.runs h) 1) (λ h. 1) (λ h c. when-le (b.runs h) 1)) counted-few

  module _ (price : ℕ → ℕ) (small : (h : ℕ) → price h ≤ max_price) where
    pub sum-few : (b : Block) → price_sum hours price b ≤ 7500000
    unfolding price_sum
    sum-few b =
        let le = day_sum-le hours (λ h. when (b.runs h) (price h)) (λ h. 300000 * 1) (λ h c. omega (arith, when-le (b.runs h) (price h), small h)) in
        omega (arith, day_sum-times hours 300000 (λ h. 1), counted-few)

    pub gain-small : (b : Block) → SmallBlock b → block_gain hours price b ≤ most_block_gain
    unfolding block_gain
    gain-small b s =
        let limit = product_le b.price (hour_count hours b) 300000 25 s.price (count-few b) in
        let apart : distance (price_sum hours price b) (b.price * hour_count hours b) ≤ 7500000 = omega (arith, sum-few b) in
        product_le b.quantity (distance (price_sum hours price b) (b.price * hour_count hours b)) 250 7500000 s.quantity apart

    family-within : (t : Block → Bool) (l : List Block) → EachBlock SmallBlock l →
        over_blocks (λ b. when (t b) (block_gain hours price b)) l ≤ most_block_gain * length l
    family-within t [] each = omega arith
    family-within t (b ∷ l) each =
        omega (arith, when-le (t b) (block_gain hours price b), gain-small b each.0, family-within t l each.1)

pub family-small : (day : Day) (set : List Bool) (root : ℕ) → day.hours ≤ autumn_hours → PricesInRange day.steps →
    EachBlock SmallBlock day.blocks → length day.blocks ≤ 32 → family_gain day set root ≤ most_family_gain
unfolding family_gain
family-small day set root hours prices small few =
    omega (
      arith,
      family-within day.hours hours (set_prices day (taken day.blocks set)) (price-small day prices (taken day.blocks set))
          (λ b. is_of_family day.links root b.number) (taken day.blocks set) (each-taken SmallBlock day.blocks set small),
      taken-few day.blocks set,
    )
