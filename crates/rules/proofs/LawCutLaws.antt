-- WHERE A BRANCH CAN END. Prices fall as N rises; so a lawful set whose place in each hour lies in a range has its prices from those of the range's last
-- place at the least shift to those of its first at the greatest (L and H where prices can give way, else the middle), and each block it takes keeps its
-- limit at the best of these prices. Assumes nothing.
use Prim.Native.Nat.{ℕ, zero, suc, ◌*◌, ◌≤◌, ◌<◌}
use mathlib.Core.Bool.{Bool, true, false}
use mathlib.Core.Path.{◌≡◌, refl}
use mathlib.Core.List.{List, [], ◌∷◌}
use native.Mathlib.Omega.{arith}
use native.Mathlib.Nat.{le_trans}
use lib.Dec.{leb}
use lib.ListN.{length, get_or}
use borrow.Author.Tests.{leb-true, le-leb}
use Rattle.rules.specs.Orders.{Side, buy, sell, Block}
use Rattle.rules.specs.Execution.{test_side}
use Rattle.rules.specs.Day.{Day, steps_in, taken, over_blocks, buys, hour_count, price_sum, keeps_limit, every_block, lawful}
use Rattle.rules.specs.Contender.{Counts, PricesInRange, HoursInRange}
use Rattle.rules.proofs.Tests.{both, clash}
use Rattle.rules.proofs.TableLaws.{table_price, table-falls}
use Rattle.rules.proofs.ShiftLaws.{shifted-rises}
use Rattle.rules.proofs.SetShiftLaws.{price_sum-le}
use Rattle.rules.proofs.SetPriceLaws.{least_shift, most_shift, most-small, shift_fits, day_shift, is-shift}
use Rattle.rules.proofs.PlaceLaws.{place, prices_at, lawful-limits}

-- BLOCKS AT THEIR BEST: a block could keep its limit at prices from floor to cap
unfoldable pub could_keep : ℕ → (ℕ → ℕ) → (ℕ → ℕ) → Block → Bool
could_keep hours cap floor b =
    test_side b.side
    (leb (price_sum hours floor b) (b.price * hour_count hours b))
    (leb (b.price * hour_count hours b) (price_sum hours cap b))

module _ (hours : ℕ) (price cap floor : ℕ → ℕ)
    (under : (h : ℕ) → Counts hours h → price h ≤ cap h) (over : (h : ℕ) → Counts hours h → floor h ≤ price h) where
  pub keeps-could : (b : Block) → keeps_limit hours price b ≡ true → could_keep hours cap floor b ≡ true
  unfolding keeps_limit could_keep
  keeps-could b = go b.side (b.price * hour_count hours b)
    where
      go : (side : Side) (limit : ℕ) → test_side side (leb (price_sum hours price b) limit) (leb limit (price_sum hours price b)) ≡ true →
          test_side side (leb (price_sum hours floor b) limit) (leb limit (price_sum hours cap b)) ≡ true
      go buy limit e = le-leb (price_sum hours floor b) limit (omega (arith, leb-true (price_sum hours price b) limit e, price_sum-le hours floor price b over))
      go sell limit e = le-leb limit (price_sum hours cap b) (omega (arith, leb-true limit (price_sum hours price b) e, price_sum-le hours price cap b under))

-- a test that passes for all taken blocks passes for the one at any place that is taken
pub taken-passes : (t : Block → Bool) (l : List Block) (set : List Bool) → every_block t (taken l set) ≡ true →
    (j : ℕ) (other : Block) → j < length l → get_or set j false ≡ true → t (get_or l j other) ≡ true
taken-passes t [] set e j other k is = absurd (omega arith)
taken-passes t (b ∷ l) [] e j other k is = clash is refl
taken-passes t (b ∷ l) (true ∷ set) e zero other k is = (both (t b) (every_block t (taken l set)) e).0
taken-passes t (b ∷ l) (true ∷ set) e (suc j) other k is =
    taken-passes t l set (both (t b) (every_block t (taken l set)) e).1 j other (omega arith) is
taken-passes t (b ∷ l) (false ∷ set) e zero other k is = clash is refl
taken-passes t (b ∷ l) (false ∷ set) e (suc j) other k is = taken-passes t l set e j other (omega arith) is

-- A LAWFUL SET whose place in every hour that counts lies from lo to hi
pub record InReach (day : Day) (set : List Bool) (lo hi : ℕ → ℕ) : Type 0 where
  pub from : (h : ℕ) → Counts day.hours h → lo h ≤ place day.blocks set h
  pub to : (h : ℕ) → Counts day.hours h → place day.blocks set h ≤ hi h

module _ (day : Day) (prices : PricesInRange day.steps) (hours : HoursInRange day.steps)
    (set : List Bool) (size : length set ≡ length day.blocks) (law : lawful day set ≡ true)
    (lo hi : ℕ → ℕ) (reach : InReach day set lo hi) where
  abbrev at : ℕ → ℕ
  at = place day.blocks set

  abbrev T : List Block
  T = taken day.blocks set

  abbrev own : ℕ
  own = day_shift day T

  abbrev all-buys : ℕ → ℕ
  all-buys h = over_blocks (buys h) day.blocks

  module _ (h : ℕ) (k : Counts day.hours h) where
    -- its price is at most that of lo at the greatest shift of the edition, and at least that of hi at the least
    pub price-under : prices_at day own (place day.blocks set) h ≤ prices_at day (most_shift day.edition) lo h
    unfolding prices_at table_price
    price-under =
        le_trans (shifted-rises own (most_shift day.edition) _ _ (is-shift day T).most)
        (table-falls (most_shift day.edition) (most-small day.edition) (steps_in h day.steps) (lo h) (all-buys h) (at h) (all-buys h)
        (omega (arith, reach.from h k)))

    pub price-over : prices_at day (least_shift day.edition) hi h ≤ prices_at day own (place day.blocks set) h
    unfolding prices_at table_price
    price-over =
        le_trans (shifted-rises (least_shift day.edition) own _ _ (is-shift day T).least)
        (table-falls own (shift_fits (is-shift day T)) (steps_in h day.steps) (at h) (all-buys h) (hi h) (all-buys h) (omega (arith, reach.to h k)))

  -- each block taken could keep its limit at the best prices of the ranges: a sell at those of lo, a buy at those of hi
  pub taken-could : (j : ℕ) (other : Block) → j < length day.blocks → get_or set j false ≡ true →
      could_keep day.hours (prices_at day (most_shift day.edition) lo) (prices_at day (least_shift day.edition) hi) (get_or day.blocks j other) ≡ true
  taken-could j other k is =
      keeps-could day.hours (prices_at day own at) (prices_at day (most_shift day.edition) lo) (prices_at day (least_shift day.edition) hi)
      price-under price-over (get_or day.blocks j other)
      (taken-passes (keeps_limit day.hours (prices_at day own at)) day.blocks set (lawful-limits day set size prices hours law) j other k is)
