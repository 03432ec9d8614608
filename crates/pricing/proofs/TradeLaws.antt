-- What the blocks of a set sell and buy in an hour, one block at a time. Assumes nothing.
use Prim.Native.Nat.{ℕ, suc, ◌+◌, ◌-◌, ◌*◌, ◌/◌, ◌%◌, ◌^◌, ◌≤◌, ◌<◌}
use mathlib.Core.Path.{◌≡◌, refl}
use mathlib.Core.List.{List}
use mathlib.Core.Bool.{Bool, true, false, ◌&&◌}
use native.Mathlib.Omega.{arith}
use native.Mathlib.Numerals.{add-one}
use lib.Dec.{eqb}
use lib.ListN.{length, drop, get_or, drop_of_length-le}
use lib.Seq.{drop-cons}
use Rattle.rules.specs.Orders.{Side, Block}
use Rattle.rules.specs.Hour.{by_side, when}
use Rattle.rules.specs.Day.{taken, decisions, over_blocks, sells, buys}
use Rattle.rules.proofs.CurveLaws.{when-le, by_side-le}
use Rattle.rules.proofs.TradeBounds.{take-one}
use Rattle.orders.specs.Columns.{side_for, block_of}
use Rattle.pricing.specs.Curves.{Columns, traders_from, TradesOf}
use Rattle.pricing.proofs.TotalsLaws.{side-sell}

-- ONE BLOCK, by the way it goes
module _ (t : Bool) (q a u : ℕ) where
  abbrev Traded : Side → ℕ → ℕ → Type 0
  Traded side u' a' = (u' ≡ u + when t (by_side side 0 q)) × (a' ≡ a + when t (by_side side q 0))

  pub bought-more : (s : ℕ) → t ≡ true → s ≡ 0 → Traded (side_for s) u (a + q)
  bought-more s e z = rw (e, z) (omega arith, omega arith)

  pub sold-more : (s : ℕ) → t ≡ true → (s ≡ 0 → ⊥) → Traded (side_for s) (u + q) a
  sold-more s e z = rw (e, side-sell s z) (omega arith, omega arith)

  pub not-traded : (s : ℕ) → t ≡ false → Traded (side_for s) u a
  not-traded s e = rw e (omega arith, omega arith)

-- ALL BLOCKS
when-when : (t u : Bool) (n : ℕ) → when t (when u n) ≡ when (t && u) n
when-when true u n = refl
when-when false u n = refl

module _ (sides hours quantities : List ℕ) (h : ℕ) where
  -- the blocks not yet counted, with what is left of the set
  abbrev rest_from : ℕ → ℕ → List Block
  rest_from i rest = taken (traders_from (drop i sides) (drop i hours) (drop i quantities)) (decisions (length sides - i) rest)

  abbrev all_from : ℕ → List Block
  all_from set = taken (traders_from sides hours quantities) (decisions (length sides) set)

  pub record Summed (set sales bought rest i : ℕ) : Type 0 where
    pub inside : i ≤ length sides
    pub sold : over_blocks (sells h) (all_from set) ≡ sales + over_blocks (sells h) (rest_from i rest)
    pub purchased : over_blocks (buys h) (all_from set) ≡ bought + over_blocks (buys h) (rest_from i rest)
    pub sales_fit : sales ≤ i * 2 ^ 32
    pub buys_fit : bought ≤ i * 2 ^ 32

  pub summed-none : (set : ℕ) → Summed set 0 0 set 0
  summed-none set =
      let e : length sides - 0 ≡ length sides = omega arith in
      record { inside = omega arith; sold = rw e (omega arith); purchased = rw e (omega arith); sales_fit = omega arith; buys_fit = omega arith }

  module _ (columns : Columns sides hours quantities) where
    rest_more : (f : Block → ℕ) (i rest : ℕ) → i < length sides →
        over_blocks f (rest_from i rest)
        ≡ when (eqb (rest % 2) 1) (f (block_of 0 0 (get_or sides i 0) (get_or hours i 0) 0 (get_or quantities i 0))) + over_blocks f (rest_from (i + 1) (rest / 2))
    unfolding traders_from decisions
    rest_more f i rest k =
        let kh : i < length hours = omega (arith, columns.as_many_prices) in
        let kq : i < length quantities = omega (arith, columns.as_many_quantities) in
        let e : length sides - i ≡ suc (length sides - (i + 1)) = omega arith in
        rw (e, add-one i, drop-cons sides i 0 k, drop-cons hours i 0 kh, drop-cons quantities i 0 kq)
        (take-one f (block_of 0 0 (get_or sides i 0) (get_or hours i 0) 0 (get_or quantities i 0))
        (traders_from (drop (suc i) sides) (drop (suc i) hours) (drop (suc i) quantities)) (eqb (rest % 2) 1)
        (decisions (length sides - suc i) (rest / 2)))

    rest-none : (f : Block → ℕ) (i rest : ℕ) → length sides ≤ i → over_blocks f (rest_from i rest) ≡ 0
    unfolding traders_from
    rest-none f i rest k = rw (drop_of_length-le sides k)

    pub summed-next : (set sales bought rest i sales' bought' : ℕ) → Summed set sales bought rest i → i < length sides → get_or quantities i 0 < 2 ^ 32 →
        sales' ≡ sales + when (eqb (rest % 2) 1 && eqb (get_or hours i 0 / 2 ^ (h - 1) % 2) 1) (by_side (side_for (get_or sides i 0)) 0 (get_or quantities i 0)) →
        bought' ≡ bought + when (eqb (rest % 2) 1 && eqb (get_or hours i 0 / 2 ^ (h - 1) % 2) 1) (by_side (side_for (get_or sides i 0)) (get_or quantities i 0) 0) →
        Summed set sales' bought' (rest / 2) (i + 1)
    summed-next set sales bought rest i sales' bought' s k small es eb =
        let q = get_or quantities i 0 in
        let side = side_for (get_or sides i 0) in
        let chosen = eqb (rest % 2) 1 in
        let runs = eqb (get_or hours i 0 / 2 ^ (h - 1) % 2) 1 in
        record {
          inside = omega arith;
          sold = omega (arith, s.sold, rest_more (sells h) i rest k, when-when chosen runs (by_side side 0 q));
          purchased = omega (arith, s.purchased, rest_more (buys h) i rest k, when-when chosen runs (by_side side q 0));
          sales_fit = omega (arith, s.sales_fit, when-le (chosen && runs) (by_side side 0 q), by_side-le side q);
          buys_fit = omega (arith, s.buys_fit, when-le (chosen && runs) (by_side side q 0), by_side-le side q);
        }

    pub summed-all : (set sales bought rest i : ℕ) → Summed set sales bought rest i → length sides ≤ i → TradesOf sides hours quantities set h sales bought
    summed-all set sales bought rest i s k =
        record { sold = omega (arith, s.sold, rest-none (sells h) i rest k); bought = omega (arith, s.purchased, rest-none (buys h) i rest k) }
