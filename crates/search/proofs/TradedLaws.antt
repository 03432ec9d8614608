-- WHAT A DECIDED SET TRADES: what its blocks sell and buy in each hour, and with the steps the rules' traded quantity. Assumes nothing.
use Prim.Native.Nat.{ℕ, zero, suc, ◌+◌, ◌/◌, ◌%◌, ◌^◌, ◌≤◌, ◌<◌}
use mathlib.Core.Path.{◌≡◌, refl, sym, ◌∙◌}
use mathlib.Core.List.{List, [], ◌∷◌}
use mathlib.Core.Bool.{Bool, true, false}
use native.Mathlib.Omega.{arith}
use native.Mathlib.Nat.{suc_inj}
use lib.Dec.{eqb}
use lib.ListN.{length, drop, get_or}
use Rattle.rules.specs.Orders.{Step, Block}
use Rattle.rules.specs.Day.{Day, taken, decisions, over_blocks, sells, buys, hour_of, set_prices, lawful, traded}
use Rattle.rules.specs.Contender.{PricesInRange, HoursInRange}
use Rattle.rules.proofs.DayLaws.{clearable-clears}
use Rattle.rules.proofs.SetPriceLaws.{day_shift, price-at-shift, shift-price-positive}
use Rattle.rules.proofs.ExecutionLaws.{traded-lesser}
use Rattle.rules.proofs.QuietHours.{Quiet, each-clears, each-clearable}
use Rattle.rules.proofs.SetBits.{bits_at}
use Rattle.places.specs.Hours.{of_hour}
use Rattle.places.specs.Blocks.{added_in, sells_in, buys_in, SetTrades}
use Rattle.places.specs.Steps.{HoursTraded}
use Rattle.branches.specs.Meaning.{AnHour, Known}
use Rattle.search.specs.Meaning.{StepsAre}
use Rattle.branches.specs.Tables.{Tables}
use Rattle.branches.proofs.SetLaws.{sells-at, buys-at}

-- A SET'S BLOCKS in an hour, by their rows
module _ {day : Day} {p rest : ℕ → ℕ} {tables : Tables} (known : Known day p rest tables)
    (chosen h : ℕ) (c : AnHour h) where
  -- the decisions t are those of the set for the blocks from number i on
  abbrev Holds : ℕ → ℕ → List Bool → Type 0
  Holds n i t = (k : ℕ) → k < n → get_or t k false ≡ eqb (chosen / 2 ^ (i + k) % 2) 1

  holds-next : (n i : ℕ) (x : Bool) (t : List Bool) → Holds (suc n) i (x ∷ t) → Holds n (suc i) t
  holds-next n i x t f k inside = let e : i + suc k ≡ suc i + k = omega arith in rw e at (f (suc k) (omega arith))

  holds-first : (n i : ℕ) (x : Bool) (t : List Bool) → Holds (suc n) i (x ∷ t) → eqb (chosen / 2 ^ i % 2) 1 ≡ x
  holds-first n i x t f = let e : i + 0 ≡ i = omega arith in sym (rw e at (f 0 (omega arith)))

  rest-trades : (n i : ℕ) (t : List Bool) → i + n ≡ tables.count → length t ≡ n → Holds n i t →
      (added_in tables.blocks (sells_in tables.blocks chosen) h n i ≡ over_blocks (sells h) (taken (drop i day.blocks) t))
      × (added_in tables.blocks (buys_in tables.blocks chosen) h n i ≡ over_blocks (buys h) (taken (drop i day.blocks) t))
  unfolding added_in
  rest-trades zero i [] e l f = (sym (none (sells h) (drop i day.blocks)), sym (none (buys h) (drop i day.blocks)))
    where
      none : (g : Block → ℕ) (r : List Block) → over_blocks g (taken r []) ≡ 0
      none g [] = refl
      none g (x ∷ r) = refl
  rest-trades zero i (x ∷ t) e l f = absurd (omega arith)
  rest-trades (suc n) i [] e l f = absurd (omega arith)
  rest-trades (suc n) i (true ∷ t) e l f =
      let s = known.shown i (omega arith) in
      let more = rest-trades n (suc i) t (omega arith) (suc_inj l) (holds-next n i true t f) in
      rw (s.next, holds-first n i true t f)
      (omega (arith, more.0, sells-at s h c), omega (arith, more.1, buys-at s h c))
  rest-trades (suc n) i (false ∷ t) e l f =
      let s = known.shown i (omega arith) in
      let more = rest-trades n (suc i) t (omega arith) (suc_inj l) (holds-next n i false t f) in
      rw (s.next, holds-first n i false t f) (omega (arith, more.0), omega (arith, more.1))

  pub set-trades : (d : List Bool) → length d ≡ tables.count → decisions (length d) chosen ≡ d →
      (added_in tables.blocks (sells_in tables.blocks chosen) h tables.count 0 ≡ over_blocks (sells h) (taken day.blocks d))
      × (added_in tables.blocks (buys_in tables.blocks chosen) h tables.count 0 ≡ over_blocks (buys h) (taken day.blocks d))
  set-trades d size is =
      rest-trades tables.count 0 d (omega arith) size (λ k inside.
      let e : 0 + k ≡ k = omega arith in
      rw e (rw is at (bits_at (length d) chosen k (omega arith))))

-- every hour of a lawful set has a price
pub price-positive : (day : Day) → Quiet day → PricesInRange day.steps → HoursInRange day.steps → (chosen : List Bool) → lawful day chosen ≡ true →
    (h : ℕ) → AnHour h → 1 ≤ set_prices day (taken day.blocks chosen) h
price-positive day quiet prices hours chosen law h c =
    rw (price-at-shift day prices (taken day.blocks chosen) h)
    (shift-price-positive day prices (taken day.blocks chosen) (day_shift day (taken day.blocks chosen)) h
    (clearable-clears day prices hours (taken day.blocks chosen) h (each-clearable day quiet chosen prices hours law h c.first c.last)))

-- THE TRADED QUANTITY of a lawful set: at its prices, with the day's steps and what its blocks sell and buy
pub traded-are : {day : Day} {p rest : ℕ → ℕ} {tables : Tables} → Known day p rest tables →
    {steps : ℕ → List Step} → StepsAre day steps → {chosen : ℕ} {d : List Bool} → length d ≡ tables.count → decisions (length d) chosen ≡ d →
    lawful day d ≡ true → {sales purchases : List ℕ} (prices quantities : List ℕ) → SetTrades tables.blocks tables.count chosen sales purchases →
    ((h : ℕ) → AnHour h → of_hour prices h ≡ set_prices day (taken day.blocks d) h) → HoursTraded steps sales purchases prices quantities →
    (h : ℕ) → AnHour h → of_hour quantities h ≡ traded day (taken day.blocks d) h
unfolding traded
traded-are {day} known same {chosen} {d} size is law prices quantities sets priced trades h c =
    let a = c.first in
    let b = c.last in
    let t = set-trades known chosen h c d size is in
    let positive : 1 ≤ of_hour prices h = rw (priced h c) (price-positive day known.quiet known.prices known.hours d law h c) in
    trades h a b positive
    ∙ rw (sets.sales_are h a b, sets.purchases_are h a b, t.0, t.1, same h a b, priced h c)
    (sym (traded-lesser (hour_of day (taken day.blocks d) h) (set_prices day (taken day.blocks d) h)
    (each-clears day known.quiet d known.prices known.hours law h a b)))
