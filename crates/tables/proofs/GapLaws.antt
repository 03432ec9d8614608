-- The gap table of an hour: filled upwards and downwards from the place of the least gap, and what it says of the hour. Assumes nothing.
use Prim.Native.Nat.{ℕ, zero, suc, ◌+◌, ◌-◌, ◌*◌, ◌≤◌, ◌<◌}
use mathlib.Core.Path.{◌≡◌, sym, ◌∙◌}
use mathlib.Core.List.{List}
use native.Mathlib.Omega.{arith}
use native.Mathlib.Decide.{dec_le}
use native.Mathlib.Nat.{lt_of_not-le, add-zero}
use native.Mathlib.Numerals.{add-one}
use lib.ListN.{length, get_or}
use Rattle.rules.specs.Orders.{Step, max_price}
use Rattle.rules.specs.Contender.{PricesInRange}
use Rattle.rules.proofs.PricingLaws.{Clearable, net}
use Rattle.rules.proofs.NeighbourLaws.{slack, slack-next}
use Rattle.tables.specs.Tables.{UnitPrices, NotRising, Gaps, AtOrBelow, BestPlace, GapsFor, GapsUp, GapsDown, GapTable}
use Rattle.tables.proofs.LevelLaws.{low-at}

-- THE BEST PLACE
module _ (table : List ℕ) (price first last : ℕ) where
  -- from the best place on the table is at or below the price, since it does not rise
  pub best-on : (m : ℕ) → NotRising table → last < length table → BestPlace table price first last m → AtOrBelow table price m last
  best-on m falls inside b i a k =
      let e : m + (i - m) ≡ i = omega arith in
      rw e at (down (i - m) (omega arith))
    where
      down : (n : ℕ) → m + n < last → get_or table (m + n + 1) 0 ≤ price
      down zero k = rw add-zero (b.turns (omega arith))
      down (suc n) k =
          let e : m + suc n ≡ m + n + 1 = omega arith in
          rw e (omega (arith, falls (m + n + 1) (omega arith), down n (omega arith)))

-- FILLING
module _ (table : List ℕ) (price : ℕ) where
  -- upwards from m to i
  pub record Rising (m i gap : ℕ) (before out : List ℕ) : Type 0 where
    pub from : m ≤ i
    pub same_length : length out ≡ length before
    pub zero_at : get_or out m 0 ≡ 0
    pub last : get_or out i 0 ≡ gap
    pub fits : gap ≤ (i - m) * max_price
    pub gaps : Gaps table price m i out

  -- downwards from m to i
  pub record Falling (m i gap : ℕ) (before out : List ℕ) : Type 0 where
    pub to : i ≤ m
    pub same_length : length out ≡ length before
    pub keeps : (j : ℕ) → m ≤ j → get_or out j 0 ≡ get_or before j 0
    pub last : get_or out i 0 ≡ gap
    pub fits : gap ≤ (m - i) * max_price
    pub gaps : Gaps table price i m out

  -- both halves have room where the whole has
  module _ (first last m : ℕ) (out : List ℕ) (g : GapsFor table price first last out) (b : BestPlace table price first last m) where
    pub room-up : GapsFor table price m last out
    room-up = record {
      ordered = b.to;
      inside = g.inside;
      as_many = g.as_many;
      few = g.few;
      in_range = g.in_range;
      price_in_range = g.price_in_range;
    }

    pub room-down : (out' : List ℕ) → length out' ≡ length out → GapsFor table price first m out'
    room-down out' e = record {
      ordered = b.from;
      inside = omega (arith, g.inside, b.to);
      as_many = g.as_many ∙ sym e;
      few = omega (arith, g.few);
      in_range = g.in_range;
      price_in_range = g.price_in_range;
    }

  -- both
  pub gaps-both : (first last m : ℕ) (out out' out'' : List ℕ) → BestPlace table price first last m → GapsUp table price m last out out' →
      GapsDown table price first m out' out'' → GapTable table price first last m out'' × (length out'' ≡ length out)
  gaps-both first last m out out' out'' b u d = (
    record {
      from = b.from;
      to = b.to;
      zero_at = d.keeps m (omega arith) ∙ u.zero_at;
      gaps = λ i a k. elim (dec_le m i) [
        | yes z ↦ rw (d.keeps i z, d.keeps (i + 1) (omega arith)) (u.gaps i z k)
        | no z ↦ d.gaps i a (lt_of_not-le z)
      ];
    },
    d.same_length ∙ u.same_length,
  )

-- WHAT THE TABLE SAYS: each gap is the hour's at the price, less that of the best place
module _ (l : List Step) (r : PricesInRange l) (off : ℕ) (table : List ℕ) (prices : UnitPrices l off table) where
  module _ (price first last m : ℕ) (out : List ℕ) (g : GapTable table price first last m out) (inside : last < length table)
      (c : Clearable (net l first off)) (d : Clearable (net l last off)) where
    clears-at : (i : ℕ) → first ≤ i → i ≤ last → Clearable (net l i off)
    clears-at i a b = record { buys_suffice = omega (arith, d.buys_suffice); sells_suffice = omega (arith, c.sells_suffice) }

    -- the gap and the table change alike
    alike : (n : ℕ) → first + n ≤ last →
        slack price (net l (first + n) off) + get_or out first 0 ≡ get_or out (first + n) 0 + slack price (net l first off)
    alike zero k = rw add-zero (omega arith)
    alike (suc n) k =
        let e : first + suc n ≡ suc (first + n) = omega arith in
        let here = clears-at (first + n) (omega arith) (omega arith) in
        let next = clears-at (suc (first + n)) (omega arith) (omega arith) in
        let step = rw add-one at (g.gaps (first + n) (omega arith) (omega arith)) in
        let low = rw add-one at (low-at l off table prices r (first + n) here (omega arith)) in
        rw e (omega (arith, alike n (omega arith), slack-next l r (first + n) off next here price, step, low))

    alike_at : (i : ℕ) → first ≤ i → i ≤ last → slack price (net l i off) + get_or out first 0 ≡ get_or out i 0 + slack price (net l first off)
    alike_at i a b =
        let e : first + (i - first) ≡ i = omega arith in
        rw e at (alike (i - first) (omega arith))

    pub gap-table : (i : ℕ) → first ≤ i → i ≤ last → slack price (net l i off) ≡ get_or out i 0 + slack price (net l m off)
    gap-table i a b = omega (arith, alike_at i a b, alike_at m g.from g.to, g.zero_at)

-- A GAP TABLE FALLS TO ITS LEAST GAP AND RISES FROM IT, since its prices do not rise
pub never-rises : (table : List ℕ) → NotRising table → (n i : ℕ) → i + n < length table → get_or table (i + n) 0 ≤ get_or table i 0
never-rises table falls zero i k = rw add-zero (omega arith)
never-rises table falls (suc n) i k =
    let e : i + suc n ≡ i + n + 1 = omega arith in
    rw e (omega (arith, falls (i + n) (omega arith), never-rises table falls n i (omega arith)))

module _ (table : List ℕ) (price first last m : ℕ) (out : List ℕ) (falls : NotRising table) (inside : last < length table)
    (g : GapTable table price first last m out) where
  falls-between : (i j : ℕ) → i ≤ j → j ≤ last → get_or table j 0 ≤ get_or table i 0
  falls-between i j a b =
      let e : i + (j - i) ≡ j = omega arith in
      rw e at (never-rises table falls (j - i) i (omega arith))

  rises-once : (i : ℕ) → m ≤ i → i < last → get_or out i 0 ≤ get_or out (i + 1) 0
  rises-once i a b =
      omega (arith, g.gaps i (omega (arith, g.from)) b, g.gaps m g.from (omega arith), g.zero_at, falls-between (m + 1) (i + 1) (omega arith) (omega arith))

  falls-once : (i : ℕ) → first ≤ i → i < m → get_or out (i + 1) 0 ≤ get_or out i 0
  falls-once i a b =
      let e : m - 1 + 1 ≡ m = omega arith in
      let top = rw e at (g.gaps (m - 1) (omega arith) (omega (arith, g.to))) in
      omega (arith, g.gaps i a (omega (arith, g.to)), top, g.zero_at, falls-between (i + 1) m (omega arith) g.to)

  up : (n i : ℕ) → m ≤ i → i + n ≤ last → get_or out i 0 ≤ get_or out (i + n) 0
  up zero i a b = rw add-zero (omega arith)
  up (suc n) i a b =
      let e : i + suc n ≡ i + n + 1 = omega arith in
      rw e (omega (arith, up n i a (omega arith), rises-once (i + n) (omega arith) (omega arith)))

  down : (n i : ℕ) → first ≤ i → i + n ≤ m → get_or out (i + n) 0 ≤ get_or out i 0
  down zero i a b = rw add-zero (omega arith)
  down (suc n) i a b =
      let e : i + suc n ≡ i + n + 1 = omega arith in
      rw e (omega (arith, down n i a (omega arith), falls-once (i + n) (omega arith) (omega arith)))

  pub gap-rises : (i j : ℕ) → first ≤ i → i ≤ j → j ≤ last → m ≤ i → get_or out i 0 ≤ get_or out j 0
  gap-rises i j a b c k = let e : i + (j - i) ≡ j = omega arith in rw e at (up (j - i) i k (omega arith))

  pub gap-falls : (i j : ℕ) → first ≤ i → i ≤ j → j ≤ last → j ≤ m → get_or out j 0 ≤ get_or out i 0
  gap-falls i j a b c k = let e : i + (j - i) ≡ j = omega arith in rw e at (down (j - i) i a (omega arith))
