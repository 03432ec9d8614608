-- The price table of an hour, level by level: a price, and what the steps down to it trade. Assumes nothing.
use Prim.Native.Nat.{ℕ, zero, suc, ◌+◌, ◌-◌, ◌*◌, ◌^◌, ◌≤◌, ◌<◌}
use mathlib.Core.Path.{◌≡◌, refl, sym, ◌∙◌}
use mathlib.Core.List.{List}
use native.Mathlib.Omega.{arith}
use native.Mathlib.Decide.{dec_le}
use native.Mathlib.Nat.{lt_of_not-le}
use lib.Dec.{ltb}
use lib.ListN.{length, get_or, replicate}
use borrow.Author.Rules.{rules}
use borrow.Rule.Slice.PartMut.{put_mid}
use Rattle.std.proofs.lemmas.Grind.{common_steps}
use Rattle.std.proofs.lemmas.List.{places}
use borrow.Author.Tests.{lt-ltb, le-ltb}
use Rattle.rules.specs.Orders.{Step, max_price}
use Rattle.rules.specs.Hour.{Hour}
use Rattle.rules.specs.Contender.{PricesInRange}
use Rattle.rules.proofs.PricingLaws.{DemandMet, Clearable, net}
use Rattle.rules.proofs.TableLaws.{low_of, unit_price, unit-first, unit-is, unit-falls, unit-net, unit-low}
use Rattle.orders.specs.Columns.{steps_from}
use Rattle.tables.specs.Tables.{UnitPrices, key_price, key_quantity, key_above, above_in, amount_in, KeysOf, NextLevel, RunFilled, NotRising, PricesFit}
use Rattle.rules.proofs.CurveLaws.{when-le}
use native.Mathlib.Numerals.{add-one}

-- OVER THE KEYS
module _ (keys : List ℕ) where
  amount-grows : (a b : ℕ) → a ≤ b → amount_in keys a ≤ amount_in keys b
  unfolding amount_in
  amount-grows a zero le = let e : a ≡ 0 = omega arith in rw e (omega arith)
  amount-grows a (suc b) le = elim (dec_le a b) [
    | yes k ↦ omega (arith, amount-grows a b k)
    | no k ↦ let e : a ≡ suc b = omega (arith, lt_of_not-le k) in rw e (omega arith)
  ]

  above-at-most : (q n : ℕ) → above_in q keys n ≤ amount_in keys n
  unfolding above_in amount_in
  above-at-most q zero = omega arith
  above-at-most q (suc n) = omega (arith, above-at-most q n, when-le (ltb q (key_price (get_or keys n 0))) (key_quantity (get_or keys n 0)))

  above-all : (q n : ℕ) → ((i : ℕ) → i < n → q < key_price (get_or keys i 0)) → amount_in keys n ≤ above_in q keys n
  unfolding above_in amount_in
  above-all q zero f = omega arith
  above-all q (suc n) f = rw (lt-ltb q (key_price (get_or keys n 0)) (f n (omega arith))) (omega (arith, above-all q n (λ i a. f i (omega arith))))

  -- those from number m on are not above a price
  above_within : (q m n : ℕ) → ((i : ℕ) → m ≤ i → i < n → key_price (get_or keys i 0) ≤ q) → above_in q keys n ≤ amount_in keys m
  unfolding above_in
  above_within q m zero f = omega arith
  above_within q m (suc n) f = elim (dec_le m n) [
    | yes le ↦ rw (le-ltb q (key_price (get_or keys n 0)) (f n le (omega arith))) (omega (arith, above_within q m n (λ i a b. f i a (omega arith))))
    | no gt ↦
        let some : above_in q keys n + key_above q (get_or keys n 0) ≤ amount_in keys (suc n) = above-at-most q (suc n) in
        omega (arith, amount-grows (suc n) m (lt_of_not-le gt))
  ]

  -- those before it are
  above-covers : (q m n : ℕ) → m ≤ n → ((i : ℕ) → i < m → q < key_price (get_or keys i 0)) → amount_in keys m ≤ above_in q keys n
  unfolding above_in
  above-covers q m zero le f = let e : m ≡ 0 = omega arith in rw e (above-all q 0 (λ i a. absurd (omega arith)))
  above-covers q m (suc n) le f = elim (dec_le m n) [
    | yes k ↦ omega (arith, above-covers q m n k f)
    | no k ↦ let e : m ≡ suc n = omega (arith, lt_of_not-le k) in rw e (above-all q (suc n) (λ i a. f i (omega arith)))
  ]

-- the keys so far trade little
pub amount-fits : (keys : List ℕ) (n : ℕ) → amount_in keys n ≤ n * 2 ^ 32
unfolding amount_in
amount-fits keys zero = omega arith
amount-fits keys (suc n) = omega (arith, amount-fits keys n)

amount-more : (keys : List ℕ) (n : ℕ) → amount_in keys (n + 1) ≡ amount_in keys n + key_quantity (get_or keys n 0)
unfolding amount_in
amount-more keys n = rw add-one

-- FILLING from the first place on: what is filled is right, and the level's price meets the demand of the place to come; at any lower price the keys
-- down to the level are all above it
module _ (sides prices quantities keys : List ℕ) (off : ℕ) where
  abbrev at : ℕ → ℕ → Hour
  at h i = net (steps_from h sides prices quantities) i (suc off)

  abbrev count : ℕ
  count = length sides

  pub record Filled (table : List ℕ) (price traded taken i : ℕ) : Type 0 where
    pub positive : 1 ≤ price
    pub in_range : price ≤ max_price
    pub inside : taken ≤ count + 1
    pub amount : taken ≤ count → traded ≡ amount_in keys taken
    pub last_one : count < taken → traded ≡ 2 ^ 62
    pub met : (h : ℕ) → price < max_price → DemandMet (at h i) price
    pub covers : (q : ℕ) → 1 ≤ q → q < price → traded ≤ above_in q keys count
    pub done : (h j : ℕ) → j < i → get_or table j 0 ≡ unit_price (at h j)

  pub filled-start : (table : List ℕ) → Filled table 300000 0 0 0
  filled-start table = record {
    positive = omega arith;
    in_range = omega arith;
    inside = omega arith;
    amount = λ _. unfold amount_in in refl;
    last_one = λ k. absurd (omega arith);
    met = λ h k. absurd (omega arith);
    covers = λ q a b. omega arith;
    done = λ h j k. absurd (omega arith);
  }

  -- what is traded so far fits
  pub traded-fits : (table : List ℕ) (price traded taken i : ℕ) → Filled table price traded taken i → count ≤ 2048 → traded ≤ 2 ^ 62
  traded-fits table price traded taken i f few = elim (dec_le taken count) [
    | yes k ↦ omega (arith, f.amount k, amount-fits keys taken)
    | no k ↦ omega (arith, f.last_one (lt_of_not-le k))
  ]

  module _ (sold : ℕ) (sorted : KeysOf sides prices quantities keys sold) where
    -- what is traded so far is met: on to the next level
    met_at : (q i traded : ℕ) → traded + off + 1 ≤ sold + i → above_in q keys count ≤ traded → (h : ℕ) → DemandMet (at h i) q
    met_at q i traded enough within h = omega (arith, sorted.keyed.above_is h q)

    module _ (table : List ℕ) (price traded taken i price' traded' taken' : ℕ) (f : Filled table price traded taken i)
        (enough : traded + off + 1 ≤ sold + i) (few : taken ≤ count) (next : NextLevel keys count traded taken price' traded' taken') where
      abbrev here : ℕ
      here = key_price (get_or keys taken 0)

      not-above : (b : ℕ) → taken ≤ b → b < count → key_price (get_or keys b 0) ≤ here
      not-above b le inside = elim (dec_le b taken) [
        | yes k ↦ let e : b ≡ taken = omega arith in rw e (omega arith)
        | no k ↦ omega (arith, sorted.falling taken b (lt_of_not-le k) inside)
      ]

      not-below : (a : ℕ) → a < taken + 1 → taken < count → here ≤ key_price (get_or keys a 0)
      not-below a le inside = elim (dec_le taken a) [
        | yes k ↦ let e : a ≡ taken = omega arith in rw e (omega arith)
        | no k ↦ omega (arith, sorted.falling a taken (lt_of_not-le k) inside)
      ]

      pub filled-move : Filled table price' traded' taken' i
      filled-move = elim (dec_le count taken) [
        | yes k ↦
            let last = next.last_one k in
            let e : taken ≡ count = omega arith in
            record {
              positive = omega (arith, last.0);
              in_range = omega (arith, last.0);
              inside = omega (arith, next.one_more);
              amount = λ z. absurd (omega (arith, next.one_more));
              last_one = λ _. last.1;
              met = λ h _. rw last.0 (met_at 1 i traded enough (omega (arith, f.amount few, above_within keys 1 taken count (λ b le less. absurd (omega arith)))) h);
              covers = λ q a b. absurd (omega (arith, last.0));
              done = f.done;
            }
        | no k ↦
            let less : taken < count = lt_of_not-le k in
            let by_key = next.by_key less in
            record {
              positive = omega (arith, by_key.0);
              in_range = omega (arith, by_key.0);
              inside = omega (arith, next.one_more);
              amount = λ _. rw next.one_more (omega (arith, by_key.1, f.amount few, amount-more keys taken));
              last_one = λ z. absurd (omega (arith, next.one_more));
              met = λ h below.
                  met_at price' i traded enough
                  (omega (arith, f.amount few, above_within keys price' taken count (λ b le inside. omega (arith, by_key.0, not-above b le inside)))) h;
              covers = λ q a b.
                  omega (
                    arith,
                    by_key.1,
                    f.amount few,
                    amount-more keys taken,
                    above-covers keys q (taken + 1) count (omega arith) (λ c inside. omega (arith, by_key.0, not-below c inside less)),
                  );
              done = f.done;
            }
      ]

    -- it is not: the place has the level's price
    price-here : (price traded i : ℕ) → 1 ≤ price → price ≤ max_price → ((q : ℕ) → 1 ≤ q → q < price → traded ≤ above_in q keys count) → (h : ℕ) →
        (price < max_price → DemandMet (at h i) price) → sold + i < traded + off + 1 → unit_price (at h i) ≡ price
    price-here zero traded i pos top covers h met k = absurd (omega arith)
    price-here (suc p) traded i pos top covers h met k =
        unit-is (at h i) p top met (λ a d. omega (arith, sorted.keyed.above_is h p, covers p a (omega arith)))

    pub filled-run : (table table' : List ℕ) (price traded taken i end : ℕ) → Filled table price traded taken i → i ≤ end →
        ((j : ℕ) → j < end → sold + j < traded + off + 1) → RunFilled table i end price table' → Filled table' price traded taken end
    filled-run table table' price traded taken i end f le short run = record {
      positive = f.positive;
      in_range = f.in_range;
      inside = f.inside;
      amount = f.amount;
      last_one = f.last_one;
      met = λ h m. omega (arith, f.met h m);
      covers = f.covers;
      done = λ h j k. elim (dec_le i j) [
        | yes from ↦
            run.fills j from k
            ∙ sym (price-here price traded j f.positive f.in_range f.covers h (λ m. omega (arith, f.met h m)) (short j k))
        | no before ↦ run.keeps j (lt_of_not-le before) ∙ f.done h j (lt_of_not-le before)
      ];
    }

    -- after the last level no place of a table is met
    pub not-the-last : (table : List ℕ) (price traded taken i : ℕ) → Filled table price traded taken i → i < 8192 → traded + off + 1 ≤ sold + i →
        taken ≤ count
    not-the-last table price traded taken i f small enough = elim (dec_le taken count) [
      | yes k ↦ k
      | no k ↦ absurd (omega (arith, f.last_one (lt_of_not-le k), sorted.keyed.sold_fits))
    ]

-- ONE PRICE over a run of places
pub run-filled : (before part : List ℕ) (from to price : ℕ) → from ≤ to → to ≤ length before → part ≡ replicate (to - from) price →
    RunFilled before from to price (put_mid from (to - from) before part)
run-filled before part from to price le room e = record {
  same_length = rw e (grind (arith, common_steps));
  keeps = λ j k. search (rules, places);
  fills = λ j a b. rw e (search (rules, places));
}

-- WHAT A TABLE OF UNIT PRICES SAYS: it does not rise, and has prices of 1 to 300000; place i has H of N = i − off, the next place L
module _ (l : List Step) (off : ℕ) (table : List ℕ) (t : UnitPrices l off table) where
  pub table-not-rising : NotRising table
  table-not-rising i k = rw (t (i + 1) k, t i (omega arith)) (unit-falls l i (suc off) (i + 1) (suc off) (omega arith))

  pub table-in-range : PricesFit table
  table-in-range i k = rw (t i k) (unit-first (net l i (suc off))).in_range

  pub unit-at : (i : ℕ) → i + 1 < length table → unit_price (net l i off) ≡ get_or table (i + 1) 0
  unit-at i k = unit-net l i off (i + 1) (suc off) (omega arith) ∙ sym (t (i + 1) k)

  module _ (r : PricesInRange l) (i : ℕ) (c : Clearable (net l i off)) where
    pub low-at : i + 1 < length table → low_of (net l i off) ≡ get_or table (i + 1) 0
    low-at k = unit-low (net l i off) r c ∙ unit-at i k
