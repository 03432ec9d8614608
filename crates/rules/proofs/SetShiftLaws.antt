-- THE SHIFT OF A SET (document 02, P7): a sell keeps its limit upward in t, a buy downward, so the shifts that keep all blocks are an interval; the set's
-- shift is the one of them nearest 500, and two tests certify it. Assumes nothing.
use Prim.Native.Nat.{ℕ, suc, ◌*◌, ◌≤◌, ◌<◌}
use mathlib.Core.Bool.{Bool, true, false, cond, ◌&&◌}
use mathlib.Core.Path.{◌≡◌, refl, sym, ap, ◌∙◌, fun_ext}
use mathlib.Core.List.{List, [], ◌∷◌}
use mathlib.Core.Option.{Option, none, some}
use native.Mathlib.Omega.{arith}
use lib.Dec.{leb}
use borrow.Author.Tests.{leb-true, le-leb}
use Rattle.rules.specs.Orders.{Side, buy, sell, Block}
use Rattle.rules.specs.Hour.{when, Pricing, cleared, does_not_clear, pricing}
use Rattle.rules.specs.Execution.{test_side}
use Rattle.rules.specs.Shift.{last_shift, middle_shift, shifted_price, nearest_shift, all_shifts, or_middle}
use Rattle.rules.specs.Day.{
  Day,
  hour_of,
  hour_count,
  price_sum,
  keeps_limit,
  every_block,
  gives_way,
  prices_at_shift,
  keeps_all,
  set_shift,
}
use Rattle.rules.specs.Contender.{Counts}
use Rattle.rules.proofs.Tests.{both, by-test, clash}
use Rattle.rules.proofs.HourSums.{day_sum-le}
use Rattle.rules.proofs.ShiftLaws.{shifted-rises}
use Rattle.rules.proofs.ChoiceLaws.{
  NearestOf,
  chosen_is,
  nearest-none,
  both_pass,
  between-pass,
  choice-middle,
  choice-lower,
  choice-higher,
  choice-none,
  choice-no-first,
  choice-no-second,
}

-- SUMS OF PRICES rise with the prices
when-below : (t : Bool) (a b : ℕ) → a ≤ b → when t a ≤ when t b
when-below true a b k = k
when-below false a b k = omega arith

pub price_sum-le : (hours : ℕ) (f g : ℕ → ℕ) (b : Block) → ((h : ℕ) → Counts hours h → f h ≤ g h) → price_sum hours f b ≤ price_sum hours g b
unfolding price_sum
price_sum-le hours f g b k = day_sum-le hours _ _ (λ h c. when-below (b.runs h) (f h) (g h) (k h c))

-- the shifted price of an hour rises with t
pub price-rises : (t u : ℕ) → t ≤ u → (a : Pricing) → shifted_price t a ≤ shifted_price u a
price-rises t u k (cleared low high price) = shifted-rises t u low high k
price-rises t u k does_not_clear = omega arith

-- THE TWO SIDES APART, at prices that rise with t: a block keeps its limit where it is of the side, the other side's pass
module _ (hours : ℕ) (price : ℕ → ℕ → ℕ) where
  abbrev pub sell_keeps : ℕ → Block → Bool
  sell_keeps t b = test_side b.side true (keeps_limit hours (price t) b)

  abbrev pub buy_keeps : ℕ → Block → Bool
  buy_keeps t b = test_side b.side (keeps_limit hours (price t) b) true

  sides_apart : (t : ℕ) (l : List Block) →
      every_block (keeps_limit hours (price t)) l ≡ (every_block (sell_keeps t) l && every_block (buy_keeps t) l)
  sides_apart t [] = refl
  sides_apart t (b ∷ l) =
      ap (λ k. keeps_limit hours (price t) b && k) (sides_apart t l)
      ∙ parted b.side (keeps_limit hours (price t) b) (every_block (sell_keeps t) l) (every_block (buy_keeps t) l)
    where
      parted : (side : Side) (k x y : Bool) → (k && (x && y)) ≡ ((test_side side true k && x) && (test_side side k true && y))
      parted buy true x y = refl
      parted buy false true y = refl
      parted buy false false y = refl
      parted sell true x y = refl
      parted sell false x y = refl

  module _ (rises : (t u : ℕ) → t ≤ u → (h : ℕ) → Counts hours h → price t h ≤ price u h) where
    sum-rises : (t u : ℕ) → t ≤ u → (b : Block) → price_sum hours (price t) b ≤ price_sum hours (price u) b
    sum-rises t u k b = price_sum-le hours (price t) (price u) b (rises t u k)

    sell-up : (t u : ℕ) → t ≤ u → (b : Block) → sell_keeps t b ≡ true → sell_keeps u b ≡ true
    unfolding keeps_limit
    sell-up t u k b = go b.side (b.price * hour_count hours b) (sum-rises t u k b)
      where
        go : (side : Side) (limit : ℕ) {x y : ℕ} → x ≤ y →
            test_side side true (test_side side (leb x limit) (leb limit x)) ≡ true → test_side side true (test_side side (leb y limit) (leb limit y)) ≡ true
        go buy limit k e = refl
        go sell limit {x} {y} k e = le-leb limit y (omega (arith, leb-true limit x e))

    buy-down : (t u : ℕ) → t ≤ u → (b : Block) → buy_keeps u b ≡ true → buy_keeps t b ≡ true
    unfolding keeps_limit
    buy-down t u k b = go b.side (b.price * hour_count hours b) (sum-rises t u k b)
      where
        go : (side : Side) (limit : ℕ) {x y : ℕ} → x ≤ y →
            test_side side (test_side side (leb y limit) (leb limit y)) true ≡ true → test_side side (test_side side (leb x limit) (leb limit x)) true ≡ true
        go buy limit {x} {y} k e = le-leb x limit (omega (arith, leb-true y limit e))
        go sell limit k e = refl

-- a test that passes for every block where another does
every-mono : (f g : Block → Bool) → ((b : Block) → f b ≡ true → g b ≡ true) → (l : List Block) → every_block f l ≡ true → every_block g l ≡ true
every-mono f g k [] e = refl
every-mono f g k (b ∷ l) e = let h = both (f b) (every_block f l) e in rw (k b h.0, every-mono f g k l h.1)

-- A SET OF A DAY
module _ (day : Day) (set : List Block) where
  abbrev price : ℕ → ℕ → ℕ
  price = prices_at_shift day set

  prices-rise : (t u : ℕ) → t ≤ u → (h : ℕ) → Counts day.hours h → price t h ≤ price u h
  unfolding prices_at_shift
  prices-rise t u k h c = price-rises t u k (pricing (hour_of day set h))

  -- all its sells keep their limits at shift t, all its buys do
  abbrev pub sells_keep : ℕ → Bool
  sells_keep t = every_block (sell_keeps day.hours (prices_at_shift day set) t) set

  abbrev pub buys_keep : ℕ → Bool
  buys_keep t = every_block (buy_keeps day.hours (prices_at_shift day set) t) set

  pub sells-up : (t u : ℕ) → t ≤ u → sells_keep t ≡ true → sells_keep u ≡ true
  sells-up t u k = every-mono _ _ (sell-up day.hours price prices-rise t u k) set

  pub buys-down : (t u : ℕ) → t ≤ u → buys_keep u ≡ true → buys_keep t ≡ true
  buys-down t u k = every-mono _ _ (buy-down day.hours price prices-rise t u k) set

  pub keeps-by-sides : (t : ℕ) → keeps_all day set t ≡ both_pass sells_keep buys_keep t
  unfolding keeps_all
  keeps-by-sides t = sides_apart day.hours price t set

  by-sides : nearest_shift (keeps_all day set) all_shifts ≡ nearest_shift (both_pass sells_keep buys_keep) all_shifts
  by-sides = ap (λ (f : ℕ → Bool). nearest_shift f all_shifts) (fun_ext keeps-by-sides)

  -- LAW: the shifts that keep all blocks are an interval
  pub keeps-between : (t v u : ℕ) → t ≤ v → v ≤ u → keeps_all day set t ≡ true → keeps_all day set u ≡ true → keeps_all day set v ≡ true
  keeps-between t v u h k e f =
      keeps-by-sides v
      ∙ between-pass sells_keep buys_keep sells-up buys-down t v u h k (sym (keeps-by-sides t) ∙ e) (sym (keeps-by-sides u) ∙ f)

  -- LAW: the set's shift is one of 0 to 1000; it keeps all blocks where any of them does
  pub shift_small : set_shift day set ≤ last_shift
  unfolding set_shift
  shift_small = go (nearest_shift (keeps_all day set) all_shifts) (chosen_is (keeps_all day set))
    where
      go : (o : Option ℕ) → NearestOf (keeps_all day set) all_shifts o → or_middle o ≤ last_shift
      go none s = omega arith
      go (some t) s = omega (arith, s.1)

  pub shift-keeps : (t : ℕ) → t ≤ last_shift → keeps_all day set t ≡ true → keeps_all day set (set_shift day set) ≡ true
  unfolding set_shift
  shift-keeps t k e = go (nearest_shift (keeps_all day set) all_shifts) (chosen_is (keeps_all day set))
    where
      go : (o : Option ℕ) → NearestOf (keeps_all day set) all_shifts o → keeps_all day set (or_middle o) ≡ true
      go none s = clash e (s t (omega arith) (omega arith))
      go (some u) s = s.2

  -- LAW: so it keeps all blocks unless no shift does
  pub shift-misses : keeps_all day set (set_shift day set) ≡ false → (t : ℕ) → t ≤ last_shift → keeps_all day set t ≡ false
  shift-misses e t k = by-test (λ x. x ≡ false) (keeps_all day set t) (λ z. clash (shift-keeps t k z) e) (λ _. refl)

  -- what the choice says of the set's shift
  pub shift-chosen : {t : ℕ} → nearest_shift (keeps_all day set) all_shifts ≡ some t → (set_shift day set ≡ t) × (keeps_all day set t ≡ true)
  unfolding set_shift
  shift-chosen {t} e = (ap or_middle e, (rw e at (chosen_is (keeps_all day set))).2)

  pub shift-not-chosen : nearest_shift (keeps_all day set) all_shifts ≡ none → (t : ℕ) → t ≤ last_shift → keeps_all day set t ≡ false
  shift-not-chosen e t k = rw e at (chosen_is (keeps_all day set)) t (omega arith) (omega arith)

  -- CERTIFICATES: LAW: a set whose blocks keep their limits at the middle prices has the middle shift
  pub shift-middle : keeps_all day set middle_shift ≡ true → set_shift day set ≡ middle_shift
  unfolding set_shift
  shift-middle e = ap or_middle (choice-middle (keeps_all day set) e)

  pub shift-lower : (t : ℕ) → t < middle_shift → keeps_all day set t ≡ true → buys_keep (suc t) ≡ false → set_shift day set ≡ t
  unfolding set_shift
  shift-lower t h e f = ap or_middle (by-sides ∙ choice-lower sells_keep buys_keep sells-up buys-down t h (sym (keeps-by-sides t) ∙ e) f)

  pub shift-higher : (t : ℕ) → middle_shift ≤ t → t < last_shift → keeps_all day set (suc t) ≡ true → sells_keep t ≡ false → set_shift day set ≡ suc t
  unfolding set_shift
  shift-higher t h g e f =
      ap or_middle (by-sides ∙ choice-higher sells_keep buys_keep sells-up buys-down t h g (sym (keeps-by-sides (suc t)) ∙ e) f)

  pub shift-apart : (t : ℕ) → sells_keep t ≡ false → buys_keep (suc t) ≡ false → set_shift day set ≡ middle_shift
  unfolding set_shift
  shift-apart t e f = ap or_middle (by-sides ∙ choice-none sells_keep buys_keep sells-up buys-down t e f)

  pub shift-no-sells : sells_keep last_shift ≡ false → set_shift day set ≡ middle_shift
  unfolding set_shift
  shift-no-sells e = ap or_middle (by-sides ∙ choice-no-first sells_keep buys_keep sells-up buys-down e)

  pub shift-no-buys : buys_keep 0 ≡ false → set_shift day set ≡ middle_shift
  unfolding set_shift
  shift-no-buys e = ap or_middle (by-sides ∙ choice-no-second sells_keep buys_keep sells-up buys-down e)
