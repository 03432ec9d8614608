-- PRICES THAT COMPUTE. The rules' pricing walks 300000 prices, which the checker never does: a guess is tested by M4's certificate, and the rule
-- itself stands where the test fails. So the guess needs no proof, and the rest computes. Assumes nothing.
use Prim.Native.Nat.{ℕ, zero, suc, ◌+◌, ◌-◌, ◌/◌}
use mathlib.Core.Bool.{Bool, true, false, cond, ◌&&◌, ◌||◌, not, false≢true}
use mathlib.Core.Path.{◌≡◌, refl, ap, ap₂, fun_ext}
use mathlib.Core.List.{List, [], ◌∷◌}
use lib.Dec.{ltb, leb, eqb}
use borrow.Author.Tests.{ltb-true, leb-true, le-leb}
use Rattle.rules.specs.Orders.{Step, Block, max_price, steps_of, canonical}
use Rattle.rules.specs.Hour.{
  Hour,
  buys_above,
  buys_from,
  sells_to,
  sells_below,
  all_buys,
  all_sells,
  clears,
  middle,
  Pricing,
  cleared,
  does_not_clear,
  pricing,
  is_cleared,
  answered_price,
}
use Rattle.rules.specs.Shift.{last_shift, middle_shift, shifted, shifted_price}
use Rattle.rules.specs.Execution.{buy_amount, sell_amount, floors, remainders, at_least, extras, in_proportion, shares, execution, bought, sold}
use Rattle.rules.specs.Day.{
  Day,
  each_on_day,
  day_of,
  weight,
  is_counted,
  sum_to,
  day_sum,
  all_to,
  every_hour,
  hour_of,
  hour_clears,
  every_block,
  gives_way,
  prices_at_shift,
  keeps_all,
  set_shift,
  set_prices,
  hour_count,
  price_sum,
  keeps_limit,
  keeps_limits,
  keeps_link,
  allowed,
  steps_value,
  steps_cost,
  blocks_value,
  blocks_cost,
  day_value,
  day_cost,
  in_step_order,
}
use Rattle.rules.specs.Contender.{Counts, PricesInRange}
use Rattle.rules.proofs.Tests.{by-test, both}
use Rattle.rules.proofs.PricingLaws.{Clearable, pricing-certified, not-clearing}
use Rattle.rules.proofs.SetShiftLaws.{
  sell_keeps,
  buy_keeps,
  sells_keep,
  buys_keep,
  shift-middle,
  shift-lower,
  shift-higher,
  shift-apart,
  shift-no-sells,
  shift-no-buys,
}

-- THE GUESS: L is 1 or the price of a step, the least that meets the demand; H is 300000 or the price of a step, the greatest that meets the supply
unfoldable pub least_of : (ℕ → Bool) → ℕ → List Step → ℕ
least_of t n [] = n
least_of t n (s ∷ l) = least_of t (cond (ltb s.price n && t s.price) s.price n) l

unfoldable pub greatest_of : (ℕ → Bool) → ℕ → List Step → ℕ
greatest_of t n [] = n
greatest_of t n (s ∷ l) = greatest_of t (cond (ltb n s.price && t s.price) s.price n) l

unfoldable pub low : Hour → ℕ
low h =
    let met : ℕ → Bool = λ p. leb (buys_above p h.steps + h.block_buys) (sells_to p h.steps + h.block_sales) in
    cond (met 1) 1 (least_of met max_price h.steps)

unfoldable pub high : Hour → ℕ
high h =
    let met : ℕ → Bool = λ p. leb (sells_below p h.steps + h.block_sales) (buys_from p h.steps + h.block_buys) in
    cond (met max_price) max_price (greatest_of met 1 h.steps)

-- THE TESTS: several at once
abbrev pub all : List Bool → Bool
all [] = true
all (t ∷ l) = t && all l

abbrev AllTrue : List Bool → Type 0
AllTrue [] = Unit {0}
AllTrue (t ∷ l) = (t ≡ true) × AllTrue l

all_true : (l : List Bool) → all l ≡ true → AllTrue l
all_true [] e = tt
all_true (true ∷ l) e = (refl, all_true l e)
all_true (false ∷ l) e = absurd (false≢true e)

unfoldable pub in_range : List Step → List Bool
in_range [] = []
in_range (s ∷ l) = leb 1 s.price ∷ leb s.price max_price ∷ in_range l

in-range : (l : List Step) → AllTrue (in_range l) → PricesInRange l
unfolding in_range
in-range [] t = tt
in-range (s ∷ l) t = (leb-true _ _ t.0, leb-true _ _ t.1.0, in-range l t.1.1)

-- of a certificate l, u
abbrev pub certified : Hour → ℕ → ℕ → List Bool
certified h l u =
    all (in_range h.steps) ∷ leb 1 l ∷ leb l u ∷ leb u max_price ∷ clears h l ∷ clears h u
    ∷ (eqb l 1 || not (clears h (l - 1))) ∷ (eqb u max_price || not (clears h (u + 1))) ∷ []

-- of an hour that does not clear
abbrev pub unclearable : Hour → List Bool
unclearable h =
    all (in_range h.steps)
    ∷ not (leb h.block_sales (all_buys h.steps + h.block_buys) && leb h.block_buys (all_sells h.steps + h.block_sales)) ∷ []

-- the tested guess
unfoldable pub tested : Hour → Pricing
tested h =
    let l = low h in
    let u = high h in
    elim (all (certified h l u)) [
      | true ↦ cleared l u (middle l u)
      | false ↦ elim (all (unclearable h)) [ true ↦ does_not_clear | false ↦ pricing h ]
    ]

not-clearable : (h : Hour) →
    not (leb h.block_sales (all_buys h.steps + h.block_buys) && leb h.block_buys (all_sells h.steps + h.block_sales)) ≡ true → ¬ Clearable h
not-clearable h e c = false≢true (rw (le-leb _ _ c.buys_suffice, le-leb _ _ c.sells_suffice) at e)

pub tested-is : (h : Hour) → pricing h ≡ tested h
unfolding tested
tested-is h =
    by-test
    (λ t. pricing h ≡ (elim t as (λ _. Pricing) [
      | true ↦ cleared (low h) (high h) (middle (low h) (high h))
      | false ↦ elim (all (unclearable h)) [ true ↦ does_not_clear | false ↦ pricing h ]
    ]))
    (all (certified h (low h) (high h)))
    (λ e. let f = all_true (certified h (low h) (high h)) e in
    pricing-certified h (in-range h.steps (all_true (in_range h.steps) f.0)) (low h) (high h)
    (leb-true _ _ f.1.0) (leb-true _ _ f.1.1.0) (leb-true _ _ f.1.1.1.0)
    f.1.1.1.1.0 f.1.1.1.1.1.0 f.1.1.1.1.1.1.0 f.1.1.1.1.1.1.1.0)
    (λ _. by-test (λ t. pricing h ≡ (elim t as (λ _. Pricing) [ true ↦ does_not_clear | false ↦ pricing h ])) (all (unclearable h))
    (λ e. let f = all_true (unclearable h) e in
    (not-clearing h (in-range h.steps (all_true (in_range h.steps) f.0))).1 (not-clearable h f.1.0))
    (λ _. refl))

-- which hours clear under a set, and their prices
unfoldable pub tested_clears : Day → List Block → ℕ → Bool
tested_clears day set h = is_cleared (tested (hour_of day set h))

pub clears-tested : (day : Day) (set : List Block) → hour_clears day set ≡ tested_clears day set
unfolding hour_clears tested_clears
clears-tested day set = fun_ext (λ h. ap is_cleared (tested-is (hour_of day set h)))

-- THE SHIFT OF A SET: a guess by bisection, tested by the certificates of a set's shift; the rule itself stands where no test passes
unfoldable pub tested_at : Day → List Block → ℕ → ℕ → ℕ
tested_at day set t h = shifted_price t (tested (hour_of day set h))

unfoldable pub tested_all : Day → List Block → ℕ → Bool
tested_all day set t = every_block (keeps_limit day.hours (tested_at day set t)) set

unfoldable pub tested_sells : Day → List Block → ℕ → Bool
tested_sells day set t = every_block (sell_keeps day.hours (tested_at day set) t) set

unfoldable pub tested_buys : Day → List Block → ℕ → Bool
tested_buys day set t = every_block (buy_keeps day.hours (tested_at day set) t) set

-- the last number that passes, from one that does up to one that does not, within so many halvings
unfoldable pub last_passing : (ℕ → Bool) → (halvings passes fails : ℕ) → ℕ
last_passing t zero passes fails = passes
last_passing t (suc n) passes fails =
    let m = (passes + fails) / 2 in
    cond (t m) (last_passing t n m fails) (last_passing t n passes m)

unfoldable pub halvings : ℕ
halvings = 10

-- of a shift below the middle, and of the one after a shift from the middle on
abbrev pub lower_tests : Day → List Block → ℕ → List Bool
lower_tests day set t = ltb t middle_shift ∷ tested_all day set t ∷ not (tested_buys day set (suc t)) ∷ []

abbrev pub higher_tests : Day → List Block → ℕ → List Bool
higher_tests day set t = leb middle_shift t ∷ ltb t last_shift ∷ tested_all day set (suc t) ∷ not (tested_sells day set t) ∷ []

-- of a shift that the sells still miss, and after which the buys do: there is none
abbrev pub apart_tests : Day → List Block → ℕ → List Bool
apart_tests day set t = not (tested_sells day set t) ∷ not (tested_buys day set (suc t)) ∷ []

unfoldable pub tested_shift : Day → List Block → ℕ
tested_shift day set =
    let lower = last_passing (tested_buys day set) halvings 0 middle_shift in
    let higher = last_passing (λ t. not (tested_sells day set t)) halvings middle_shift last_shift in
    cond (tested_all day set middle_shift) middle_shift
    (cond (all (lower_tests day set lower)) lower
    (cond (all (higher_tests day set higher)) (suc higher)
    (cond (all (apart_tests day set lower)) middle_shift
    (cond (all (apart_tests day set higher)) middle_shift
    (cond (not (tested_sells day set last_shift)) middle_shift
    (cond (not (tested_buys day set 0)) middle_shift
    (set_shift day set)))))))

at-tested : (day : Day) (set : List Block) → prices_at_shift day set ≡ tested_at day set
unfolding prices_at_shift tested_at
at-tested day set = fun_ext (λ t. fun_ext (λ h. ap (shifted_price t) (tested-is (hour_of day set h))))

-- a number is the guess where the test certifies it, else what it is otherwise
certified-or : (n guess other : ℕ) (test : Bool) → (test ≡ true → n ≡ guess) → n ≡ other → n ≡ cond test guess other
certified-or n guess other true f e = f refl
certified-or n guess other false f e = e

not-true : (b : Bool) → not b ≡ true → b ≡ false
not-true true e = absurd (false≢true e)
not-true false e = refl

module _ (day : Day) (set : List Block) where
  all_tested : (t : ℕ) → tested_all day set t ≡ true → keeps_all day set t ≡ true
  unfolding tested_all keeps_all
  all_tested t e = rw (at-tested day set) e

  sells-tested : (t : ℕ) → not (tested_sells day set t) ≡ true → sells_keep day set t ≡ false
  unfolding tested_sells
  sells-tested t e = rw (at-tested day set) (not-true _ e)

  buys-tested : (t : ℕ) → not (tested_buys day set t) ≡ true → buys_keep day set t ≡ false
  unfolding tested_buys
  buys-tested t e = rw (at-tested day set) (not-true _ e)

  apart-tested : (t : ℕ) → all (apart_tests day set t) ≡ true → set_shift day set ≡ middle_shift
  apart-tested t e = let f = all_true (apart_tests day set t) e in shift-apart day set t (sells-tested t f.0) (buys-tested (suc t) f.1.0)

  pub shift-tested : set_shift day set ≡ tested_shift day set
  unfolding tested_shift
  shift-tested =
      let lower = last_passing (tested_buys day set) halvings 0 middle_shift in
      let higher = last_passing (λ t. not (tested_sells day set t)) halvings middle_shift last_shift in
      certified-or _ _ _ (tested_all day set middle_shift) (λ e. shift-middle day set (all_tested middle_shift e))
      (certified-or _ _ _ (all (lower_tests day set lower)) (λ e. let f = all_true (lower_tests day set lower) e in
      shift-lower day set lower (ltb-true _ _ f.0) (all_tested lower f.1.0) (buys-tested (suc lower) f.1.1.0))
      (certified-or _ _ _ (all (higher_tests day set higher)) (λ e. let f = all_true (higher_tests day set higher) e in
      shift-higher day set higher (leb-true _ _ f.0) (ltb-true _ _ f.1.0) (all_tested (suc higher) f.1.1.0) (sells-tested higher f.1.1.1.0))
      (certified-or _ _ _ (all (apart_tests day set lower)) (apart-tested lower)
      (certified-or _ _ _ (all (apart_tests day set higher)) (apart-tested higher)
      (certified-or _ _ _ (not (tested_sells day set last_shift)) (λ e. shift-no-sells day set (sells-tested last_shift e))
      (certified-or _ _ _ (not (tested_buys day set 0)) (λ e. shift-no-buys day set (buys-tested 0 e)) refl))))))

-- THE PRICES of a set, by edition
unfoldable pub tested_prices : Day → List Block → ℕ → ℕ
tested_prices day set h =
    cond (gives_way day.edition) (tested_at day set (tested_shift day set) h) (answered_price (tested (hour_of day set h)))

pub price-tested : (day : Day) (set : List Block) (h : ℕ) → set_prices day set h ≡ tested_prices day set h
unfolding set_prices tested_prices
price-tested day set h =
    ap₂ (λ (a b : ℕ). cond (gives_way day.edition) a b) (ap₂ (λ (f : ℕ → ℕ → ℕ) (t : ℕ). f t h) (at-tested day set) (shift-tested day set))
    (ap answered_price (tested-is (hour_of day set h)))

pub prices-tested : (day : Day) (set : List Block) → set_prices day set ≡ tested_prices day set
prices-tested day set = fun_ext (price-tested day set)

-- THE DAY COMPUTES: `unfolding computed` opens all that a day's tested prices, limits, executed quantities and welfare compute through
unfoldable pub computed : Unit {0}
unfolding tested tested_clears tested_prices tested_at tested_all tested_sells tested_buys last_passing halvings tested_shift shifted gives_way low high least_of greatest_of in_range clears buys_above buys_from sells_to sells_below
    day_of each_on_day canonical steps_of weight is_counted sum_to day_sum all_to every_hour hour_count price_sum keeps_limit keeps_limits keeps_link allowed
    execution buy_amount sell_amount floors remainders at_least extras in_proportion shares in_step_order bought sold steps_value steps_cost blocks_value blocks_cost
    day_value day_cost
computed = tt

-- THE LAW OF `weight`: every hour of 1 to 24 counts, but for hour 3 on a day of 23 hours
pub hour-counts : {hours : ℕ} (h : ℕ) → (leb 1 h && (leb h 24 && leb 1 (weight hours h))) ≡ true → Counts hours h
hour-counts {hours} h e =
    let t = both (leb 1 h) _ e in
    let u = both (leb h 24) _ t.1 in
    record { first = leb-true 1 h t.0; last = leb-true h 24 u.0; counted = leb-true 1 (weight hours h) u.1 }
