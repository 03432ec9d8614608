-- THE PRICES OF A SET, by edition, as prices at one shift: the set's own where prices can give way, else the middle one. Every shift of an hour that clears
-- clears it; so by M5 what is executed, and with it the traded quantities, is the same at every shift. Assumes nothing.
use Prim.Native.Nat.{ℕ, ◌+◌, ◌≤◌}
use mathlib.Core.Bool.{Bool, true, false, cond, false≢true}
use mathlib.Core.Path.{◌≡◌, refl, sym, ap, ◌∙◌, fun_ext}
use mathlib.Core.List.{List}
use native.Mathlib.Omega.{arith}
use Rattle.rules.specs.Orders.{Block, max_price}
use Rattle.rules.specs.Hour.{Hour, Pricing, cleared, does_not_clear, pricing, is_cleared, answered_price}
use Rattle.rules.specs.Shift.{last_shift, middle_shift, shifted, shifted_price}
use Rattle.rules.specs.Execution.{execution}
use Rattle.rules.specs.Day.{
  Day,
  hour_of,
  hour_clears,
  keeps_limit,
  every_block,
  gives_way,
  prices_at_shift,
  keeps_all,
  set_shift,
  set_prices,
  keeps_limits,
}
use Rattle.rules.specs.Contender.{PricesInRange}
use Rattle.rules.proofs.PricingLaws.{Clears, Cleared, Priced, pricing-is, inside-clears}
use Rattle.rules.proofs.ChainLaws.{prices-in}
use Rattle.rules.proofs.ExecutionLaws.{same-execution}
use Rattle.rules.proofs.ShiftLaws.{shifted-low, shifted-high, shifted-middle}
use Rattle.rules.proofs.SetShiftLaws.{shift_small, shift-keeps, shift-middle}
use Rattle.rules.proofs.Tests.{by-test}

-- THE SHIFTS OF AN EDITION: 0 to 1000 where prices can give way, else the middle one alone
unfoldable pub least_shift : ℕ → ℕ
least_shift edition = cond (gives_way edition) 0 middle_shift

unfoldable pub most_shift : ℕ → ℕ
most_shift edition = cond (gives_way edition) last_shift middle_shift

pub record IsShift (edition t : ℕ) : Type 0 where
  pub least : least_shift edition ≤ t
  pub most : t ≤ most_shift edition

pub most-small : (edition : ℕ) → most_shift edition ≤ last_shift
unfolding most_shift
most-small edition = go (gives_way edition)
  where
    go : (b : Bool) → cond b last_shift middle_shift ≤ last_shift
    go true = omega arith
    go false = omega arith

pub shift_fits : {edition t : ℕ} → IsShift edition t → t ≤ last_shift
shift_fits {edition} s = omega (arith, s.most, most-small edition)

-- in an edition whose prices can give way all of them are shifts; in another the middle one is the only one
pub any-shift : {edition : ℕ} → gives_way edition ≡ true → (t : ℕ) → t ≤ last_shift → IsShift edition t
unfolding least_shift most_shift
any-shift e t k = record { least = rw e (omega arith); most = rw e k }

pub only-middle : {edition t : ℕ} → gives_way edition ≡ false → IsShift edition t → t ≡ middle_shift
unfolding least_shift most_shift
only-middle {edition} {t} e s = omega (arith, rw e at s.least, rw e at s.most)

pub middle-is : (edition : ℕ) → IsShift edition middle_shift
unfolding least_shift most_shift
middle-is edition = go (gives_way edition) refl
  where
    go : (b : Bool) → gives_way edition ≡ b → IsShift edition middle_shift
    go true e = record { least = rw e (omega arith); most = rw e (omega arith) }
    go false e = record { least = rw e (omega arith); most = rw e (omega arith) }

-- AN HOUR at a shift
pub shifted-clears : (h : Hour) (l u p t : ℕ) → Cleared h l u p → t ≤ last_shift → Clears h (shifted t l u)
shifted-clears h l u p t c k = inside-clears h l u p (shifted t l u) c (shifted-low t l u) (shifted-high t l u c.ordered k)

-- THE SHIFT OF A SET, by edition
unfoldable pub day_shift : Day → List Block → ℕ
day_shift day set = cond (gives_way day.edition) (set_shift day set) middle_shift

pub is-shift : (day : Day) (set : List Block) → IsShift day.edition (day_shift day set)
unfolding day_shift
is-shift day set = go (gives_way day.edition) refl
  where
    go : (b : Bool) → gives_way day.edition ≡ b → IsShift day.edition (cond b (set_shift day set) middle_shift)
    go true e = any-shift e (set_shift day set) (shift_small day set)
    go false e = middle-is day.edition

-- it is the set's own where prices can give way, else the middle one; and the middle one where that keeps all blocks
module _ (day : Day) (set : List Block) where
  pub own-shift : gives_way day.edition ≡ true → day_shift day set ≡ set_shift day set
  unfolding day_shift
  own-shift e = rw e

  pub no_shift : gives_way day.edition ≡ false → day_shift day set ≡ middle_shift
  unfolding day_shift
  no_shift e = rw e

  pub middle-shift : keeps_all day set middle_shift ≡ true → day_shift day set ≡ middle_shift
  middle-shift k =
      by-test (λ _. day_shift day set ≡ middle_shift) (gives_way day.edition) (λ e. own-shift e ∙ shift-middle day set k) no_shift

module _ (day : Day) (prices : PricesInRange day.steps) (set : List Block) where
  priced : (h : ℕ) → Priced (hour_of day set h) (pricing (hour_of day set h))
  priced h = pricing-is (hour_of day set h) (prices-in h day.steps prices)

  -- the middle price is the price at the middle shift
  pub middle-at : (h : ℕ) → answered_price (pricing (hour_of day set h)) ≡ prices_at_shift day set middle_shift h
  unfolding prices_at_shift
  middle-at h = go (pricing (hour_of day set h)) (priced h)
    where
      go : (a : Pricing) → Priced (hour_of day set h) a → answered_price a ≡ shifted_price middle_shift a
      go (cleared l u p) c = c.is_middle ∙ sym (shifted-middle l u c.ordered)
      go does_not_clear c = refl

  -- THE LAW OF `set_prices`: they are the prices at the shift of the set
  pub price-at-shift : (h : ℕ) → set_prices day set h ≡ prices_at_shift day set (day_shift day set) h
  unfolding set_prices day_shift
  price-at-shift h = go (gives_way day.edition)
    where
      go : (b : Bool) → cond b (prices_at_shift day set (set_shift day set) h) (answered_price (pricing (hour_of day set h)))
          ≡ prices_at_shift day set (cond b (set_shift day set) middle_shift) h
      go true = refl
      go false = middle-at h

  -- no price at a shift is above 300000, also where the hour does not clear
  pub shift-price-small : (t : ℕ) → t ≤ last_shift → (h : ℕ) → prices_at_shift day set t h ≤ max_price
  unfolding prices_at_shift
  shift-price-small t k h = go (pricing (hour_of day set h)) (priced h)
    where
      go : (a : Pricing) → Priced (hour_of day set h) a → shifted_price t a ≤ max_price
      go (cleared l u p) c = omega (arith, shifted-high t l u c.ordered k, c.in_range)
      go does_not_clear c = omega arith

  -- a price at a shift clears an hour that clears, and is at least 1
  pub shift-clears : (t : ℕ) → t ≤ last_shift → (h : ℕ) → hour_clears day set h ≡ true → Clears (hour_of day set h) (prices_at_shift day set t h)
  unfolding hour_clears prices_at_shift
  shift-clears t k h = go (pricing (hour_of day set h)) (priced h)
    where
      go : (a : Pricing) → Priced (hour_of day set h) a → is_cleared a ≡ true → Clears (hour_of day set h) (shifted_price t a)
      go (cleared l u p) c e = shifted-clears (hour_of day set h) l u p t c k
      go does_not_clear c e = absurd (false≢true e)

  pub shift-price-positive : (t : ℕ) → (h : ℕ) → hour_clears day set h ≡ true → 1 ≤ prices_at_shift day set t h
  unfolding hour_clears prices_at_shift
  shift-price-positive t h = go (pricing (hour_of day set h)) (priced h)
    where
      go : (a : Pricing) → Priced (hour_of day set h) a → is_cleared a ≡ true → 1 ≤ shifted_price t a
      go (cleared l u p) c e = omega (arith, shifted-low t l u, c.positive)
      go does_not_clear c e = absurd (false≢true e)

  -- LIMITS: they are kept at the set's prices exactly where they are at its shift, and that is where they are at any shift of the edition
  pub limits-at-shift : keeps_limits day set ≡ keeps_all day set (day_shift day set)
  unfolding keeps_limits keeps_all
  limits-at-shift = ap (λ (f : ℕ → ℕ). every_block (keeps_limit day.hours f) set) (fun_ext price-at-shift)

  pub some-shift-keeps : {t : ℕ} → IsShift day.edition t → keeps_all day set t ≡ true → keeps_limits day set ≡ true
  unfolding day_shift
  some-shift-keeps {t} s e = limits-at-shift ∙ go (gives_way day.edition) refl
    where
      go : (b : Bool) → gives_way day.edition ≡ b → keeps_all day set (cond b (set_shift day set) middle_shift) ≡ true
      go true z = shift-keeps day set t (shift_fits s) e
      go false z = rw (only-middle z s) at e

  -- M5: LAW: an hour that clears executes the same quantities at every shift
  pub execution-at-shift : (t : ℕ) → t ≤ last_shift → (h : ℕ) → hour_clears day set h ≡ true →
      execution (hour_of day set h) (prices_at_shift day set t h) ≡ execution (hour_of day set h) (set_prices day set h)
  execution-at-shift t k h e =
      rw (price-at-shift h)
      (same-execution (hour_of day set h) _ _ (shift-clears t k h e) (shift-clears (day_shift day set) (shift_fits (is-shift day set)) h e))
