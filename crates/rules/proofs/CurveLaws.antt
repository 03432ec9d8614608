-- M1 and M2: the four totals of an hour's steps. Buys fall and sells rise with the price; one cent apart, "at or above" is "above" and "below" is
-- "at or below"; at the ends of the price range they are all or nothing. Assumes nothing.
use Prim.Native.Nat.{ℕ, suc, ◌+◌, ◌*◌, ◌≤◌}
use mathlib.Core.Bool.{Bool, true, false, cond}
use mathlib.Core.Path.{◌≡◌, refl}
use mathlib.Core.List.{List, [], ◌∷◌}
use native.Mathlib.Omega.{arith}
use lib.Dec.{ltb, leb, eqb, leb-suc-suc}
use borrow.Author.Tests.{ltb-true, leb-true, lt-ltb, le-ltb, le-leb, lt-leb, ne_eqb}
use Rattle.rules.specs.Orders.{Side, buy, sell, Step, max_price}
use Rattle.rules.specs.Hour.{total, by_side, when, buying, selling, all_buys, all_sells, buys_above, buys_from, sells_to, sells_below}
use Rattle.rules.specs.Execution.{buying_at, selling_at}
use Rattle.rules.specs.Contender.{PricesInRange}
use Rattle.rules.proofs.Tests.{by-lt, by-eq}

-- SUMS
pub when-zero : (t : Bool) → when t 0 ≡ 0
when-zero true = refl
when-zero false = refl

pub when-le : (t : Bool) (n : ℕ) → when t n ≤ n
when-le true n = omega arith
when-le false n = omega arith

pub times-when : (t : Bool) (x : ℕ) → cond t 1 0 * x ≡ when t x
times-when true x = omega arith
times-when false x = omega arith

pub by_side-le : (side : Side) (q : ℕ) → (by_side side q 0 ≤ q) × (by_side side 0 q ≤ q)
by_side-le buy q = (omega arith, omega arith)
by_side-le sell q = (omega arith, omega arith)

when-mono : (a b : Bool) (n : ℕ) → (a ≡ true → b ≡ true) → when a n ≤ when b n
when-mono false b n h = omega arith
when-mono true b n h = rw (h refl) (omega arith)

pub total-le : (f g : Step → ℕ) → ((s : Step) → f s ≤ g s) → (l : List Step) → total f l ≤ total g l
total-le f g h [] = omega arith
total-le f g h (s ∷ l) = omega (arith, h s, total-le f g h l)

total-add : (f g k : Step → ℕ) → ((s : Step) → f s ≡ g s + k s) → (l : List Step) → total f l ≡ total g l + total k l
total-add f g k h [] = omega arith
total-add f g k h (s ∷ l) = omega (arith, h s, total-add f g k h l)

-- where each step's price is in range
total-le-priced : (f g : Step → ℕ) → ((s : Step) → 1 ≤ s.price → s.price ≤ max_price → f s ≤ g s) →
    (l : List Step) → PricesInRange l → total f l ≤ total g l
total-le-priced f g h [] r = omega arith
total-le-priced f g h (s ∷ l) r = omega (arith, h s r.0 r.1, total-le-priced f g h l r.2)

total-none : (f : Step → ℕ) → ((s : Step) → 1 ≤ s.price → s.price ≤ max_price → f s ≡ 0) → (l : List Step) → PricesInRange l → total f l ≡ 0
total-none f h [] r = refl
total-none f h (s ∷ l) r = omega (arith, h s r.0 r.1, total-none f h l r.2)

-- M1: FROM ONE PRICE TO A HIGHER
module _ (p q : ℕ) (le : p ≤ q) (l : List Step) where
  pub buys_above-falls : buys_above q l ≤ buys_above p l
  unfolding buys_above
  buys_above-falls =
      total-le _ _ (λ s. when-mono (ltb q s.price) (ltb p s.price) (buying s) (λ e. lt-ltb p s.price (omega (arith, ltb-true q s.price e)))) l

  pub buys_from-falls : buys_from q l ≤ buys_from p l
  unfolding buys_from
  buys_from-falls =
      total-le _ _ (λ s. when-mono (leb q s.price) (leb p s.price) (buying s) (λ e. le-leb p s.price (omega (arith, leb-true q s.price e)))) l

  pub sells_to-rises : sells_to p l ≤ sells_to q l
  unfolding sells_to
  sells_to-rises =
      total-le _ _ (λ s. when-mono (leb s.price p) (leb s.price q) (selling s) (λ e. le-leb s.price q (omega (arith, leb-true s.price p e)))) l

  pub sells_below-rises : sells_below p l ≤ sells_below q l
  unfolding sells_below
  sells_below-rises =
      total-le _ _ (λ s. when-mono (ltb s.price p) (ltb s.price q) (selling s) (λ e. lt-ltb s.price q (omega (arith, ltb-true s.price p e)))) l

-- M2: ONE CENT APART
pub buys_from-suc : (p : ℕ) (l : List Step) → buys_from (suc p) l ≡ buys_above p l
unfolding buys_from buys_above
buys_from-suc p l = refl

pub sells_below-suc : (p : ℕ) (l : List Step) → sells_below (suc p) l ≡ sells_to p l
unfolding sells_below sells_to
sells_below-suc p l = simp leb-suc-suc

-- AT THE ENDS of the price range
module _ (l : List Step) (r : PricesInRange l) where
  pub buys_from-one : all_buys l ≤ buys_from 1 l
  unfolding buys_from
  buys_from-one = total-le-priced _ _ (λ s a b. rw (le-leb 1 s.price a) (omega arith)) l r

  pub sells_to-max : all_sells l ≤ sells_to max_price l
  unfolding sells_to
  sells_to-max = total-le-priced _ _ (λ s a b. rw (le-leb s.price max_price b) (omega arith)) l r

  pub buys_above-max : buys_above max_price l ≡ 0
  unfolding buys_above
  buys_above-max = total-none _ (λ s a b. rw (le-ltb max_price s.price b)) l r

  pub sells_below-one : sells_below 1 l ≡ 0
  unfolding sells_below
  sells_below-one = total-none _ (λ s a b. rw (le-ltb s.price 1 a)) l r

pub buys_from-all : (p : ℕ) (l : List Step) → buys_from p l ≤ all_buys l
unfolding buys_from
buys_from-all p l = total-le _ _ (λ s. when-le (leb p s.price) (buying s)) l

pub sells_to-all : (p : ℕ) (l : List Step) → sells_to p l ≤ all_sells l
unfolding sells_to
sells_to-all p l = total-le _ _ (λ s. when-le (leb s.price p) (selling s)) l

-- AT A PRICE: at or above is above, and at
pub from-is-above-and-at : (p x n : ℕ) → when (leb p x) n ≡ when (ltb p x) n + when (eqb x p) n
from-is-above-and-at p x n =
    by-lt (λ t. when (leb p x) n ≡ when t n + when (eqb x p) n) p x
    (λ h. rw (le-leb p x (omega arith), ne_eqb x p (omega arith)) (omega arith))
    (λ h. by-eq (λ t. when (leb p x) n ≡ 0 + when t n) x p
    (λ e. rw (le-leb p x (omega arith)) (omega arith))
    (λ e. rw (lt-leb p x (omega arith)) (omega arith)))

pub to-is-below-and-at : (p x n : ℕ) → when (leb x p) n ≡ when (ltb x p) n + when (eqb x p) n
to-is-below-and-at p x n =
    by-lt (λ t. when (leb x p) n ≡ when t n + when (eqb x p) n) x p
    (λ h. rw (le-leb x p (omega arith), ne_eqb x p (omega arith)) (omega arith))
    (λ h. by-eq (λ t. when (leb x p) n ≡ 0 + when t n) x p
    (λ e. rw (le-leb x p (omega arith)) (omega arith))
    (λ e. rw (lt-leb x p (omega arith)) (omega arith)))

pub buys_from-split : (p : ℕ) (l : List Step) → buys_from p l ≡ buys_above p l + total (buying_at p) l
unfolding buys_from buys_above
buys_from-split p l = total-add _ _ _ (λ s. from-is-above-and-at p s.price (buying s)) l

pub sells_to-split : (p : ℕ) (l : List Step) → sells_to p l ≡ sells_below p l + total (selling_at p) l
unfolding sells_to sells_below
sells_to-split p l = total-add _ _ _ (λ s. to-is-below-and-at p s.price (selling s)) l
