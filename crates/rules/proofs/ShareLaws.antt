-- M6, THE LAWS OF THE SHARING RULE: as many shares as steps, each at most its step's own quantity; a step of 0 put in anywhere gets 0 and moves no
-- other. That the shares add up to the amount is in CutLaws. Edges has small cases, computed. Assumes nothing.
use Prim.Native.Nat.{ℕ, zero, suc, ◌+◌, ◌-◌, ◌*◌, ◌/◌, ◌%◌, ◌≤◌, ◌<◌}
use mathlib.Core.Bool.{Bool, true, false}
use mathlib.Core.Path.{◌≡◌, refl, sym, ap, ap₂, ◌∙◌}
use mathlib.Core.List.{List, [], ◌∷◌, map}
use native.Mathlib.Omega.{arith}
use native.Mathlib.Decide.{dec_le}
use native.Mathlib.Nat.{lt_of_not-le, mod-lt, div-add-mod', mul-le-mul_left, mul_comm, le_of_mul-le-mul_right, lt_of_mul-lt-mul_right, zero-mod, zero-div, zero-mul, add-mul}
use lib.Dec.{ltb, leb}
use lib.ListN.{length, length-map}
use borrow.Author.Tests.{le-ltb, le-leb, lt-leb, eq-eqb, ne_eqb}
use Rattle.rules.specs.Hour.{when}
use Rattle.rules.specs.Execution.{sum_of, plus, floors, remainders, at_least, extras, in_proportion, shares}
use Rattle.rules.specs.SharingRules.{AtMost}
use Rattle.rules.proofs.Tests.{by_le}

-- COUNTS
pub when-le : (t : Bool) (n : ℕ) → when t n ≤ n
when-le true n = omega arith
when-le false n = omega arith

when-falls : (x y r : ℕ) → x ≤ y → when (leb y r) 1 ≤ when (leb x r) 1
when-falls x y r h =
    by_le (λ t. when t 1 ≤ when (leb x r) 1) y r (λ k. rw (le-leb x r (omega arith)) (omega arith)) (λ k. omega arith)

pub at_least-none : (x : ℕ) → at_least x [] ≡ 0
unfolding at_least
at_least-none x = refl

-- fewer are at least a larger number
pub at_least-falls : (x y : ℕ) → x ≤ y → (l : List ℕ) → at_least y l ≤ at_least x l
unfolding at_least
at_least-falls x y h [] = omega arith
at_least-falls x y h (r ∷ l) = omega (arith, when-falls x y r h, at_least-falls x y h l)

pub at_least-length : (x : ℕ) (l : List ℕ) → at_least x l ≤ length l
unfolding at_least
at_least-length x [] = omega arith
at_least-length x (r ∷ l) = omega (arith, when-le (leb x r) 1, at_least-length x l)

pub at_least-zero : (l : List ℕ) → at_least 0 l ≡ length l
unfolding at_least
at_least-zero [] = refl
at_least-zero (r ∷ l) = rw (le-leb 0 r (omega arith)) (omega (arith, at_least-zero l))

-- passing a place moves its remainder from the rest to those before
pub moves : (x left r : ℕ) (before rest : List ℕ) → left ≤ at_least x before + at_least x (r ∷ rest) → left ≤ at_least x (r ∷ before) + at_least x rest
unfolding at_least
moves x left r before rest h = omega arith

-- numbers below t add up to less than t for each positive one
sum_bound : (t : ℕ) (l : List ℕ) → (f : ℕ → ℕ) → ((x : ℕ) → f x ≤ t) → sum_of (map f l) ≤ at_least 1 (map f l) * t
unfolding at_least
sum_bound t [] f h = omega arith
sum_bound t (x ∷ l) f h =
    by_le (λ b. f x + sum_of (map f l) ≤ (when b 1 + at_least 1 (map f l)) * t) 1 (f x)
    (λ k. omega (arith, h x, sum_bound t l f h, add-mul 1 (at_least 1 (map f l)) t))
    (λ k. omega (arith, sum_bound t l f h, add-mul 0 (at_least 1 (map f l)) t))

-- THE TWO CASES of the rule
pub shares-none : (amount : ℕ) (owns : List ℕ) → sum_of owns ≡ 0 → shares amount owns ≡ map (λ own. 0) owns
unfolding shares
shares-none amount owns e = rw (eq-eqb (sum_of owns) 0 e)

pub shares-some : (amount : ℕ) (owns : List ℕ) → 0 < sum_of owns → shares amount owns ≡ in_proportion amount (sum_of owns) owns
unfolding shares
shares-some amount owns pos = rw (ne_eqb (sum_of owns) 0 (omega arith))

pub by_total : (P : List ℕ → Type 0) (amount : ℕ) (owns : List ℕ) → (sum_of owns ≡ 0 → P (map (λ own. 0) owns)) →
    (0 < sum_of owns → P (in_proportion amount (sum_of owns) owns)) → P (shares amount owns)
by_total P amount owns none some = elim (dec_le 1 (sum_of owns)) [
  | yes k ↦ rw (shares-some amount owns k) (some k)
  | no k ↦ let e : sum_of owns ≡ 0 = omega (arith, lt_of_not-le k) in rw (shares-none amount owns e) (none e)
]

-- FLOORS AND REMAINDERS
module _ (amount total : ℕ) where
  pub divided : (owns : List ℕ) → sum_of (floors amount total owns) * total + sum_of (remainders amount total owns) ≡ sum_of owns * amount
  unfolding floors remainders
  divided [] = omega arith
  divided (own ∷ l) =
      omega (
        arith,
        divided l,
        div-add-mod' (own * amount) total,
        add-mul (own * amount / total) (sum_of (floors amount total l)) total,
        add-mul own (sum_of l) amount,
      )

module _ (amount : ℕ) (owns : List ℕ) (pos : 0 < sum_of owns) where
  -- the floors give out no more than the amount
  pub given-within : sum_of (floors amount (sum_of owns) owns) ≤ amount
  given-within =
      le_of_mul-le-mul_right {k = sum_of owns} (omega (arith, divided amount (sum_of owns) owns, mul_comm (sum_of owns) amount)) pos

  -- what is left, times the total, is what the divisions left
  pub leftover : (amount - sum_of (floors amount (sum_of owns) owns)) * sum_of owns ≡ sum_of (remainders amount (sum_of owns) owns)
  leftover =
      let f = sum_of (floors amount (sum_of owns) owns) in
      omega (
        arith,
        divided amount (sum_of owns) owns,
        mul_comm (sum_of owns) amount,
        add-mul (amount - f) f (sum_of owns),
        ap (λ n. n * sum_of owns) (back given-within),
      )
    where
      back : {a f : ℕ} → f ≤ a → a - f + f ≡ a
      back h = omega arith

  -- so there is a positive remainder for every leftover tenth
  pub leftover-few : amount - sum_of (floors amount (sum_of owns) owns) ≤ at_least 1 (remainders amount (sum_of owns) owns)
  unfolding remainders
  leftover-few =
      le_of_mul-le-mul_right {k = sum_of owns}
      (omega (arith, leftover, sum_bound (sum_of owns) owns (λ own. own * amount % sum_of owns) (λ x. omega (arith, mod-lt (x * amount) pos))))
      pos

-- EACH SHARE WITHIN ITS STEP'S OWN
-- a remainder of 0 gets none of the leftover, where every leftover tenth finds a positive one
none-for-zero : (left ahead more : ℕ) → left ≤ ahead + more → when (ltb (ahead + more) left) 1 ≡ 0
none-for-zero left ahead more h = rw (le-ltb (ahead + more) left h)

module _ (amount t : ℕ) (pos : 0 < t) (within : amount ≤ t) where
  one-share : (own left : ℕ) (before rest : List ℕ) → left ≤ at_least 1 before + at_least 1 (own * amount % t ∷ rest) →
      own * amount / t + when (ltb (at_least (own * amount % t) before + at_least (suc (own * amount % t)) rest) left) 1 ≤ own
  unfolding at_least
  one-share own left before rest few =
      go (own * amount / t) (own * amount % t) (div-add-mod' (own * amount) t) few
    where
      go : (f r : ℕ) → f * t + r ≡ own * amount → left ≤ at_least 1 before + (when (leb 1 r) 1 + at_least 1 rest) →
          f + when (ltb (at_least r before + at_least (suc r) rest) left) 1 ≤ own
      go f zero e k =
          omega (
            arith,
            none-for-zero left (at_least 0 before) (at_least 1 rest) (omega (arith, at_least-falls 0 1 (omega arith) before)),
            le_of_mul-le-mul_right {m = f} {n = own} {k = t} (omega (arith, mul-le-mul_left own within)) pos,
          )
      go f (suc r) e k =
          omega (
            arith,
            when-le (ltb (at_least (suc r) before + at_least (suc (suc r)) rest) left) 1,
            lt_of_mul-lt-mul_right t {m = f} {n = own} (omega (arith, mul-le-mul_left own within)),
          )

  all-shares : (owns before : List ℕ) (left : ℕ) → left ≤ at_least 1 before + at_least 1 (remainders amount t owns) →
      AtMost owns (plus (floors amount t owns) (extras left before (remainders amount t owns)))
  unfolding floors remainders extras
  all-shares [] before left few = tt
  all-shares (own ∷ l) before left few = (
    one-share own left before (remainders amount t l) few,
    all-shares l (own * amount % t ∷ before) left (moves 1 left (own * amount % t) before (remainders amount t l) few),
  )

nothing-within : (owns : List ℕ) → AtMost owns (map (λ own. 0) owns)
nothing-within [] = tt
nothing-within (own ∷ l) = (omega arith, nothing-within l)

-- THE FIRST LAW: of an amount within the total no step gets more than its own
pub shares-within : (amount : ℕ) (owns : List ℕ) → amount ≤ sum_of owns → AtMost owns (shares amount owns)
unfolding in_proportion
shares-within amount owns h =
    by_total (AtMost owns) amount owns (λ e. nothing-within owns)
    (λ pos. all-shares amount (sum_of owns) pos h owns [] _ (omega (arith, at_least-none 1, leftover-few amount owns pos)))

-- AS MANY shares as steps
pub length-plus : (l m : List ℕ) → length l ≡ length m → length (plus l m) ≡ length l
length-plus [] m e = refl
length-plus (a ∷ l) [] e = absurd (omega arith)
length-plus (a ∷ l) (b ∷ m) e = omega (arith, length-plus l m (omega arith))

pub length-extras : (left : ℕ) (before rest : List ℕ) → length (extras left before rest) ≡ length rest
unfolding extras
length-extras left before [] = refl
length-extras left before (r ∷ rest) = omega (arith, length-extras left (r ∷ before) rest)

length-proportion : (amount t : ℕ) (owns : List ℕ) → length (in_proportion amount t owns) ≡ length owns
unfolding in_proportion floors remainders
length-proportion amount t owns =
    let left = amount - sum_of (floors amount t owns) in
    let f = length-map owns (λ own. own * amount / t) in
    let e = length-extras left [] (remainders amount t owns) in
    let r = length-map owns (λ own. own * amount % t) in
    omega (arith, length-plus (floors amount t owns) (extras left [] (remainders amount t owns)) (omega arith))

pub shares-length : (amount : ℕ) (owns : List ℕ) → length (shares amount owns) ≡ length owns
shares-length amount owns =
    by_total (λ l. length l ≡ length owns) amount owns (λ e. length-map owns (λ own. 0)) (λ pos. length-proportion amount (sum_of owns) owns)

-- A STEP OF 0 put in anywhere gets 0 and moves no other
-- a number put in before place n of a list, or at its end
abbrev pub put_in : ℕ → ℕ → List ℕ → List ℕ
put_in zero x l = x ∷ l
put_in (suc n) x [] = x ∷ []
put_in (suc n) x (a ∷ l) = a ∷ put_in n x l

sum-put : (n : ℕ) (l : List ℕ) → sum_of (put_in n 0 l) ≡ sum_of l
sum-put zero l = omega arith
sum-put (suc n) [] = omega arith
sum-put (suc n) (a ∷ l) = omega (arith, sum-put n l)

map-put : (f : ℕ → ℕ) → f 0 ≡ 0 → (n : ℕ) (l : List ℕ) → map f (put_in n 0 l) ≡ put_in n 0 (map f l)
map-put f z zero l = rw z
map-put f z (suc n) [] = rw z
map-put f z (suc n) (a ∷ l) = ap (λ m. f a ∷ m) (map-put f z n l)

plus-put : (n : ℕ) (l m : List ℕ) → length l ≡ length m → plus (put_in n 0 l) (put_in n 0 m) ≡ put_in n 0 (plus l m)
plus-put zero l m e = refl
plus-put (suc n) [] [] e = refl
plus-put (suc n) [] (b ∷ m) e = absurd (omega arith)
plus-put (suc n) (a ∷ l) [] e = absurd (omega arith)
plus-put (suc n) (a ∷ l) (b ∷ m) e = ap (λ k. (a + b) ∷ k) (plus-put n l m (omega arith))

at_least-put : (x : ℕ) → 0 < x → (n : ℕ) (l : List ℕ) → at_least x (put_in n 0 l) ≡ at_least x l
unfolding at_least
at_least-put x h zero l = rw (lt-leb x 0 h) (omega arith)
at_least-put x h (suc n) [] = rw (lt-leb x 0 h) (omega arith)
at_least-put x h (suc n) (a ∷ l) = omega (arith, at_least-put x h n l)

-- those before with the same counts of positive numbers give the rest the same
module _ (left : ℕ) where
  extras-same : (before before' rest : List ℕ) → ((x : ℕ) → 0 < x → at_least x before ≡ at_least x before') →
      left ≤ at_least 1 before + at_least 1 rest → extras left before rest ≡ extras left before' rest
  unfolding extras at_least
  extras-same before before' [] same few = refl
  extras-same before before' (r ∷ rest) same few =
      ap₂ ◌∷◌ (head r few)
      (extras-same (r ∷ before) (r ∷ before') rest (λ x h. both x (same x h)) (moves 1 left r before rest few))
    where
      both : (x : ℕ) → at_least x before ≡ at_least x before' → at_least x (r ∷ before) ≡ at_least x (r ∷ before')
      both x e = rw e

      head : (r : ℕ) → left ≤ at_least 1 before + at_least 1 (r ∷ rest) →
          when (ltb (at_least r before + at_least (suc r) rest) left) 1 ≡ when (ltb (at_least r before' + at_least (suc r) rest) left) 1
      head zero few =
          none-for-zero left (at_least 0 before) (at_least 1 rest) (omega (arith, at_least-falls 0 1 (omega arith) before))
          ∙ sym (none-for-zero left (at_least 0 before') (at_least 1 rest)
          (omega (arith, at_least-falls 0 1 (omega arith) before', same 1 (omega arith))))
      head (suc r) few = rw (same (suc r) (omega arith))

  extras-put : (n : ℕ) (before rest : List ℕ) → left ≤ at_least 1 before + at_least 1 rest →
      extras left before (put_in n 0 rest) ≡ put_in n 0 (extras left before rest)
  unfolding extras at_least
  extras-put zero before rest few =
      ap₂ ◌∷◌ (none-for-zero left (at_least 0 before) (at_least 1 rest) (omega (arith, at_least-falls 0 1 (omega arith) before)))
      (extras-same (0 ∷ before) before rest (λ x h. pushed x h) (omega (arith, pushed 1 (omega arith))))
    where
      pushed : (x : ℕ) → 0 < x → at_least x (0 ∷ before) ≡ at_least x before
      pushed x h = rw (lt-leb x 0 h) (omega arith)
  extras-put (suc n) before [] few =
      ap (λ e. e ∷ []) (none-for-zero left (at_least 0 before) (at_least 1 []) (omega (arith, at_least-falls 0 1 (omega arith) before)))
  extras-put (suc n) before (r ∷ rest) few =
      ap₂ ◌∷◌ (rw (at_least-put (suc r) (omega arith) n rest)) (extras-put n (r ∷ before) rest (moves 1 left r before rest few))

proportion-put : (amount n : ℕ) (owns : List ℕ) → 0 < sum_of owns →
    in_proportion amount (sum_of owns) (put_in n 0 owns) ≡ put_in n 0 (in_proportion amount (sum_of owns) owns)
unfolding in_proportion floors remainders
proportion-put amount n owns pos =
    let t = sum_of owns in
    let left = amount - sum_of (floors amount t owns) in
    rw (
      map-put (λ own. own * amount / t) (rw zero-mul (zero-div t)) n owns,
      map-put (λ own. own * amount % t) (rw zero-mul (zero-mod t)) n owns,
      sum-put n (map (λ own. own * amount / t) owns),
      extras-put left n [] (remainders amount t owns) (omega (arith, at_least-none 1, leftover-few amount owns pos)),
    ) (plus-put n (floors amount t owns) (extras left [] (remainders amount t owns))
    (omega (
      arith,
      length-extras left [] (remainders amount t owns),
      length-map owns (λ own. own * amount / t),
      length-map owns (λ own. own * amount % t),
    )))

pub shares-put : (amount n : ℕ) (owns : List ℕ) → shares amount (put_in n 0 owns) ≡ put_in n 0 (shares amount owns)
shares-put amount n owns =
    by_total (λ l. shares amount (put_in n 0 owns) ≡ put_in n 0 l) amount owns
    (λ e. shares-none amount (put_in n 0 owns) (sum-put n owns ∙ e) ∙ map-put (λ own. 0) refl n owns)
    (λ pos. shares-some amount (put_in n 0 owns) (rw (sum-put n owns) pos) ∙ rw (sum-put n owns) (proportion-put amount n owns pos))
