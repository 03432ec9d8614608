-- THE RULE BY A CUT: where no more than the leftover lie above a number, and no fewer at or above it, the leftover goes to those above it and to the
-- first ones at it; so does the code. From it: the shares add up to the amount. Assumes nothing.
use Prim.Native.Nat.{ℕ, zero, suc, ◌+◌, ◌-◌, ◌*◌, ◌/◌, ◌%◌, ◌≤◌, ◌<◌, min}
use mathlib.Core.Bool.{◌||◌, ◌&&◌}
use mathlib.Core.Path.{◌≡◌, refl, ap, ap₂, ◌∙◌}
use mathlib.Core.List.{List, [], ◌∷◌, map}
use native.Mathlib.Omega.{arith}
use native.Mathlib.Nat.{lt_of_not-le, mod-lt}
use native.Mathlib.Decide.{dec_le}
use lib.Dec.{ltb, eqb}
use lib.ListN.{length, length-map}
use borrow.Author.Tests.{lt-ltb, le-ltb, le-leb, lt-leb, eq-eqb, ne_eqb}
use Rattle.rules.specs.Hour.{when}
use Rattle.rules.specs.Execution.{sum_of, plus, floors, remainders, at_least, extras, in_proportion, shares}
use Rattle.rules.proofs.Tests.{by-lt}
use Rattle.rules.proofs.ShareLaws.{by_total, at_least-falls, at_least-zero, at_least-length, at_least-none, leftover-few, given-within, length-extras}

-- one more to every remainder above the cut, and to the first m at the cut
unfoldable pub by_cut : ℕ → ℕ → List ℕ → List ℕ
by_cut cut m [] = []
by_cut cut m (r ∷ rest) = when (ltb cut r || (eqb r cut && ltb 0 m)) 1 ∷ by_cut cut (m - when (eqb r cut && ltb 0 m) 1) rest

-- a cut for so many leftover tenths
pub record Cut (c left : ℕ) (before rest : List ℕ) : Type 0 where
  pub above : at_least (suc c) before + at_least (suc c) rest ≤ left
  pub from : left ≤ at_least c before + at_least c rest

-- how a place lies to the cut
data Place (c r : ℕ) : Type 0 where
  over : c < r → Place c r
  at : r ≡ c → Place c r
  under : r < c → Place c r

place : (c r : ℕ) → Place c r
place c r = elim (dec_le r c) [
  | yes h ↦ elim (dec_le c r) [ yes k ↦ at (omega arith) | no k ↦ under (lt_of_not-le k) ]
  | no h ↦ over (lt_of_not-le h)
]

module _ (c left : ℕ) where
  cut-moves : (r : ℕ) (before rest : List ℕ) → Cut c left before (r ∷ rest) → Cut c left (r ∷ before) rest
  unfolding at_least
  cut-moves r before rest h = record { above = omega (arith, h.above); from = omega (arith, h.from) }

  -- what is left for the places at the cut
  abbrev room : List ℕ → List ℕ → ℕ
  room before rest = left - (at_least c before + at_least (suc c) rest)

  one-extra : (r : ℕ) (before rest : List ℕ) → Cut c left before (r ∷ rest) → Place c r →
      (when (ltb (at_least r before + at_least (suc r) rest) left) 1 ≡ when (ltb c r || (eqb r c && ltb 0 (room before (r ∷ rest)))) 1)
      × (room (r ∷ before) rest ≡ room before (r ∷ rest) - when (eqb r c && ltb 0 (room before (r ∷ rest))) 1)
  unfolding at_least
  one-extra r before rest h (over k) =
      let g = rw (le-leb (suc c) r k) at h.above in (
        rw (
          lt-ltb c r k,
          lt-ltb (at_least r before + at_least (suc r) rest) left
              (omega (arith, g, at_least-falls (suc c) r k before, at_least-falls (suc c) (suc r) (omega arith) rest)),
        ),
        rw (ne_eqb r c (omega arith), le-leb (suc c) r k, le-leb c r (omega arith)) (omega arith),
      )
  one-extra r before rest h (under k) =
      let g = rw (lt-leb c r k) at h.from in (
        rw (
          le-ltb c r (omega arith),
          ne_eqb r c (omega arith),
          le-ltb (at_least r before + at_least (suc r) rest) left
              (omega (arith, g, at_least-falls r c (omega arith) before, at_least-falls (suc r) c k rest)),
        ),
        rw (ne_eqb r c (omega arith), lt-leb (suc c) r (omega arith), lt-leb c r k) (omega arith),
      )
  one-extra r before rest h (at k) =
      rw (k, le-ltb c c (omega arith), eq-eqb c c refl, le-leb c c (omega arith)) (
        by-lt (λ t. when t 1 ≡ when (ltb 0 (left - (at_least c before + (0 + at_least (suc c) rest)))) 1) (at_least c before + at_least (suc c) rest) left
            (λ j. rw (lt-ltb 0 (left - (at_least c before + (0 + at_least (suc c) rest))) (omega arith)))
            (λ j. rw (le-ltb 0 (left - (at_least c before + (0 + at_least (suc c) rest))) (omega arith))),
        by-lt (λ t. left - (1 + at_least c before + at_least (suc c) rest) ≡ left - (at_least c before + (0 + at_least (suc c) rest)) - when t 1)
            0 (left - (at_least c before + (0 + at_least (suc c) rest))) (λ j. omega arith) (λ j. omega arith),
      )

  -- THE CUT GIVES WHAT THE RANKS GIVE
  pub extras-cut : (before rest : List ℕ) → Cut c left before rest →
      extras left before rest ≡ by_cut c (left - (at_least c before + at_least (suc c) rest)) rest
  unfolding extras by_cut
  extras-cut before [] h = refl
  extras-cut before (r ∷ rest) h =
      let e = one-extra r before rest h (place c r) in
      ap₂ ◌∷◌ e.0 (extras-cut (r ∷ before) rest (cut-moves r before rest h) ∙ ap (λ m. by_cut c m rest) e.1)

-- THE LEFTOVER IS GIVEN OUT WHOLE
sum_step : (c m r : ℕ) (rest : List ℕ) → Place c r →
    when (ltb c r || (eqb r c && ltb 0 m)) 1
    + (at_least (suc c) rest + min (m - when (eqb r c && ltb 0 m) 1) (at_least c rest - at_least (suc c) rest))
    ≡ at_least (suc c) (r ∷ rest) + min m (at_least c (r ∷ rest) - at_least (suc c) (r ∷ rest))
unfolding at_least
sum_step c m r rest (over k) = rw (lt-ltb c r k, ne_eqb r c (omega arith), le-leb c r (omega arith)) (omega arith)
sum_step c m r rest (under k) = rw (le-ltb c r (omega arith), ne_eqb r c (omega arith), lt-leb c r k) (omega arith)
sum_step c m r rest (at k) =
    rw (k, le-ltb c c (omega arith), eq-eqb c c refl, le-leb c c (omega arith))
    (by-lt (λ t. when t 1 + (at_least (suc c) rest + min (m - when t 1) (at_least c rest - at_least (suc c) rest))
    ≡ 0 + at_least (suc c) rest + min m (1 + at_least c rest - (0 + at_least (suc c) rest))) 0 m
    (λ j. omega (arith, at_least-falls c (suc c) (omega arith) rest)) (λ j. omega (arith, at_least-falls c (suc c) (omega arith) rest)))

sum-cut : (c m : ℕ) (rest : List ℕ) → sum_of (by_cut c m rest) ≡ at_least (suc c) rest + min m (at_least c rest - at_least (suc c) rest)
unfolding by_cut
sum-cut c m [] = omega (arith, at_least-none (suc c), at_least-none c)
sum-cut c m (r ∷ rest) = omega (arith, sum-cut c (m - when (eqb r c && ltb 0 m) 1) rest, sum_step c m r rest (place c r))

-- there is a cut: go down from where no remainder lies above
find-cut : (left : ℕ) (rest : List ℕ) → left ≤ length rest → (c : ℕ) → at_least (suc c) rest ≤ left → (d : ℕ) × Cut d left [] rest
find-cut left rest few zero h =
    (0, record { above = omega (arith, at_least-none 1); from = omega (arith, at_least-none 0, at_least-zero rest) })
find-cut left rest few (suc c) h = elim (dec_le left (at_least (suc c) rest)) [
  | yes k ↦ (suc c, record { above = omega (arith, at_least-none (suc (suc c))); from = omega (arith, at_least-none (suc c)) })
  | no k ↦ find-cut left rest few c (omega (arith, lt_of_not-le k))
]

none_above : (f : ℕ → ℕ) (t : ℕ) → ((x : ℕ) → f x ≤ t) → (l : List ℕ) → at_least (suc t) (map f l) ≡ 0
unfolding at_least
none_above f t h [] = refl
none_above f t h (x ∷ l) = rw (lt-leb (suc t) (f x) (omega (arith, h x))) (omega (arith, none_above f t h l))

sum-extras : (c left : ℕ) (rest : List ℕ) → Cut c left [] rest → sum_of (extras left [] rest) ≡ left
sum-extras c left rest h =
    rw (extras-cut c left [] rest h)
    (omega (
      arith,
      sum-cut c (left - (at_least c [] + at_least (suc c) rest)) rest,
      h.above,
      h.from,
      at_least-none c,
      at_least-none (suc c),
    ))

sum-plus : (l m : List ℕ) → length l ≡ length m → sum_of (plus l m) ≡ sum_of l + sum_of m
sum-plus [] [] e = refl
sum-plus [] (b ∷ m) e = absurd (omega arith)
sum-plus (a ∷ l) [] e = absurd (omega arith)
sum-plus (a ∷ l) (b ∷ m) e = omega (arith, sum-plus l m (omega arith))

lengths : (amount t left : ℕ) (owns : List ℕ) → length (floors amount t owns) ≡ length (extras left [] (remainders amount t owns))
unfolding floors remainders
lengths amount t left owns =
    omega (
      arith,
      length-extras left [] (remainders amount t owns),
      length-map owns (λ own. own * amount / t),
      length-map owns (λ own. own * amount % t),
    )

proportion-sum : (amount : ℕ) (owns : List ℕ) → 0 < sum_of owns → sum_of (in_proportion amount (sum_of owns) owns) ≡ amount
unfolding in_proportion remainders
proportion-sum amount owns pos =
    let t = sum_of owns in
    let rs = remainders amount t owns in
    let left = amount - sum_of (floors amount t owns) in
    let few = leftover-few amount owns pos in
    let z = none_above (λ own. own * amount % t) t (λ x. omega (arith, mod-lt (x * amount) pos)) owns in
    let c = find-cut left rs (omega (arith, at_least-length 1 rs)) t (omega arith) in
    omega (
      arith,
      sum-plus (floors amount t owns) (extras left [] rs) (lengths amount t left owns),
      sum-extras c.0 left rs c.1,
      given-within amount owns pos,
    )

-- THE SECOND LAW: the shares of an amount within the total add up to it
pub shares_sum : (amount : ℕ) (owns : List ℕ) → amount ≤ sum_of owns → sum_of (shares amount owns) ≡ amount
shares_sum amount owns h =
    by_total (λ l. sum_of l ≡ amount) amount owns (λ e. omega (arith, nothing owns)) (λ pos. proportion-sum amount owns pos)
  where
    nothing : (l : List ℕ) → sum_of (map (λ own. 0) l) ≡ 0
    nothing [] = refl
    nothing (a ∷ l) = omega (arith, nothing l)

-- no remainder lies above the total
pub none_over : (amount : ℕ) (owns : List ℕ) → 0 < sum_of owns → at_least (suc (sum_of owns)) (remainders amount (sum_of owns) owns) ≡ 0
unfolding remainders
none_over amount owns pos =
    none_above (λ own. own * amount % sum_of owns) (sum_of owns) (λ x. omega (arith, mod-lt (x * amount) pos)) owns
