-- One turn of each pass of the code, and its end. Assumes nothing.
use Prim.Native.Nat.{ℕ, zero, suc, ◌+◌, ◌-◌, ◌≤◌, ◌<◌}
use mathlib.Core.Bool.{Bool, true, false, cond, ◌||◌, ◌&&◌}
use mathlib.Core.Path.{◌≡◌, refl, sym, ap, ◌∙◌}
use mathlib.Core.List.{List, ◌∷◌, ◌++◌, map, append-nil, append_assoc}
use native.Mathlib.Omega.{arith}
use native.Mathlib.Numerals.{add-one}
use native.Mathlib.Nat.{add-zero}
use lib.Dec.{ltb, eqb}
use lib.ListN.{length, take, drop, get_or, set, drop_of_length-le}
use lib.Seq.{drop-cons, take-suc-set, take_all, drop-set-lt, get_or-drop}
use Rattle.std.specs.Int.{from_bool}
use Rattle.std.proofs.Common.{count_by, nat_lt}
use Rattle.std.proofs.lemmas.List.Recursion.{is_count_by}
use Rattle.rules.specs.Orders.{Step}
use Rattle.rules.specs.Hour.{when, total}
use Rattle.rules.specs.Execution.{plus, at_least}
use Rattle.rules.proofs.CutLaws.{by_cut}
use Rattle.rules.proofs.ShareLaws.{when-le}
use Rattle.orders.specs.Columns.{steps_from}
use Rattle.pricing.specs.Curves.{Columns}
use Rattle.pricing.proofs.TotalsLaws.{rest_of, rest_more, rest_end}
use Rattle.shares.specs.Shares.{step_for}

-- FILLING a list with a number of each step
-- what is written, and what the rest will be
pub record Filled (f : Step → ℕ) (sides prices quantities out : List ℕ) (i : ℕ) : Type 0 where
  pub inside : i ≤ length sides
  pub long : length out ≡ length sides
  pub whole : map f (steps_from 0 sides prices quantities) ≡ take i out ++ map f (rest_of 0 sides prices quantities i)

module _ (f : Step → ℕ) (sides prices quantities : List ℕ) where
  pub filled_more : Columns sides prices quantities → (out : List ℕ) (i v : ℕ) → Filled f sides prices quantities out i → i < length sides →
      v ≡ f (step_for (get_or sides i 0) (get_or prices i 0) (get_or quantities i 0)) → Filled f sides prices quantities (set out i v) (i + 1)
  filled_more columns out i v t k e =
      let ko : i < length out = omega (arith, t.long) in
      record {
        inside = omega arith;
        long = rw lib.ListN.length-set t.long;
        whole = t.whole ∙ rw (
          rest_more 0 sides prices quantities i columns.as_many_prices columns.as_many_quantities k,
          add-one i,
          take-suc-set out i v ko,
          append_assoc,
          e,
        );
      }

  pub filled-all : (out : List ℕ) (i : ℕ) → Filled f sides prices quantities out i → length sides ≤ i →
      out ≡ map f (steps_from 0 sides prices quantities)
  filled-all out i t k =
      let e : length out ≤ i = omega (arith, t.long) in
      sym (t.whole ∙ rw (rest_end 0 sides prices quantities i k, append-nil, take_all i out e))

  -- WHAT IS LEFT of an amount after the steps so far
  pub left-more : Columns sides prices quantities → (amount left v i : ℕ) → i < length sides →
      amount - total f (steps_from 0 sides prices quantities) ≡ left - total f (rest_of 0 sides prices quantities i) →
      v ≡ f (step_for (get_or sides i 0) (get_or prices i 0) (get_or quantities i 0)) →
      amount - total f (steps_from 0 sides prices quantities) ≡ left - v - total f (rest_of 0 sides prices quantities (i + 1))
  left-more columns amount left v i k e g =
      let m = ap (total f) (rest_more 0 sides prices quantities i columns.as_many_prices columns.as_many_quantities k) in
      omega arith

  pub left-all : (amount left i : ℕ) → length sides ≤ i →
      amount - total f (steps_from 0 sides prices quantities) ≡ left - total f (rest_of 0 sides prices quantities i) →
      left ≡ amount - total f (steps_from 0 sides prices quantities)
  left-all amount left i k e =
      let z = ap (total f) (rest_end 0 sides prices quantities i k) in
      omega arith

-- COUNTS
pub count-above : (x : ℕ) (l : List ℕ) → count_by (λ r. nat_lt x r) l ≡ at_least (suc x) l
unfolding at_least
count-above x l = sym (is_count_by (at_least (suc x)) (λ r. nat_lt x r) refl (λ r l'. one-more (ltb x r) (at_least (suc x) l')) l)
  where
    one-more : (b : Bool) (n : ℕ) → when b 1 + n ≡ cond b (1 + n) n
    one-more true n = refl
    one-more false n = omega arith

-- GIVING the leftover tenths
-- a test as a number
pub one-when : (b : Bool) → from_bool b ≡ when b 1
one-when true = refl
one-when false = refl

-- GIVING the leftover tenths: one goes only where there is one
pub room_within : (a : Bool) (m : ℕ) → when (a && ltb 0 m) 1 ≤ m
room_within true zero = omega arith
room_within true (suc m) = omega (arith, when-le (ltb 0 (suc m)) 1)
room_within false m = omega arith

-- whether a remainder gets one more
abbrev pub extra_at : ℕ → ℕ → ℕ → ℕ
extra_at cut m r = when (ltb cut r || (eqb r cut && ltb 0 m)) 1

-- where the pass stands before place i: the places behind are as they were, and what is written and what the rest will be are the whole
pub record Giving (cut most : ℕ) (rests old out : List ℕ) (room i : ℕ) : Type 0 where
  pub inside : i ≤ length rests
  pub long : length out ≡ length rests
  pub behind : drop i out ≡ drop i old
  pub whole : take i out ++ plus (drop i old) (by_cut cut room (drop i rests)) ≡ plus old (by_cut cut most rests)

module _ (cut most : ℕ) (rests old : List ℕ) (same : length old ≡ length rests) where
  pub giving-at : (out : List ℕ) (room i : ℕ) → Giving cut most rests old out room i → get_or out i 0 ≡ get_or old i 0
  giving-at out room i t =
      rw (add-zero) at (sym (get_or-drop i out 0 0) ∙ ap (λ l. get_or l 0 0) t.behind ∙ get_or-drop i old 0 0)

  pub giving-more : (out : List ℕ) (room i v : ℕ) → Giving cut most rests old out room i → i < length rests →
      v ≡ get_or old i 0 + extra_at cut room (get_or rests i 0) →
      Giving cut most rests old (set out i v) (room - when (eqb (get_or rests i 0) cut && ltb 0 room) 1) (i + 1)
  unfolding by_cut
  giving-more out room i v t h e =
      let k : i < length out = omega (arith, t.long) in
      let j : i < length old = omega arith in
      record {
        inside = omega arith;
        long = rw lib.ListN.length-set t.long;
        behind = rw (add-one, drop-set-lt (suc i) out i v (omega arith)) (tail (sym (drop-cons out i 0 k) ∙ t.behind ∙ drop-cons old i 0 j));
        whole = rw (add-one, take-suc-set out i v k, append_assoc, e) (rw (drop-cons old i 0 j, drop-cons rests i 0 h) at t.whole);
      }
    where
      tail : {a b : ℕ} {l m : List ℕ} → a ∷ l ≡ b ∷ m → l ≡ m
      tail q = cc
