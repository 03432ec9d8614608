-- The walk along a chain that finds out causes 3 and 4 on it and its length, in one pass: what is asked of the chain is found so far, or asked of what is
-- left to follow. Assumes nothing.
use Prim.Native.Nat.{ℕ, ◌+◌}
use mathlib.Core.Path.{◌≡◌, refl, ◌∙◌}
use mathlib.Core.List.{List, [], ◌∷◌}
use mathlib.Core.Bool.{Bool, true, false, ◌||◌}
use native.Mathlib.Omega.{arith}
use lib.ListN.{length}
use Rattle.records.specs.Records.{number}
use Rattle.fields.specs.Tests.{some_in}
use Rattle.chains.specs.Chains.{chain_of, count_on}
use Rattle.fields.specs.Ranges.{out_of_range}
use Rattle.chains.specs.Causes.{misplaced, broken, broken_on, wrong_field_on}
use Rattle.chains.specs.Passes.{surveyed}
use Rattle.chains.specs.declared.Chain.{Chain}
use Rattle.chains.specs.declared.Surveyed.{Surveyed}

-- Found before, here or later
or-then : (x y z : Bool) → (x || (y || z)) ≡ ((x || y) || z)
or-then true y z = refl
or-then false y z = refl

or-none : (x : Bool) → (x || false) ≡ x
or-none true = refl
or-none false = refl

-- Before the rest of a chain, after a record with the number `last`: whether a record so far is misplaced or has a field out of range, and how many there were
pub record Walked (b : List ℕ) (c : Chain) (rest : List ℕ) (last : ℕ) (misplacedBefore outsideBefore : Bool) (count : ℕ) : Type 0 where
  pub broken_is : broken_on b c ≡ (misplacedBefore || broken b c last rest)
  pub outside_is : wrong_field_on b c ≡ (outsideBefore || some_in rest (out_of_range b))
  pub length_is : count_on b c ≡ count + length rest

-- Nothing is found before the first record
pub walk-starts : (b : List ℕ) (c : Chain) (rest : List ℕ) → rest ≡ chain_of b c → Walked b c rest 0 false false 0
unfolding broken_on wrong_field_on
walk-starts b c rest e = record { broken_is = rw e; outside_is = rw e; length_is = rw e (omega arith) }

-- One record more
pub walk_more : (b : List ℕ) (c : Chain) (rest : List ℕ) (i last count : ℕ) (x y m o : Bool) (after : ℕ) (following : List ℕ)
    → Walked b c rest last x y count → rest ≡ i ∷ following
    → m ≡ misplaced b c last i → o ≡ out_of_range b i → after ≡ number b i
    → Walked b c following after (x || m) (y || o) (count + 1)
unfolding broken some_in
walk_more b c rest i last count x y m o after following w more d e f =
    record {
      broken_is = w.broken_is ∙ rw (more, d, f) (or-then x (misplaced b c last i) _);
      outside_is = w.outside_is ∙ rw (more, e) (or-then y (out_of_range b i) _);
      length_is = w.length_is ∙ rw more (omega arith);
    }

-- With no record left all is found
pub walk_ends : (b : List ℕ) (c : Chain) (rest : List ℕ) (last count : ℕ) (x y : Bool) → Walked b c rest last x y count → rest ≡ []
    → ◌≡◌ {A = Surveyed} (record { broken = x; outside = y; length = count }) (surveyed b c)
unfolding broken some_in surveyed
walk_ends b c rest last count x y w e =
    let p : broken_on b c ≡ x = w.broken_is ∙ rw e (or-none x) in
    let q : wrong_field_on b c ≡ y = w.outside_is ∙ rw e (or-none y) in
    let n : count_on b c ≡ count = w.length_is ∙ rw e (omega arith) in
    rw (p, q, n)
