-- BLOCKS NAMED BY THEIR PLACES: what a name comes to, and a twin's where it stands before a place. Assumes nothing.
use Prim.Native.Nat.{ℕ, zero, suc, ◌+◌, ◌-◌, ◌≤◌, ◌<◌}
use mathlib.Core.Bool.{true, false, ◌&&◌}
use mathlib.Core.Path.{◌≡◌, refl, ap}
use mathlib.Core.List.{List}
use native.Mathlib.Omega.{arith}
use native.Mathlib.Numerals.{add-one, sub-one}
use lib.Dec.{leb}
use lib.ListN.{get_or}
use borrow.Author.Tests.{leb-true, le-leb, lt-leb, eq-eqb, ne_eqb}
use Rattle.rules.specs.Hour.{when}
use Rattle.rules.proofs.Tests.{by-test, both}
use Rattle.order.specs.Order.{placed_name, IsOrderOf}
use Rattle.order.specs.Written.{earlier_name}

-- no name stays none
pub name-none : (place : List ℕ) (name : ℕ) → name ≡ 0 → placed_name place name ≡ 0
unfolding placed_name
name-none place name e = rw (eq-eqb name 0 e)

-- a name is the place and 1
pub name-some : (place : List ℕ) (name : ℕ) → 0 < name → placed_name place name ≡ suc (get_or place (name - 1) 0)
unfolding placed_name
name-some place name some = rw (ne_eqb name 0 (λ e. omega arith))

-- as the code says it: that of block i, whose number is the name less 1
pub name-at : (place : List ℕ) (name i : ℕ) → (1 ≤ name) × (i ≡ name - 1) → get_or place i 0 + 1 ≡ placed_name place name
name-at place name i is = rw (name-some place name (omega arith), add-one, is.1)

-- so of block k its place and 1
pub name-suc : (place : List ℕ) (k : ℕ) → placed_name place (suc k) ≡ suc (get_or place k 0)
name-suc place k = rw sub-one at (name-some place (suc k) (omega arith))

-- A TWIN'S NAME
-- of a block that is none of count there is none
pub earlier-none : (place : List ℕ) (count j name : ℕ) → count < name → 0 ≡ earlier_name place count j name
unfolding earlier_name
earlier-none place count j name more = rw (lt-leb name count more)

-- nor of one that stands behind
pub earlier-behind : (place : List ℕ) (count j name : ℕ) → leb (placed_name place name) j ≡ false → 0 ≡ earlier_name place count j name
unfolding earlier_name
earlier-behind place count j name behind =
    by-test (λ t. 0 ≡ when (t && leb (placed_name place name) j) (placed_name place name)) (leb name count) (λ _. rw behind) (λ _. refl)

-- one that stands before the place keeps its name
pub earlier-kept : (place : List ℕ) (count j name : ℕ) → name ≤ count → leb (placed_name place name) j ≡ true →
    placed_name place name ≡ earlier_name place count j name
unfolding earlier_name
earlier-kept place count j name few before = rw (le-leb name count few, before)

-- so it names a place before j
pub earlier-le : (place : List ℕ) (count j name : ℕ) → earlier_name place count j name ≤ j
unfolding earlier_name
earlier-le place count j name =
    by-test (λ t. when t (placed_name place name) ≤ j) (leb name count && leb (placed_name place name) j)
    (λ e. leb-true (placed_name place name) j (both (leb name count) (leb (placed_name place name) j) e).1) (λ _. omega arith)

-- and in an order the block at that place is the one that was named
pub earlier-is : {blocks : List ℕ} {count : ℕ} {order place : List ℕ} → IsOrderOf blocks count order place → (j name a : ℕ) →
    earlier_name place count j name ≡ suc a →
    (a < j) × (name ≡ suc (get_or order a 0))
unfolding earlier_name
earlier-is {blocks} {count} {order} {place} of j name a =
    by-test (λ t. when t (placed_name place name) ≡ suc a → (a < j) × (name ≡ suc (get_or order a 0))) (leb name count && leb (placed_name place name) j)
    (λ e is.
    let two = both (leb name count) (leb (placed_name place name) j) e in
    let few : name ≤ count = leb-true name count two.0 in
    let before : placed_name place name ≤ j = leb-true (placed_name place name) j two.1 in
    (omega arith, named few is))
    (λ _ is. absurd (omega arith))
  where
    at_least : (n : ℕ) → placed_name place n ≡ suc a → 0 < n
    at_least zero e = absurd (omega (arith, name-none place 0 refl))
    at_least (suc n) e = omega arith

    named : name ≤ count → placed_name place name ≡ suc a → name ≡ suc (get_or order a 0)
    named few is =
        let some : 0 < name = at_least name is in
        let at : get_or place (name - 1) 0 ≡ a = omega (arith, name-some place name some) in
        omega (arith, of.back (name - 1) (omega arith), ap (λ n. get_or order n 0) at)
