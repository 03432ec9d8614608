-- The laws that the functions' proofs cite: one link more of a chain, or none, how long it is, one member more of a portfolio, a search along a list.
-- Assumes nothing.
use Prim.Native.Nat.{ℕ, zero, suc, ◌+◌, ◌-◌, ◌≤◌, ◌<◌}
use mathlib.Core.Path.{◌≡◌, refl}
use mathlib.Core.List.{List, [], ◌∷◌, map}
use mathlib.Core.Bool.{Bool, true, false, cond, ◌||◌, ◌&&◌, true≢false, false≢true}
use native.Mathlib.Omega.{arith}
use native.Mathlib.Numerals.{sub-one}
use borrow.Author.Tests.{eq-eqb, ne_eqb, eqb-true, eqb-false}
use lib.ListN.{length, get_or, set}
use lib.Seq.{get_or-set_same, get_or-set_other}
use lib.Dec.{eqb}
use Rattle.std.proofs.Common.{Fits, w8}
use Rattle.std.specs.List.{list_any}
use Rattle.fields.specs.Tests.{some_in}
use Rattle.records.specs.Bytes.{u16_at}
use Rattle.records.specs.Layout.{count_offset}
use Rattle.records.specs.Records.{record_count, next}
use Rattle.chains.specs.Chains.{chain, chain_from}

-- Zero ends a chain
pub chain-end : (n : ℕ) (b : List ℕ) (i : ℕ) → i ≡ 0 → chain_from n b i ≡ []
unfolding chain_from
chain-end zero b i h = refl
chain-end (suc n) b i h = rw (eq-eqb i 0 h, chain_from)

-- Another index is followed by the chain of its next
pub chain_more : (n : ℕ) (b : List ℕ) (i : ℕ) → 0 < n → (i ≡ 0 → ⊥) → chain_from n b i ≡ i ∷ chain_from (n - 1) b (next b i)
unfolding chain_from
chain_more zero b i p h = absurd (omega arith)
chain_more (suc n) b i p h = rw (ne_eqb i 0 h, chain_from, sub-one)

-- No record is left to follow
pub chain-none : (n : ℕ) (b : List ℕ) (i : ℕ) → n ≤ 0 → chain_from n b i ≡ []
unfolding chain_from
chain-none zero b i h = refl
chain-none (suc n) b i h = absurd (omega arith)

-- A chain has at most as many records as are followed ..
pub chain-short : (n : ℕ) (b : List ℕ) (i : ℕ) → length (chain_from n b i) ≤ n
unfolding chain_from
chain-short zero b i = omega arith
chain-short (suc n) b i = at (eqb i 0) (chain-short n b (next b i))
  where
    at : (ends : Bool) → length (chain_from n b (next b i)) ≤ n → length {A = ℕ} (elim ends [ true ↦ [] | false ↦ i ∷ chain_from n b (next b i) ]) ≤ suc n
    at true h = omega arith
    at false h = omega arith

-- .. and a book of bytes counts them in two
pub chain-fits : (b : List ℕ) (i : ℕ) → ((k : ℕ) → Fits w8 (get_or b k 0)) → length (chain b i) < 65536
unfolding u16_at
chain-fits b i bytes = omega (arith, chain-short (record_count b) b i, (bytes count_offset).fits, (bytes (count_offset + 1)).fits)

-- One member more of portfolio q: its count grows by one, and no other
pub count-more : (counts : List ℕ) (q p n : ℕ) → p < length counts
    → get_or counts p 0 + (cond (eqb q p) 1 0 + n) ≡ get_or (set counts q (get_or counts q 0 + 1)) p 0 + n
count-more counts q p n h = at (eqb q p) refl
  where
    at : (same : Bool) → eqb q p ≡ same → get_or counts p 0 + (cond same 1 0 + n) ≡ get_or (set counts q (get_or counts q 0 + 1)) p 0 + n
    at true e = let w : q ≡ p = eqb-true q p e in rw (w, get_or-set_same) (omega arith)
    at false e =
        let w : p ≡ q → ⊥ = (λ u. eqb-false q p e (omega arith)) in
        rw (get_or-set_other counts q p (get_or counts q 0 + 1) 0 w) (omega arith)

-- .. so no count grows by more than one
pub count_most : (counts : List ℕ) (q p : ℕ) → p < length counts → get_or (set counts q (get_or counts q 0 + 1)) p 0 ≤ get_or counts p 0 + 1
count_most counts q p h = at (eqb q p) (count-more counts q p 0 h)
  where
    at : (same : Bool) → get_or counts p 0 + (cond same 1 0 + 0) ≡ get_or (set counts q (get_or counts q 0 + 1)) p 0 + 0
        → get_or (set counts q (get_or counts q 0 + 1)) p 0 ≤ get_or counts p 0 + 1
    at true e = omega arith
    at false e = omega arith

-- What a test that fails, or one that passes, says of its parts
pub or_left : (x y : Bool) → (x || y) ≡ false → x ≡ false
or_left true y e = e
or_left false y e = refl

pub or_right : (x y : Bool) → (x || y) ≡ false → y ≡ false
or_right true y e = absurd (true≢false e)
or_right false y e = e

pub and_left : (x y : Bool) → (x && y) ≡ true → x ≡ true
and_left true y e = refl
and_left false y e = e

pub and_right : (x y : Bool) → (x && y) ≡ true → y ≡ true
and_right true y e = e
and_right false y e = absurd (false≢true e)

-- Some member of a list passes a test, in the library's words
pub some_any : {A : Type 0} (l : List A) (test : A → Bool) → list_any test l ≡ some_in l test
unfolding some_in
some_any [] test = refl
some_any (x ∷ l) test = rw (some_any l test)

-- .. and the members may be made one by one
pub some-made : {A B : Type 0} (l : List A) (make : A → B) (test : B → Bool) → list_any (λ x. test (make x)) l ≡ some_in (map make l) test
unfolding some_in
some-made [] make test = refl
some-made (x ∷ l) make test = rw (some-made l make test)
