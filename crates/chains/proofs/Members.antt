-- Laws of lists of numbers: what holds of each member, distinct members, and how many numbers below n are members.
-- They know nothing of books. Assumes nothing.
use Prim.Native.Nat.{ℕ, zero, suc, ◌+◌, ◌≤◌, ◌<◌}
use mathlib.Core.Path.{◌≡◌, refl, ap, sym, ◌∙◌}
use mathlib.Core.List.{List, [], ◌∷◌, ◌++◌, map}
use mathlib.Core.Bool.{Bool, true, false, cond, not, ◌||◌, false≢true}
use native.Mathlib.Omega.{arith}
use native.Mathlib.Numerals.{one-add}
use borrow.Author.Tests.{eq-eqb, ne_eqb, eqb-true, eqb-false, lt-ltb}
use lib.Dec.{eqb, ltb, leb-suc-suc}
use lib.ListN.{length, get_or}
use Rattle.fields.specs.Tests.{some_below, some_in, member}
use Rattle.chains.proofs.Laws.{or_left, or_right}

-- P holds of each member
abbrev pub Each : {A : Type 0} → (A → Type 0) → List A → Type 0
Each P [] = Unit {0}
Each P (x ∷ l) = P x × Each P l

pub each_map : (P Q : ℕ → Type 0) (l : List ℕ) → ((i : ℕ) → P i → Q i) → Each P l → Each Q l
each_map P Q [] f h = tt
each_map P Q (x ∷ l) f h = (f x h.0, each_map P Q l f h.1)

pub each_both : (P Q : ℕ → Type 0) (l : List ℕ) → Each P l → Each Q l → Each (λ i. P i × Q i) l
each_both P Q [] a b = tt
each_both P Q (x ∷ l) a b = ((a.0, b.0), each_both P Q l a.1 b.1)

pub each_append : (P : ℕ → Type 0) (l m : List ℕ) → Each P l → Each P m → Each P (l ++ m)
each_append P [] m a b = b
each_append P (x ∷ l) m a b = (a.0, each_append P l m a.1 b)

-- of each image under f, where it holds of each f x
pub each-image : {A : Type 0} (P : A → Type 0) (f : ℕ → A) (l : List ℕ) → Each (λ i. P (f i)) l → Each P (map f l)
each-image P f [] h = tt
each-image P f (x ∷ l) h = (h.0, each-image P f l h.1)

-- of a member ..
pub each_member : (P : ℕ → Type 0) (l : List ℕ) (i : ℕ) → Each P l → member i l ≡ true → P i
unfolding some_in
each_member P [] i h m = absurd (false≢true m)
each_member P (x ∷ l) i h m = at (eqb i x) refl m (λ r. each_member P l i h.1 r)
  where
    at : (same : Bool) → eqb i x ≡ same → (same || member i l) ≡ true → (member i l ≡ true → P i) → P i
    at true e r later = rw (eqb-true i x e) h.0
    at false e r later = later r

-- .. and of the member at a place
pub each-place : {A : Type 0} (P : A → Type 0) (l : List A) (j : ℕ) (d : A) → Each P l → j < length l → P (get_or l j d)
each-place P [] j d h g = absurd (omega arith)
each-place P (x ∷ l) zero d h g = h.0
each-place P (x ∷ l) (suc j) d h g = each-place P l j d h.1 (omega arith)

-- A test that no member passes
pub none_in : {A : Type 0} (l : List A) (test : A → Bool) → some_in l test ≡ false → Each (λ i. test i ≡ false) l
unfolding some_in
none_in [] test e = tt
none_in (x ∷ l) test e = (or_left (test x) _ e, none_in l test (or_right (test x) _ e))

-- A test that no number below n passes
pub none_below : (n : ℕ) (test : ℕ → Bool) → some_below n test ≡ false → (j : ℕ) → j < n → test j ≡ false
unfolding some_below
none_below zero test e j h = absurd (omega arith)
none_below (suc n) test e j h = at (eqb j n) refl (λ g. none_below n test (or_right (test n) _ e) j g)
  where
    at : (same : Bool) → eqb j n ≡ same → (j < n → test j ≡ false) → test j ≡ false
    at true q later = rw (eqb-true j n q) (or_left (test n) _ e)
    at false q later = later (let u = eqb-false j n q in omega arith)

-- A member of two lists joined
pub some-append : (l m : List ℕ) (test : ℕ → Bool) → some_in (l ++ m) test ≡ (some_in l test || some_in m test)
unfolding some_in
some-append [] m test = refl
some-append (x ∷ l) m test = at (test x) (some-append l m test)
  where
    at : (t : Bool) → some_in (l ++ m) test ≡ (some_in l test || some_in m test)
        → (t || some_in (l ++ m) test) ≡ ((t || some_in l test) || some_in m test)
    at true e = refl
    at false e = e

-- No member stands twice
abbrev pub Distinct : List ℕ → Type 0
Distinct [] = Unit {0}
Distinct (x ∷ l) = (member x l ≡ false) × Distinct l

pub distinct_append : (l m : List ℕ) → Distinct l → Distinct m → Each (λ x. member x m ≡ false) l → Distinct (l ++ m)
distinct_append [] m a b h = b
distinct_append (x ∷ l) m a b h = (rw (some-append l m (eqb x), a.0) h.0, distinct_append l m a.1 b h.1)

-- What does not hold of x tells it from the members
pub not-member : (P : ℕ → Type 0) (l : List ℕ) (x : ℕ) → Each P l → (P x → ⊥) → member x l ≡ false
not-member P l x h n = at (member x l) refl
  where
    at : (found : Bool) → member x l ≡ found → found ≡ false
    at true m = absurd (n (each_member P l x h m))
    at false m = refl

-- How many numbers below n pass a test
count_below : ℕ → (ℕ → Bool) → ℕ
count_below zero test = 0
count_below (suc n) test = cond (test n) 1 0 + count_below n test

count-le : (n : ℕ) (test : ℕ → Bool) → count_below n test ≤ n
unfolding count_below
count-le zero test = omega arith
count-le (suc n) test = at (test n) (count-le n test)
  where
    at : (t : Bool) → count_below n test ≤ n → cond t 1 0 + count_below n test ≤ suc n
    at true h = omega arith
    at false h = omega arith

count_none : (n : ℕ) → count_below n (λ j. false) ≡ 0
unfolding count_below
count_none zero = refl
count_none (suc n) = let e = count_none n in omega arith

count_same : (n : ℕ) (p q : ℕ → Bool) → ((j : ℕ) → j < n → p j ≡ q j) → count_below n p ≡ count_below n q
unfolding count_below
count_same zero p q h = refl
count_same (suc n) p q h = rw (h n (omega arith), count_same n p q (λ j g. h j (omega arith)))

-- one number x more passes q than p
count-one-more : (n : ℕ) (p q : ℕ → Bool) (x : ℕ) → x < n → p x ≡ false → q x ≡ true → ((j : ℕ) → (j ≡ x → ⊥) → q j ≡ p j)
    → count_below n q ≡ suc (count_below n p)
unfolding count_below
count-one-more zero p q x h a t s = absurd (omega arith)
count-one-more (suc n) p q x h a t s = at (eqb n x) refl (λ g. count-one-more n p q x g a t s)
  where
    at : (same : Bool) → eqb n x ≡ same → (x < n → count_below n q ≡ suc (count_below n p))
        → cond (q n) 1 0 + count_below n q ≡ suc (cond (p n) 1 0 + count_below n p)
    at true e later =
        let w : n ≡ x = eqb-true n x e in
        rw (w, t, a, count_same x q p (λ j g. s j (λ u. omega arith))) (omega arith)
    at false e later =
        let g : x < n = (let u = eqb-false n x e in omega arith) in
        rw (s n (eqb-false n x e)) (let r = later g in omega arith)

-- some number below n fails a test just where fewer than n pass
count-full : (n : ℕ) (p q : ℕ → Bool) → ((j : ℕ) → q j ≡ not (p j)) → some_below n q ≡ ltb (count_below n p) n
unfolding count_below some_below
count-full zero p q s = refl
count-full (suc n) p q s = rw (s n) (at (p n) (count-full n p q s))
  where
    at : (t : Bool) → some_below n q ≡ ltb (count_below n p) n → (not t || some_below n q) ≡ ltb (cond t 1 0 + count_below n p) (suc n)
    at true e = rw (one-add, leb-suc-suc) e
    at false e = sym (lt-ltb (0 + count_below n p) (suc n) (let h = count-le n p in omega arith))

-- as many numbers below n are members of a list of distinct ones as it is long
length-count : (n : ℕ) (l : List ℕ) → Distinct l → Each (λ i. i < n) l → count_below n (λ j. member j l) ≡ length l
unfolding some_in
length-count n [] d h = count_none n
length-count n (x ∷ l) d h =
    count-one-more n (λ j. member j l) (λ j. member j (x ∷ l)) x h.0 d.0 (rw (eq-eqb x x refl)) (λ j g. rw (ne_eqb j x g))
    ∙ ap suc (length-count n l d.1 h.1)

-- Distinct numbers below n are at most n ..
pub distinct-length : (n : ℕ) (l : List ℕ) → Distinct l → Each (λ i. i < n) l → length l ≤ n
distinct-length n l d h = let e = length-count n l d h in let g = count-le n (λ j. member j l) in omega arith

-- .. and some number below n is not among them just where they are fewer
pub distinct-missing : (n : ℕ) (l : List ℕ) (missing : ℕ → Bool) → Distinct l → Each (λ i. i < n) l
    → ((j : ℕ) → missing j ≡ not (member j l)) → some_below n missing ≡ ltb (length l) n
distinct-missing n l missing d h s = count-full n (λ j. member j l) missing s ∙ rw (length-count n l d h)
