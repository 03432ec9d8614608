-- The records of an unbroken chain: what is known of each, that they are distinct and fewer than R, that their numbers rise; then those of all chains
-- together: without cause 3 their number says whether a record is on none. Assumes nothing.
use Prim.Native.Nat.{ℕ, zero, suc, ◌+◌, ◌≤◌, ◌<◌}
use mathlib.Core.Path.{◌≡◌, refl, ap, sym, ◌∙◌}
use mathlib.Core.List.{List, [], ◌∷◌, ◌++◌, map}
use mathlib.Core.Bool.{Bool, true, false, not, ◌||◌, ◌&&◌, true≢false}
use native.Mathlib.Omega.{arith}
use native.Mathlib.Nat.{suc-add}
use native.Mathlib.Numerals.{add-one}
use borrow.Author.Tests.{eq-eqb, eqb-true, eqb-false, leb-false, le-leb, lt-leb, not-false}
use lib.Dec.{eqb, leb, ltb}
use lib.ListN.{length, length-append}
use Rattle.fields.specs.Tests.{some_in, member}
use Rattle.records.specs.Records.{record_count, next, kind, number}
use Rattle.chains.specs.Chains.{chain_from, chain, chains, first_on, kind_on, numbered, chain_of, is_on, count_on}
use Rattle.chains.specs.Causes.{misplaced, broken, broken_on, broken_chain, stray, stray_record}
use Rattle.chains.specs.declared.Chain.{Chain}
use Rattle.chains.specs.declared.Chain.TheVariants as chain-of
use Rattle.chains.proofs.Laws.{or_left, or_right}
use Rattle.chains.proofs.Members.{Each, each_map, each_append, none_in}
use Rattle.chains.proofs.Members.{Distinct, distinct_append, not-member, distinct-length, distinct-missing, some-append}

-- ONE CHAIN
-- Record i belongs on a chain
pub record Placed (b : List ℕ) (c : Chain) (i : ℕ) : Type 0 where
  pub below : i < record_count b
  pub of_kind : kind b i ≡ kind_on c

placed-here : (b : List ℕ) (c : Chain) (n i : ℕ) → misplaced b c n i ≡ false → Placed b c i
unfolding misplaced
placed-here b c n i e =
    let x = leb (record_count b) i in
    let y = not (eqb (kind b i) (kind_on c)) in
    let xy = or_left (x || y) (numbered c && leb (number b i) n) e in
    record { below = leb-false _ _ (or_left x y xy); of_kind = eqb-true _ _ (not-false _ (or_right x y xy)) }

number-here : (b : List ℕ) (c : Chain) (n i : ℕ) → numbered c ≡ true → misplaced b c n i ≡ false → n < number b i
unfolding misplaced
number-here b c n i r e =
    let xy = leb (record_count b) i || not (eqb (kind b i) (kind_on c)) in
    let z : (numbered c && leb (number b i) n) ≡ false = or_right xy _ e in
    leb-false _ _ (rw r at z)

placed-from : (b : List ℕ) (c : Chain) (n : ℕ) (l : List ℕ) → broken b c n l ≡ false → Each (Placed b c) l
unfolding broken
placed-from b c n [] e = tt
placed-from b c n (i ∷ l) e = (
  placed-here b c n i (or_left _ (broken b c (number b i) l) e),
  placed-from b c (number b i) l (or_right (misplaced b c n i) _ e),
)

-- Each record of an unbroken chain belongs on it
pub placed : (b : List ℕ) (c : Chain) → broken_on b c ≡ false → Each (Placed b c) (chain_of b c)
unfolding broken_on
placed b c e = placed-from b c 0 (chain_of b c) e

-- The numbers of the records l rise strictly, all above n
abbrev pub Rising : List ℕ → ℕ → List ℕ → Type 0
Rising b n [] = Unit {0}
Rising b n (i ∷ l) = (n < number b i) × Rising b (number b i) l

rising-from : (b : List ℕ) (c : Chain) (n : ℕ) (l : List ℕ) → numbered c ≡ true → broken b c n l ≡ false → Rising b n l
unfolding broken
rising-from b c n [] r e = tt
rising-from b c n (i ∷ l) r e = (
  number-here b c n i r (or_left _ (broken b c (number b i) l) e),
  rising-from b c (number b i) l r (or_right (misplaced b c n i) _ e),
)

-- Along an unbroken chain with numbers they rise, the first at least 1
pub rising : (b : List ℕ) (c : Chain) → numbered c ≡ true → broken_on b c ≡ false → Rising b 0 (chain_of b c)
unfolding broken_on
rising b c r e = rising-from b c 0 (chain_of b c) r e

rising-above : (b : List ℕ) (n : ℕ) (l : List ℕ) → Rising b n l → Each (λ i. n < number b i) l
rising-above b n [] h = tt
rising-above b n (i ∷ l) h = (
  h.0,
  each_map (λ j. number b i < number b j) (λ j. n < number b j) l (λ j g. omega arith) (rising-above b (number b i) l h.1),
)

-- .. and they are distinct
pub rising-distinct : (b : List ℕ) (n : ℕ) (l : List ℕ) → Rising b n l → Distinct l
rising-distinct b n [] h = tt
rising-distinct b n (i ∷ l) h = (
  not-member (λ j. number b i < number b j) l i (rising-above b (number b i) l h.1) (λ g. omega arith),
  rising-distinct b (number b i) l h.1,
)

-- The records of an unbroken chain are distinct: on each chain because the numbers rise
pub distinct : (b : List ℕ) (c : Chain) → broken_on b c ≡ false → Distinct (chain_of b c)
distinct b chain-of.Steps e = rising-distinct b 0 (chain_of b chain-of.Steps) (rising b chain-of.Steps refl e)
distinct b chain-of.Blocks e = rising-distinct b 0 (chain_of b chain-of.Blocks) (rising b chain-of.Blocks refl e)
distinct b chain-of.Links e = rising-distinct b 0 (chain_of b chain-of.Links) (rising b chain-of.Links refl e)

-- The members of a chain are not 0
pub chain-positive : (n : ℕ) (b : List ℕ) (i : ℕ) → Each (λ j. 0 < j) (chain_from n b i)
unfolding chain_from
chain-positive zero b i = tt
chain-positive (suc n) b i = at (eqb i 0) refl (chain-positive n b (next b i))
  where
    at : (ends : Bool) → eqb i 0 ≡ ends → Each (λ j. 0 < j) (chain_from n b (next b i))
        → Each {A = ℕ} (λ j. 0 < j) (elim ends [ true ↦ [] | false ↦ i ∷ chain_from n b (next b i) ])
    at true e h = tt
    at false e h = ((let u = eqb-false i 0 e in omega arith), h)

-- The head is on no chain
head_apart : (b : List ℕ) (i : ℕ) → member 0 (chain b i) ≡ false
head_apart b i = not-member (λ j. 0 < j) (chain b i) 0 (chain-positive (record_count b) b i) (λ h. omega arith)

below : (b : List ℕ) (c : Chain) → broken_on b c ≡ false → Each (λ j. j < record_count b) (chain_of b c)
below b c e = each_map (Placed b c) (λ j. j < record_count b) (chain_of b c) (λ j h. h.below) (placed b c e)

-- An unbroken chain has fewer than R records ..
pub chain-short : (b : List ℕ) (c : Chain) → 0 < record_count b → broken_on b c ≡ false → count_on b c < record_count b
chain-short b c p e = distinct-length (record_count b) (0 ∷ chain_of b c) (head_apart b (first_on b c), distinct b c e) (p, below b c e)

-- .. so that following it further finds nothing more
pub chain-whole : (n m : ℕ) (b : List ℕ) (i : ℕ) → length (chain_from n b i) < n → chain_from (n + m) b i ≡ chain_from n b i
unfolding chain_from
chain-whole zero m b i h = absurd (omega arith)
chain-whole (suc n) m b i h = rw suc-add (at (eqb i 0) h (λ g. chain-whole n m b (next b i) g))
  where
    at : (ends : Bool) → length {A = ℕ} (elim ends [ true ↦ [] | false ↦ i ∷ chain_from n b (next b i) ]) < suc n
        → (length (chain_from n b (next b i)) < n → chain_from (n + m) b (next b i) ≡ chain_from n b (next b i))
        → ◌≡◌ {A = List ℕ} (elim ends [ true ↦ [] | false ↦ i ∷ chain_from (n + m) b (next b i) ])
        (elim ends [ true ↦ [] | false ↦ i ∷ chain_from n b (next b i) ])
    at true g later = refl
    at false g later = ap (λ (l : List ℕ). i ∷ l) (later (omega arith))

-- ALL CHAINS
-- What is asked of some chain is asked of each in turn ..
pub on_some : (test : Chain → Bool) → (test chain-of.Steps || test chain-of.Blocks || test chain-of.Links) ≡ some_in chains test
unfolding some_in chains
on_some test = at (test chain-of.Steps) (test chain-of.Blocks) (test chain-of.Links)
  where
    at : (s t u : Bool) → (s || t || u) ≡ (s || (t || (u || false)))
    at true t u = refl
    at false true u = refl
    at false false true = refl
    at false false false = refl

-- .. and what holds on none does not hold on any
pub on_none : (test : Chain → Bool) → some_in chains test ≡ false → (c : Chain) → test c ≡ false
on_none test e chain-of.Steps =
    or_left (test chain-of.Steps) (test chain-of.Blocks)
    (or_left (test chain-of.Steps || test chain-of.Blocks) (test chain-of.Links) (on_some test ∙ e))
on_none test e chain-of.Blocks =
    or_right (test chain-of.Steps) (test chain-of.Blocks)
    (or_left (test chain-of.Steps || test chain-of.Blocks) (test chain-of.Links) (on_some test ∙ e))
on_none test e chain-of.Links = or_right (test chain-of.Steps || test chain-of.Blocks) (test chain-of.Links) (on_some test ∙ e)

-- Without cause 3 no chain is broken
pub unbroken : (b : List ℕ) → broken_chain b ≡ false → (c : Chain) → broken_on b c ≡ false
unfolding broken_chain
unbroken b e = on_none (broken_on b) e

unbroken-each : (b : List ℕ) → broken_chain b ≡ false → Each (λ c. broken_on b c ≡ false) chains
unfolding broken_chain
unbroken-each b e = none_in chains (broken_on b) e

-- The records on chains, one chain after another
unfoldable pub records_on : List ℕ → List Chain → List ℕ
records_on b [] = []
records_on b (c ∷ l) = chain_of b c ++ records_on b l

-- how many they are
pub records-count : (b : List ℕ) → length (records_on b chains) ≡ count_on b chain-of.Steps + count_on b chain-of.Blocks + count_on b chain-of.Links
unfolding records_on chains
records-count b =
    let s = chain_of b chain-of.Steps in
    let t = chain_of b chain-of.Blocks in
    let u = chain_of b chain-of.Links in
    omega (arith, length-append s (t ++ (u ++ [])), length-append t (u ++ []), length-append {A = ℕ} u [])

-- a record is among them where it is on one of the chains
records-member : (b : List ℕ) (i : ℕ) (l : List Chain) → some_in l (is_on b i) ≡ member i (records_on b l)
unfolding some_in is_on records_on
records-member b i [] = refl
records-member b i (c ∷ l) = rw (some-append (chain_of b c) (records_on b l) (eqb i), records-member b i l)

-- each has a kind that belongs on one of the chains
or-holds : (x y : Bool) → y ≡ true → (x || y) ≡ true
or-holds true y e = refl
or-holds false y e = e

records-kinds : (b : List ℕ) (l : List Chain) → Each (λ c. broken_on b c ≡ false) l
    → Each (λ i. member (kind b i) (map kind_on l) ≡ true) (records_on b l)
unfolding some_in records_on
records-kinds b [] h = tt
records-kinds b (c ∷ l) h =
    each_append (λ i. member (kind b i) (kind_on c ∷ map kind_on l) ≡ true) (chain_of b c) (records_on b l)
    (each_map (Placed b c) (λ i. member (kind b i) (kind_on c ∷ map kind_on l) ≡ true) (chain_of b c)
    (λ i p. rw (eq-eqb (kind b i) (kind_on c) p.of_kind))
    (placed b c h.0))
    (each_map (λ i. member (kind b i) (map kind_on l) ≡ true) (λ i. member (kind b i) (kind_on c ∷ map kind_on l) ≡ true) (records_on b l)
    (λ i m. or-holds (eqb (kind b i) (kind_on c)) (member (kind b i) (map kind_on l)) m)
    (records-kinds b l h.1))

-- and where no kind belongs on two of the chains, they are distinct
records-distinct : (b : List ℕ) (l : List Chain) → Distinct (map kind_on l) → Each (λ c. broken_on b c ≡ false) l → Distinct (records_on b l)
unfolding records_on
records-distinct b [] d h = tt
records-distinct b (c ∷ l) d h =
    distinct_append (chain_of b c) (records_on b l) (distinct b c h.0) (records-distinct b l d.1 h.1)
    (each_map (Placed b c) (λ i. member i (records_on b l) ≡ false) (chain_of b c)
    (λ i p.
    not-member (λ j. member (kind b j) (map kind_on l) ≡ true) (records_on b l) i (records-kinds b l h.1)
    (λ m. true≢false (sym m ∙ rw p.of_kind d.0)))
    (placed b c h.0))

kinds-distinct : Distinct (map kind_on chains)
unfolding some_in chains
kinds-distinct = (refl, (refl, (refl, tt)))

-- No record is on two chains
pub apart : (b : List ℕ) (c d : Chain) → (kind_on c ≡ kind_on d → ⊥) → broken_chain b ≡ false → Each (λ i. member i (chain_of b d) ≡ false) (chain_of b c)
apart b c d other e =
    each_map (Placed b c) (λ i. member i (chain_of b d) ≡ false) (chain_of b c)
    (λ i h. not-member (Placed b d) (chain_of b d) i (placed b d (unbroken b e d)) (λ g. other (sym h.of_kind ∙ g.of_kind)))
    (placed b c (unbroken b e c))

-- they are not 0, and below R
records-positive : (b : List ℕ) (l : List Chain) → Each (λ i. 0 < i) (records_on b l)
unfolding records_on
records-positive b [] = tt
records-positive b (c ∷ l) =
    each_append (λ i. 0 < i) (chain_of b c) (records_on b l) (chain-positive (record_count b) b (first_on b c)) (records-positive b l)

records-below : (b : List ℕ) (l : List Chain) → Each (λ c. broken_on b c ≡ false) l → Each (λ i. i < record_count b) (records_on b l)
unfolding records_on
records-below b [] h = tt
records-below b (c ∷ l) h =
    each_append (λ i. i < record_count b) (chain_of b c) (records_on b l) (below b c h.0) (records-below b l h.1)

-- The head and the records of all chains are distinct, and below R
all-distinct : (b : List ℕ) → broken_chain b ≡ false → Distinct (0 ∷ records_on b chains)
all-distinct b e = (
  not-member (λ i. 0 < i) (records_on b chains) 0 (records-positive b chains) (λ h. omega arith),
  records-distinct b chains kinds-distinct (unbroken-each b e),
)

all-below : (b : List ℕ) → 0 < record_count b → broken_chain b ≡ false → Each (λ i. i < record_count b) (0 ∷ records_on b chains)
all-below b p e = (p, records-below b chains (unbroken-each b e))

stray-missing : (b : List ℕ) (i : ℕ) → stray b i ≡ not (member i (0 ∷ records_on b chains))
unfolding stray some_in
stray-missing b i = rw (records-member b i chains) (at (eqb i 0) refl)
  where
    at : (head : Bool) → eqb i 0 ≡ head
        → (leb 1 i && not (member i (records_on b chains))) ≡ not (head || member i (records_on b chains))
    at true e = rw (lt-leb 1 i (let h = eqb-true i 0 e in omega arith))
    at false e = rw (le-leb 1 i (let h = eqb-false i 0 e in omega arith))

-- Without cause 3 the head and the chains are together at most R ..
pub chains-fit : (b : List ℕ) → 0 < record_count b → broken_chain b ≡ false
    → count_on b chain-of.Steps + count_on b chain-of.Blocks + count_on b chain-of.Links + 1 ≤ record_count b
chains-fit b p e =
    let fit = distinct-length (record_count b) (0 ∷ records_on b chains) (all-distinct b e) (all-below b p e) in
    omega (arith, records-count b)

-- .. and a record is on no chain just where they are fewer
pub stray-short : (b : List ℕ) → 0 < record_count b → broken_chain b ≡ false
    → stray_record b ≡ ltb (count_on b chain-of.Steps + count_on b chain-of.Blocks + count_on b chain-of.Links + 1) (record_count b)
unfolding stray_record
stray-short b p e =
    distinct-missing (record_count b) (0 ∷ records_on b chains) (stray b) (all-distinct b e) (all-below b p e) (stray-missing b)
    ∙ rw (← (records-count b), add-one)
