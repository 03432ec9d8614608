-- How the causes give a book's number and its answer, and document 01's sentence on them:
-- "The lowest number whose cause holds is given, and none without its cause." Assumes nothing.
use Prim.Native.Nat.{ℕ, zero, suc, ◌+◌, ◌*◌, ◌≤◌, ◌<◌}
use mathlib.Core.Path.{◌≡◌, refl, ap, sym, ◌∙◌}
use mathlib.Core.List.{List, [], ◌∷◌, ◌++◌}
use mathlib.Core.Bool.{Bool, true, false, cond, not, ◌||◌, ◌&&◌, and-false}
use native.Mathlib.Omega.{arith}
use borrow.Author.Tests.{eq-eqb, ne_eqb, eqb-true, eqb-false, leb-true, not-false}
use lib.Dec.{eqb, leb, ltb}
use lib.ListN.{length}
use Rattle.fields.specs.Tests.{within, some_below}
use Rattle.records.specs.Layout.{record_size}
use Rattle.records.specs.Records.{record_count}
use Rattle.chains.specs.Bounds.{portfolio_numbers}
use Rattle.book.specs.Bounds.{most_records, most_blocks}
use Rattle.chains.specs.Chains.{count_on, step_order, block_order}
use Rattle.chains.specs.Causes.{broken_on, broken_chain, wrong_field_on, wrong_field, stray_record, wrong_hours, wrong_link}
use Rattle.book.specs.Refusals.{wrong_size, wrong_head, too_many_of, too_many_blocks, too_many_steps, first_cause, own_causes, refusal}
use Rattle.chains.specs.Passes.{surveyed}
use Rattle.book.specs.Passes.{next_found}
use Rattle.book.specs.Numbers.{refusal_number, refusal_numbered, answered, tested, number_of}
use Rattle.book.specs.Answers.{counted, reading}
use Rattle.chains.specs.declared.Chain.TheVariants as chain-of
use Rattle.chains.specs.declared.Surveyed.{Surveyed}
use Rattle.book.specs.declared.Counted.{Counted}
use Rattle.book.specs.declared.refusal.Refusal.{Refusal}
use Rattle.std.specs.Prelude.{Result, Ok, Err}
use Rattle.rules.proofs.Tests.{by-test, by-eq}
use Rattle.chains.proofs.Laws.{or_right, and_left, and_right}
use Rattle.chains.proofs.Distinct.{on_some, stray-short}

-- A number within its bounds
pub bounds : (low x high : ℕ) → within low x high ≡ true → (low ≤ x) × (x ≤ high)
unfolding within
bounds low x high e = (leb-true _ _ (and_left (leb low x) _ e), leb-true _ _ (and_right (leb low x) _ e))

-- Without cause 1, R is from 1 to 2,048
pub count-bounds : (b : List ℕ) → wrong_size b ≡ false → (1 ≤ record_count b) × (record_count b ≤ most_records)
unfolding wrong_size
count-bounds b e =
    bounds 1 (record_count b) most_records
    (not-false _ (or_right (not (eqb (length b) (record_size * record_count b)) || ltb (length b) record_size) _ e))

-- THE CAUSES ONE AFTER ANOTHER
-- Where no cause looked for before holds: those of `rest` are still to be looked for
pub record Left (b : List ℕ) (rest : List (Bool × ℕ)) : Type 0 where
  pub is : refusal b ≡ first_cause rest

-- 1 comes first
pub all-left : (b : List ℕ)
    → Left b
    ((wrong_size b, 1) ∷ (wrong_head b, 2) ∷ (broken_chain b, 3) ∷ (wrong_field b, 4) ∷ (stray_record b, 5) ∷ (too_many_blocks b, 6) ∷ (wrong_hours b, 9)
    ∷ (wrong_link b, 10) ∷ (too_many_steps b, 11) ∷ [])
unfolding refusal own_causes
all-left b = record { is = refl }

-- A test that refused nothing does not hold ..
pub passed : (test : Bool) (why : Refusal) → Ok tt ≡ tested test why → test ≡ false
passed true why e = absurd (cc)
passed false why e = refl

-- .. one that refused does, for that refusal ..
pub stops : (test : Bool) (why got : Refusal) → Err got ≡ tested test why → (test ≡ true) × (got ≡ why)
stops true why got e = (refl, (cc))
stops false why got e = absurd (cc)

-- BY THE NUMBERS: what was found before, else the next one
-- A book's number, where the causes looked for gave `found` (0 where none holds) and those of `rest` are still to be looked for
unfoldable pub LeftAfter : List ℕ → ℕ → List (Bool × ℕ) → Type 0
LeftAfter b found rest = refusal b ≡ cond (eqb found 0) (first_cause rest) found

-- One cause more. The test for it has to be right only where none was found before
pub one-cause : (b : List ℕ) (found next number : ℕ) (test cause : Bool) (rest : List (Bool × ℕ)) → 0 < number
    → LeftAfter b found ((cause, number) ∷ rest) → (found ≡ 0 → test ≡ cause) → next ≡ next_found found test number → LeftAfter b next rest
unfolding first_cause next_found LeftAfter
one-cause b found next number test cause rest p left agree e = left ∙ rw e (at (eqb found 0) refl)
  where
    holds : (t : Bool) → ◌≡◌ {A = ℕ} (cond t number (first_cause rest)) (cond (eqb (cond t number 0) 0) (first_cause rest) (cond t number 0))
    holds true = rw (ne_eqb number 0 (λ w. omega arith))
    holds false = refl

    at : (none : Bool) → eqb found 0 ≡ none
        → ◌≡◌ {A = ℕ} (cond none (cond cause number (first_cause rest)) found)
        (cond (eqb (cond none (cond test number 0) found) 0) (first_cause rest) (cond none (cond test number 0) found))
    at true f = rw (agree (eqb-true found 0 f)) (holds cause)
    at false f = rw f

-- So a cause that is looked for where none was found gives the book's number, where it holds ..
pub found-here : {b : List ℕ} {number : ℕ} {cause : Bool} {rest : List (Bool × ℕ)} → 0 < number
    → Left b ((cause, number) ∷ rest) → true ≡ cause → refusal b ≡ number
unfolding next_found LeftAfter
found-here {b} {number} {cause} {rest} some left holds =
    one-cause b 0 number number true cause rest some left.is (λ z. holds) refl ∙ rw (ne_eqb number 0 (λ w. omega arith))

-- .. and else those of `rest` are left
pub left-over : {b : List ℕ} {number : ℕ} {cause : Bool} {rest : List (Bool × ℕ)} → 0 < number
    → Left b ((cause, number) ∷ rest) → false ≡ cause → Left b rest
unfolding next_found LeftAfter
left-over {b} {number} {cause} {rest} some left holds = record { is = one-cause b 0 0 number false cause rest some left.is (λ z. holds) refl }

-- BY THE TESTS: after one that refuses nothing the causes after it are left
pub next : {b : List ℕ} {number : ℕ} {test cause : Bool} {rest : List (Bool × ℕ)} (why : Refusal)
    → Left b ((cause, number) ∷ rest) → test ≡ cause → Ok tt ≡ tested test why → Left b rest
unfolding first_cause
next {number = zero} {test = test} why left right none = record { is = left.is ∙ rw (sym right ∙ passed test why none) }
next {number = suc n} {test = test} why left right none = left-over (omega arith) left (sym (passed test why none) ∙ right)

-- Where the last one does not hold either, the book is accepted
pub accepts : {b : List ℕ} → Left b [] → refusal b ≡ 0
unfolding first_cause
accepts left = left.is

-- A test that refused gives the book's refusal
pub stopped : {b : List ℕ} {number : ℕ} {test cause : Bool} {rest : List (Bool × ℕ)} {got : Refusal} {A : Type 0} (why : Refusal) (value : A)
    → Left b ((cause, number) ∷ rest) → test ≡ cause → refusal_numbered number ≡ why → 0 < number → Err got ≡ tested test why
    → Err got ≡ answered (refusal b) value
unfolding answered
stopped {b} {number} {test} {cause} {rest} {got} why value left right named some told = at test right told
  where
    at : (t : Bool) → t ≡ cause → Err got ≡ tested t why → Err got ≡ answered (refusal b) value
    at true is e = let same : got ≡ why = cc in rw (found-here some left is, ne_eqb number 0 (λ w. omega arith), named, same)
    at false is e = absurd (cc)

-- The last test gives the answer
pub ends : {b : List ℕ} {number : ℕ} {test cause : Bool} {r : Result (Unit {0}) Refusal} (why : Refusal)
    → Left b ((cause, number) ∷ []) → test ≡ cause → refusal_numbered number ≡ why → 0 < number → r ≡ tested test why → r ≡ answered (refusal b) tt
unfolding answered
ends {b} {number} {test} {cause} why left right named some told = told ∙ at test right
  where
    at : (t : Bool) → t ≡ cause → tested t why ≡ answered (refusal b) tt
    at true is = rw (found-here some left is, ne_eqb number 0 (λ w. omega arith), named)
    at false is = rw (accepts (left-over some left is))

-- 1 comes first ..
pub refusal-size : (b : List ℕ) → wrong_size b ≡ true → refusal b ≡ 1
refusal-size b e = found-here (omega arith) (all-left b) (sym e)

-- .. and without 1 the others are left
pub without-size : (b : List ℕ) → wrong_size b ≡ false
    → Left b
    ((wrong_head b, 2) ∷ (broken_chain b, 3) ∷ (wrong_field b, 4) ∷ (stray_record b, 5) ∷ (too_many_blocks b, 6) ∷ (wrong_hours b, 9) ∷ (wrong_link b, 10)
    ∷ (too_many_steps b, 11) ∷ [])
unfolding first_cause
without-size b e = record { is = (all-left b).is ∙ rw e }

-- 3 and 4 from what the walks along the chains found
pub broken-found : (b : List ℕ) (s t u : Surveyed) → s ≡ surveyed b chain-of.Steps → t ≡ surveyed b chain-of.Blocks → u ≡ surveyed b chain-of.Links
    → (s.broken || t.broken || u.broken) ≡ broken_chain b
unfolding broken_chain surveyed
broken-found b s t u p q l = rw (p, q, l) (on_some (broken_on b))

pub field_found : (b : List ℕ) (s t u : Surveyed) → s ≡ surveyed b chain-of.Steps → t ≡ surveyed b chain-of.Blocks → u ≡ surveyed b chain-of.Links
    → (s.outside || t.outside || u.outside) ≡ wrong_field b
unfolding wrong_field surveyed
field_found b s t u p q l = rw (p, q, l) (on_some (wrong_field_on b))

-- 5 from the chains' lengths, where 1 and 3 do not hold
pub stray-found : (b : List ℕ) (s t u : Surveyed) (short : Bool) (n : ℕ)
    → s ≡ surveyed b chain-of.Steps → t ≡ surveyed b chain-of.Blocks → u ≡ surveyed b chain-of.Links
    → n ≡ record_count b → short ≡ ltb (s.length + t.length + u.length + 1) n → wrong_size b ≡ false → broken_chain b ≡ false → short ≡ stray_record b
unfolding surveyed
stray-found b s t u short n p q l r e sized unbroken = e ∙ rw (p, q, l, r) (sym (stray-short b (count-bounds b sized).0 unbroken))

-- 6 from the length of the chain of blocks and the portfolios
pub many-found : (b : List ℕ) (t : Surveyed) (crowded : Bool) → t ≡ surveyed b chain-of.Blocks → crowded ≡ some_below portfolio_numbers (too_many_of b)
    → (ltb most_blocks t.length || crowded) ≡ too_many_blocks b
unfolding too_many_blocks surveyed
many-found b t crowded q e = rw (q, e)

-- The length of the chain of steps, for 11
pub steps-long : (b : List ℕ) (s : Surveyed) → s ≡ surveyed b chain-of.Steps → s.length ≡ count_on b chain-of.Steps
unfolding surveyed
steps-long b s p = rw p

-- THE ANSWER
-- The lengths of their chains are how many steps and blocks there are
pub steps-counted : (b : List ℕ) (s : Surveyed) → s ≡ surveyed b chain-of.Steps → s.length ≡ length (step_order b)
unfolding surveyed step_order
steps-counted b s p = rw p

pub blocks-counted : (b : List ℕ) (t : Surveyed) → t ≡ surveyed b chain-of.Blocks → t.length ≡ length (block_order b)
unfolding surveyed block_order
blocks-counted b t q = rw q

-- Each number that the causes give has its refusal
abbrev pub HaveRefusals : List (Bool × ℕ) → Type 0
HaveRefusals [] = Unit {0}
HaveRefusals (cause ∷ l) = (refusal_number (refusal_numbered cause.1) ≡ cause.1) × HaveRefusals l

first-refusal : (l : List (Bool × ℕ)) → HaveRefusals l → (first_cause l ≡ 0 → ⊥) → refusal_number (refusal_numbered (first_cause l)) ≡ first_cause l
unfolding first_cause
first-refusal [] h n = absurd (n refl)
first-refusal (cause ∷ l) h n = at cause.0 n (λ g. first-refusal l h.1 g)
  where
    at : (t : Bool) → (cond t cause.1 (first_cause l) ≡ 0 → ⊥)
        → ((first_cause l ≡ 0 → ⊥) → refusal_number (refusal_numbered (first_cause l)) ≡ first_cause l)
        → refusal_number (refusal_numbered (cond t cause.1 (first_cause l))) ≡ cond t cause.1 (first_cause l)
    at true g later = h.0
    at false g later = later g

pub own-have : (b : List ℕ) → HaveRefusals (own_causes b)
unfolding own_causes refusal_numbered
own-have b = (refl, (refl, (refl, (refl, (refl, (refl, (refl, (refl, (refl, tt)))))))))

pub have-append : (l n : List (Bool × ℕ)) → HaveRefusals l → HaveRefusals n → HaveRefusals (l ++ n)
have-append [] n h k = k
have-append (cause ∷ l) n h k = (h.0, have-append l n h.1 k)

pub own-refusal : (b : List ℕ) → (refusal b ≡ 0 → ⊥) → refusal_number (refusal_numbered (refusal b)) ≡ refusal b
unfolding refusal
own-refusal b n = first-refusal (own_causes b) (own-have b) n

-- The number of what is answered for a number that is 0 or has its refusal
pub number-answered : {A : Type 0} (n : ℕ) (value : A) → ((n ≡ 0 → ⊥) → refusal_number (refusal_numbered n) ≡ n) → number_of (answered n value) ≡ n
unfolding answered
number-answered n value has = at (eqb n 0) refl
  where
    at : (none : Bool) → eqb n 0 ≡ none → number_of (cond none (Ok value) (Err (refusal_numbered n))) ≡ n
    at true e = sym (eqb-true n 0 e)
    at false e = has (eqb-false n 0 e)

-- .. so the number of what is answered for the first cause of a list is that cause's, 0 where none holds
pub number-of-causes : {A : Type 0} (l : List (Bool × ℕ)) (value : A) → HaveRefusals l → number_of (answered (first_cause l) value) ≡ first_cause l
number-of-causes l value h = number-answered (first_cause l) value (first-refusal l h)

-- The answer's number is the book's
pub number-reading : (b : List ℕ) → number_of (reading b) ≡ refusal b
unfolding reading answered
number-reading b = number-answered (refusal b) (counted b) (own-refusal b)

-- What is answered for no number, and for one
pub answered-none : {A : Type 0} (n : ℕ) (value : A) → n ≡ 0 → answered n value ≡ Ok value
unfolding answered
answered-none n value e = rw (eq-eqb _ _ e)

pub answered_some : {A : Type 0} (n : ℕ) (value : A) → (n ≡ 0 → ⊥) → answered n value ≡ Err (refusal_numbered n)
unfolding answered
answered_some n value e = rw (ne_eqb _ _ e)

-- What an accepting answer says of the number
pub answer-none : {A : Type 0} (n : ℕ) (value other : A) → answered n value ≡ Ok other → (n ≡ 0) × (other ≡ value)
unfolding answered
answer-none n value other e =
    by-eq (λ t. cond t (Ok value) (Err (refusal_numbered n)) ≡ Ok other → (n ≡ 0) × (other ≡ value)) n 0 (λ z e. (z, (cc))) (λ z e. absurd (cc)) e

-- What a refusing answer says of the number
pub answer-some : {A : Type 0} (n : ℕ) (value : A) (why : Refusal) → answered n value ≡ Err why → (n ≡ 0 → ⊥) × (why ≡ refusal_numbered n)
unfolding answered
answer-some n value why e =
    by-eq (λ t. cond t (Ok value) (Err (refusal_numbered n)) ≡ Err why → (n ≡ 0 → ⊥) × (why ≡ refusal_numbered n)) n 0 (λ z e. absurd (cc))
    (λ z e. (z, (cc))) e

-- What an accepting answer says
pub answer-accepted : (b : List ℕ) (c : Counted) → reading b ≡ Ok c → (refusal b ≡ 0) × (c ≡ counted b)
unfolding reading answered
answer-accepted b c e = answer-none (refusal b) (counted b) c e

-- What a refusing answer says
pub answer-refused : (b : List ℕ) (why : Refusal) → reading b ≡ Err why → (refusal b ≡ 0 → ⊥) × (refusal b ≡ refusal_number why) × (why ≡ refusal_numbered (refusal b))
unfolding reading answered
answer-refused b why e =
    let a = answer-some (refusal b) (counted b) why e in
    (a.0, sym (own-refusal b a.0) ∙ ap refusal_number (sym a.1), a.1)

-- Cause n is in a list of causes, and holds
abbrev pub holds : List (Bool × ℕ) → ℕ → Bool
holds [] n = false
holds (cause ∷ l) n = (cause.0 && eqb cause.1 n) || holds l n

-- The numbers of a list of causes rise, all above m
abbrev Ordered : ℕ → List (Bool × ℕ) → Type 0
Ordered m [] = Unit {0}
Ordered m (cause ∷ l) = (m < cause.1) × Ordered cause.1 l

-- Where a cause's number is given, it holds
first_holds : (l : List (Bool × ℕ)) → (first_cause l ≡ 0 → ⊥) → holds l (first_cause l) ≡ true
unfolding first_cause
first_holds [] n = absurd (n refl)
first_holds (cause ∷ l) n = at cause.0 n (λ g. first_holds l g)
  where
    at : (t : Bool) → (cond t cause.1 (first_cause l) ≡ 0 → ⊥) → ((first_cause l ≡ 0 → ⊥) → holds l (first_cause l) ≡ true)
        → ((t && eqb cause.1 (cond t cause.1 (first_cause l))) || holds l (cond t cause.1 (first_cause l))) ≡ true
    at true g later = rw (eq-eqb cause.1 cause.1 refl)
    at false g later = later g

-- A number not above those of the list is not among them
holds-above : (m : ℕ) (l : List (Bool × ℕ)) → Ordered m l → (k : ℕ) → k ≤ m → holds l k ≡ false
holds-above m [] o k h = refl
holds-above m (cause ∷ l) o k h =
    rw (ne_eqb cause.1 k (λ e. omega arith), and-false, holds-above cause.1 l o.1 k (omega arith))

-- No cause below the number given holds
first-lowest : (m : ℕ) (l : List (Bool × ℕ)) → Ordered m l → (k : ℕ) → k < first_cause l → holds l k ≡ false
unfolding first_cause
first-lowest m [] o k h = refl
first-lowest m (cause ∷ l) o k h = at cause.0 h (λ g. first-lowest cause.1 l o.1 k g)
  where
    at : (t : Bool) → k < cond t cause.1 (first_cause l) → (k < first_cause l → holds l k ≡ false) → ((t && eqb cause.1 k) || holds l k) ≡ false
    at true g later = rw (ne_eqb cause.1 k (λ e. omega arith), holds-above cause.1 l o.1 k (omega arith))
    at false g later = later g

-- Of two lists the second counts only where the first gives no number
first-append : (m : ℕ) (l n : List (Bool × ℕ)) → Ordered m l → first_cause (l ++ n) ≡ cond (eqb (first_cause l) 0) (first_cause n) (first_cause l)
unfolding first_cause
first-append m [] n o = refl
first-append m (cause ∷ l) n o = at cause.0 (first-append cause.1 l n o.1)
  where
    at : (t : Bool) → first_cause (l ++ n) ≡ cond (eqb (first_cause l) 0) (first_cause n) (first_cause l)
        → cond t cause.1 (first_cause (l ++ n))
        ≡ cond (eqb (cond t cause.1 (first_cause l)) 0) (first_cause n) (cond t cause.1 (first_cause l))
    at true e = rw (ne_eqb cause.1 0 (λ w. omega arith))
    at false e = e

own-ordered : (b : List ℕ) → Ordered 0 (own_causes b)
unfolding own_causes
own-ordered b =
    (omega arith, (omega arith, (omega arith, (omega arith, (omega arith, (omega arith, (omega arith, (omega arith, (omega arith, tt)))))))))

-- None is given without its cause ..
pub with-cause : (b : List ℕ) → (refusal b ≡ 0 → ⊥) → holds (own_causes b) (refusal b) ≡ true
unfolding refusal
with-cause b n = first_holds (own_causes b) n

-- .. and the lowest number whose cause holds is given
pub lowest : (b : List ℕ) (k : ℕ) → k < refusal b → holds (own_causes b) k ≡ false
unfolding refusal
lowest b k h = first-lowest 0 (own_causes b) (own-ordered b) k h

-- A call's own causes are looked for after the book's
pub refusal-then : (b : List ℕ) (call : List (Bool × ℕ)) → first_cause (own_causes b ++ call) ≡ cond (eqb (refusal b) 0) (first_cause call) (refusal b)
unfolding refusal
refusal-then b call = first-append 0 (own_causes b) call (own-ordered b)
