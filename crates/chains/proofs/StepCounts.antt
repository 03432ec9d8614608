-- The steps of a portfolio in an hour, for cause 11: what their counters say of them, and that there are none too many where there are few. Assumes nothing.
use Prim.Native.Nat.{ℕ, zero, suc, ◌+◌, ◌*◌, ◌≤◌, ◌<◌}
use mathlib.Core.Path.{◌≡◌, refl, ◌∙◌}
use mathlib.Core.List.{List, [], ◌∷◌}
use mathlib.Core.Bool.{Bool, true, false, cond, ◌||◌, ◌&&◌, or-true}
use native.Mathlib.Omega.{arith}
use borrow.Author.Tests.{eq-eqb, ne_eqb, eqb-true, eqb-false, lt-ltb, le-ltb}
use lib.Dec.{eqb, ltb}
use lib.ListN.{length, get_or, set, replicate, length-set, length-replicate, get_or-replicate}
use lib.Seq.{get_or-set_other}
use Rattle.records.specs.Records.{hour_byte, portfolio}
use Rattle.chains.specs.Bounds.{portfolio_numbers, hour_numbers, most_steps_in_hour}
use Rattle.fields.specs.Tests.{some_below, count_in}
use Rattle.chains.specs.Chains.{chain_of, count_on, step_order}
use Rattle.chains.specs.Causes.{owned_by, is_for, steps_for, more_steps_in, more_steps}
use Rattle.chains.specs.declared.Chain.TheVariants as chain-of
use Rattle.chains.proofs.Laws.{count-more, count_most}

-- How many pass a test are at most how many there are
count-length : (l : List ℕ) (test : ℕ → Bool) → count_in l test ≤ length l
unfolding count_in
count-length [] test = omega arith
count-length (x ∷ l) test = at (test x) (count-length l test)
  where
    at : (t : Bool) → count_in l test ≤ length l → cond t 1 0 + count_in l test ≤ length (x ∷ l)
    at true h = omega arith
    at false h = omega arith

-- Where each number below n fails a test none passes it ..
pub all-fail : (n : ℕ) (test : ℕ → Bool) → ((j : ℕ) → j < n → test j ≡ false) → some_below n test ≡ false
unfolding some_below
all-fail zero test h = refl
all-fail (suc n) test h = rw (h n (omega arith)) (all-fail n test (λ j g. h j (omega arith)))

-- .. and where one passes it some does
pub one_passes : (n : ℕ) (test : ℕ → Bool) (j : ℕ) → j < n → test j ≡ true → some_below n test ≡ true
unfolding some_below
one_passes zero test j h e = absurd (omega arith)
one_passes (suc n) test j h e = at (eqb j n) refl (λ g. one_passes n test j g e)
  where
    at : (same : Bool) → eqb j n ≡ same → (j < n → some_below n test ≡ true) → (test n || some_below n test) ≡ true
    at true q later = rw (← (eqb-true j n q), e)
    at false q later = rw (later (let u = eqb-false j n q in omega arith), or-true)

-- THE TEST
-- No portfolio has more than so many steps in an hour ..
pub no-more-steps : (most : ℕ) (b : List ℕ) → ((h p : ℕ) → h < hour_numbers → p < portfolio_numbers → steps_for b h p ≤ most) → more_steps most b ≡ false
unfolding more_steps more_steps_in
no-more-steps most b few =
    all-fail hour_numbers (more_steps_in most b)
    (λ h g. all-fail portfolio_numbers (λ p. ltb most (steps_for b h p)) (λ p f. le-ltb most (steps_for b h p) (few h p g f)))

-- .. or one has
pub more-steps : (most : ℕ) (b : List ℕ) (h p : ℕ) → h < hour_numbers → p < portfolio_numbers → most < steps_for b h p → more_steps most b ≡ true
unfolding more_steps more_steps_in
more-steps most b h p g f many =
    one_passes hour_numbers (more_steps_in most b) h g
    (one_passes portfolio_numbers (λ q. ltb most (steps_for b h q)) p f (lt-ltb most (steps_for b h p) many))

-- A chain of so many steps has no more of one portfolio and hour
pub few-steps : (most count : ℕ) (b : List ℕ) → count ≡ count_on b chain-of.Steps → count ≤ most → more_steps most b ≡ false
unfolding steps_for
few-steps most count b long few = no-more-steps most b (λ h p g f. omega (arith, count-length (chain_of b chain-of.Steps) (is_for b h p), long))

-- THE COUNTERS
-- Where the counter of hour h and portfolio p stands
abbrev pub counter_at : (h p : ℕ) → ℕ
counter_at h p = h * portfolio_numbers + p

-- Each hour and portfolio has its own
own-counter : (h p g q : ℕ) → p < portfolio_numbers → q < portfolio_numbers → eqb (counter_at h p) (counter_at g q) ≡ (eqb h g && eqb p q)
own-counter h p g q a c = at (eqb h g) (eqb p q) refl refl
  where
    at : (s t : Bool) → eqb h g ≡ s → eqb p q ≡ t → eqb (counter_at h p) (counter_at g q) ≡ (s && t)
    at true true d e = eq-eqb (counter_at h p) (counter_at g q) (let u = eqb-true h g d in let v = eqb-true p q e in rw (u, v))
    at true false d e = ne_eqb (counter_at h p) (counter_at g q) (λ w. let u = eqb-true h g d in eqb-false p q e (omega arith))
    at false t d e = ne_eqb (counter_at h p) (counter_at g q) (λ w. eqb-false h g d (omega arith))

-- One step more of hour h and portfolio p: their counter grows by one, and no other
counted_step : (counts : List ℕ) (h p g q n : ℕ) → p < portfolio_numbers → q < portfolio_numbers → counter_at g q < length counts
    → get_or counts (counter_at g q) 0 + (cond (eqb h g && eqb p q) 1 0 + n)
    ≡ get_or (set counts (counter_at h p) (get_or counts (counter_at h p) 0 + 1)) (counter_at g q) 0 + n
counted_step counts h p g q n a c f = rw (← (own-counter h p g q a c)) (count-more counts (counter_at h p) (counter_at g q) n f)

-- THE WALK
-- Before the rest of the step chain: no counter is above the limit, and each portfolio has in each hour the steps
-- counted and those to come
pub record Counted (b counts rest : List ℕ) : Type 0 where
  pub long : length counts ≡ hour_numbers * portfolio_numbers
  pub within : (h p : ℕ) → h < hour_numbers → p < portfolio_numbers → get_or counts (counter_at h p) 0 ≤ most_steps_in_hour
  pub steps_are : (h p : ℕ) → h < hour_numbers → p < portfolio_numbers
      → steps_for b h p ≡ get_or counts (counter_at h p) 0 + count_in rest (is_for b h p)

-- A counter stands in the table
in_table : {b counts rest : List ℕ} → Counted b counts rest → (h p : ℕ) → h < hour_numbers → p < portfolio_numbers → counter_at h p < length counts
in_table w h p g f = rw w.long (omega arith)

-- Nothing is counted before the first record
pub counting-starts : (b rest : List ℕ) → rest ≡ step_order b → Counted b (replicate (hour_numbers * portfolio_numbers) 0) rest
unfolding steps_for step_order
counting-starts b rest e =
    let none : (h p : ℕ) → h < hour_numbers → p < portfolio_numbers → ◌≡◌ {A = ℕ} (get_or (replicate (hour_numbers * portfolio_numbers) 0) (counter_at h p) 0) 0 =
    λ h p g f. get_or-replicate {A = ℕ} (hour_numbers * portfolio_numbers) (counter_at h p) 0 0 (omega arith)
    in
    record {
      long = length-replicate {A = ℕ} (hour_numbers * portfolio_numbers) 0;
      within = λ h p g f. omega (arith, none h p g f);
      steps_are = λ h p g f. rw e (omega (arith, none h p g f));
    }

-- A step for no hour is passed over
pub counting-passes : (b counts rest following : List ℕ) (i hour : ℕ) → Counted b counts rest → rest ≡ i ∷ following
    → hour ≡ hour_byte b i → hour_numbers ≤ hour → Counted b counts following
unfolding count_in is_for
counting-passes b counts rest following i hour w more d above =
    record {
      long = w.long;
      within = w.within;
      steps_are = λ g q a c.
          w.steps_are g q a c
          ∙ rw (more, ne_eqb (hour_byte b i) g (λ e. omega (arith, d))) (omega arith);
    }

-- Any other is counted
pub counting_more : (b counts rest following : List ℕ) (i hour owner : ℕ) → Counted b counts rest → rest ≡ i ∷ following
    → hour ≡ hour_byte b i → owner ≡ portfolio b i → hour < hour_numbers → owner < portfolio_numbers
    → get_or counts (counter_at hour owner) 0 < most_steps_in_hour
    → Counted b (set counts (counter_at hour owner) (get_or counts (counter_at hour owner) 0 + 1)) following
unfolding count_in is_for owned_by
counting_more b counts rest following i hour owner w more d e small low below =
    record {
      long = rw length-set w.long;
      within = λ g q a c. at g q (eqb (counter_at hour owner) (counter_at g q)) refl (w.within g q a c) (in_table w g q a c);
      steps_are = λ g q a c.
          w.steps_are g q a c
          ∙ rw (more, ← d, ← e, counted_step counts hour owner g q _ low c (in_table w g q a c));
    }
  where
    at : (g q : ℕ) (same : Bool) → eqb (counter_at hour owner) (counter_at g q) ≡ same
        → get_or counts (counter_at g q) 0 ≤ most_steps_in_hour → counter_at g q < length counts
        → get_or (set counts (counter_at hour owner) (get_or counts (counter_at hour owner) 0 + 1)) (counter_at g q) 0 ≤ most_steps_in_hour
    at g q true s k inside =
        let same : counter_at hour owner ≡ counter_at g q = eqb-true (counter_at hour owner) (counter_at g q) s in
        let lower : get_or counts (counter_at g q) 0 < most_steps_in_hour = rw same at below in
        omega (arith, lower, count_most counts (counter_at hour owner) (counter_at g q) inside)
    at g q false s k inside =
        let other : counter_at g q ≡ counter_at hour owner → ⊥ = (λ u. eqb-false (counter_at hour owner) (counter_at g q) s (omega arith)) in
        rw (get_or-set_other counts (counter_at hour owner) (counter_at g q) (get_or counts (counter_at hour owner) 0 + 1) 0 other) k

-- A counter at its limit when a step is met: one step too many
pub counting-over : (b counts rest following : List ℕ) (i hour owner : ℕ) → Counted b counts rest → rest ≡ i ∷ following
    → hour ≡ hour_byte b i → owner ≡ portfolio b i → hour < hour_numbers → owner < portfolio_numbers
    → most_steps_in_hour ≤ get_or counts (counter_at hour owner) 0 → more_steps most_steps_in_hour b ≡ true
unfolding count_in is_for owned_by
counting-over b counts rest following i hour owner w more d e small low full =
    let steps : steps_for b hour owner ≡ get_or counts (counter_at hour owner) 0 + (1 + count_in following (is_for b hour owner)) =
    w.steps_are hour owner small low ∙ rw (more, ← d, ← e, eq-eqb hour hour refl, eq-eqb owner owner refl)
    in
    more-steps most_steps_in_hour b hour owner small low (omega (arith, steps, full))

-- With no record left no counter is above the limit
pub counting-ends : (b counts rest : List ℕ) → Counted b counts rest → rest ≡ [] → more_steps most_steps_in_hour b ≡ false
unfolding count_in
counting-ends b counts rest w none =
    no-more-steps most_steps_in_hour b (λ h p g f. let e = rw none at (w.steps_are h p g f) in omega (arith, e, w.within h p g f))
