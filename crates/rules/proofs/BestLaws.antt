-- M9, the definition's side: the best of all sets is lawful, no lawful set has more welfare, and against one of equal welfare it holds the
-- lowest-numbered block in which they differ. These facts determine it, and so does the statement of demand 3: `best-unique`. Assumes nothing.
use Prim.Native.Nat.{ℕ, zero, suc, ◌≤◌, ◌<◌}
use mathlib.Core.Bool.{Bool, true, false, cond, ◌&&◌}
use mathlib.Core.Path.{◌≡◌, refl, ap, sym, ◌∙◌}
use mathlib.Core.List.{List, [], ◌∷◌, ◌++◌, map}
use native.Mathlib.Omega.{arith}
use native.Mathlib.Nat.{suc_inj}
use lib.Dec.{leb}
use lib.ListN.{length, replicate, length-replicate}
use Rattle.rules.specs.Day.{Day, lawful, welfare}
use Rattle.rules.specs.Outcome.{all_sets, prefer, best_of, outcome}
use Rattle.rules.specs.Contender.{HoldsLowest, BeatsAll}
use Rattle.rules.proofs.Tests.{by-test, by_le, clash}
use Rattle.rules.proofs.NotBest

pub holds_same : (a : List Bool) → HoldsLowest a a
holds_same [] = tt
holds_same (true ∷ a) = holds_same a
holds_same (false ∷ a) = holds_same a

-- two sets that hold the lowest block against each other are one
pub holds-both : (a b : List Bool) → length a ≡ length b → HoldsLowest a b → HoldsLowest b a → a ≡ b
holds-both [] [] l h k = refl
holds-both [] (y ∷ b) l h k = absurd (omega arith)
holds-both (x ∷ a) [] l h k = absurd (omega arith)
holds-both (true ∷ a) (true ∷ b) l h k = ap (λ s. true ∷ s) (holds-both a b (suc_inj l) h k)
holds-both (true ∷ a) (false ∷ b) l h k = absurd k
holds-both (false ∷ a) (true ∷ b) l h k = absurd h
holds-both (false ∷ a) (false ∷ b) l h k = ap (λ s. false ∷ s) (holds-both a b (suc_inj l) h k)

-- LISTS OF SETS
abbrev All : (List Bool → Type 0) → List (List Bool) → Type 0
All P [] = Unit {0}
All P (s ∷ l) = P s × All P l

all_map : (P Q : List Bool → Type 0) → ((s : List Bool) → P s → Q s) → (l : List (List Bool)) → All P l → All Q l
all_map P Q f [] a = tt
all_map P Q f (s ∷ l) a = (f s a.0, all_map P Q f l a.1)

all_append : (P : List Bool → Type 0) (l m : List (List Bool)) → All P l → All P m → All P (l ++ m)
all_append P [] m a b = b
all_append P (s ∷ l) m a b = (a.0, all_append P l m a.1 b)

all-parts : (P : List Bool → Type 0) (l m : List (List Bool)) → All P (l ++ m) → All P l × All P m
all-parts P [] m a = (tt, a)
all-parts P (s ∷ l) m a = let t = all-parts P l m a.1 in ((a.0, t.0), t.1)

all-deeper : (P : List Bool → Type 0) (x : Bool) (l : List (List Bool)) → All (λ s. P (x ∷ s)) l → All P (map (◌∷◌ x) l)
all-deeper P x [] a = tt
all-deeper P x (s ∷ l) a = (a.0, all-deeper P x l a.1)

all_under : (P : List Bool → Type 0) (x : Bool) (l : List (List Bool)) → All P (map (◌∷◌ x) l) → All (λ s. P (x ∷ s)) l
all_under P x [] a = tt
all_under P x (s ∷ l) a = (a.0, all_under P x l a.1)

-- what holds of every listed set of n blocks holds of every set of n blocks
all-sets : (P : List Bool → Type 0) (n : ℕ) → All P (all_sets n) → (set : List Bool) → length set ≡ n → P set
unfolding all_sets
all-sets P zero a [] e = a.0
all-sets P zero a (x ∷ set) e = absurd (omega arith)
all-sets P (suc n) a [] e = absurd (omega arith)
all-sets P (suc n) a (true ∷ set) e =
    all-sets (λ s. P (true ∷ s)) n (all_under P true (all_sets n) (all-parts P (map (◌∷◌ true) (all_sets n)) _ a).0) set (suc_inj e)
all-sets P (suc n) a (false ∷ set) e =
    all-sets (λ s. P (false ∷ s)) n (all_under P false (all_sets n) (all-parts P (map (◌∷◌ true) (all_sets n)) _ a).1) set (suc_inj e)

sets-length : (n : ℕ) → All (λ s. length s ≡ n) (all_sets n)
unfolding all_sets
sets-length zero = (refl, tt)
sets-length (suc n) =
    let a = all_map (λ s. length s ≡ n) (λ s. suc (length s) ≡ suc n) (λ s e. ap suc e) (all_sets n) (sets-length n) in
    all_append (λ s. length s ≡ suc n) (map (◌∷◌ true) (all_sets n)) (map (◌∷◌ false) (all_sets n))
    (all-deeper (λ s. length s ≡ suc n) true (all_sets n) a) (all-deeper (λ s. length s ≡ suc n) false (all_sets n) a)

-- THE LISTING IS THE TIE RULE: a set holds the lowest block against every set listed after it
abbrev Ordered : List (List Bool) → Type 0
Ordered [] = Unit {0}
Ordered (s ∷ l) = All (HoldsLowest s) l × Ordered l

ordered-append : (l m : List (List Bool)) → Ordered l → Ordered m → All (λ s. All (HoldsLowest s) m) l → Ordered (l ++ m)
ordered-append [] m a b c = b
ordered-append (s ∷ l) m a b c = (all_append (HoldsLowest s) l m a.0 c.0, ordered-append l m a.1 b c.1)

ordered-deeper : (x : Bool) (l : List (List Bool)) → Ordered l → Ordered (map (◌∷◌ x) l)
ordered-deeper x [] a = tt
ordered-deeper true (s ∷ l) a = (all-deeper (HoldsLowest (true ∷ s)) true l a.0, ordered-deeper true l a.1)
ordered-deeper false (s ∷ l) a = (all-deeper (HoldsLowest (false ∷ s)) false l a.0, ordered-deeper false l a.1)

every : (P : List Bool → Type 0) → ((s : List Bool) → P s) → (l : List (List Bool)) → All P l
every P f [] = tt
every P f (s ∷ l) = (f s, every P f l)

sets-ordered : (n : ℕ) → Ordered (all_sets n)
unfolding all_sets
sets-ordered zero = (tt, tt)
sets-ordered (suc n) =
    ordered-append (map (◌∷◌ true) (all_sets n)) (map (◌∷◌ false) (all_sets n))
    (ordered-deeper true (all_sets n) (sets-ordered n)) (ordered-deeper false (all_sets n) (sets-ordered n))
    (all-deeper _ true (all_sets n)
    (every _ (λ s. all-deeper (HoldsLowest (true ∷ s)) false (all_sets n) (every _ (λ t. tt) (all_sets n))) (all_sets n)))

-- a set against another: no less welfare, and at equal welfare it holds the lowest block
abbrev pub Wins : Day → List Bool → List Bool → Type 0
Wins day set other =
    lawful day other ≡ true → (welfare day other ≤ welfare day set) × (welfare day other ≡ welfare day set → HoldsLowest set other)

-- THE FIRST OF THE BEST: a lawful set of the day's blocks that wins against every other
pub record FirstBest (day : Day) (set : List Bool) : Type 0 where
  pub of_blocks : length set ≡ length day.blocks
  pub is_lawful : lawful day set ≡ true
  pub wins : (other : List Bool) → length other ≡ length day.blocks → Wins day set other

pub first-unique : (day : Day) (a b : List Bool) → FirstBest day a → FirstBest day b → a ≡ b
first-unique day a b f g =
    let u = f.wins b g.of_blocks g.is_lawful in
    let v = g.wins a f.of_blocks f.is_lawful in
    holds-both a b (f.of_blocks ∙ sym g.of_blocks) (u.1 (omega arith)) (v.1 (omega arith))

module _ (day : Day) (empty : lawful day (replicate (length day.blocks) false) ≡ true) where
  abbrev N : ℕ
  N = length day.blocks

  -- the best of a list, listed by the tie rule
  record BestIn (l : List (List Bool)) (set : List Bool) : Type 0 where
    size : length set ≡ N
    is_lawful : lawful day set ≡ true
    wins : All (Wins day set) l

  best-in : (l : List (List Bool)) → All (λ s. length s ≡ N) l → Ordered l → BestIn l (best_of day l)
  unfolding best_of
  best-in [] n o = record { size = length-replicate N false; is_lawful = empty; wins = tt }
  best-in (s ∷ l) n o = go (best_of day l) (best-in l n.1 o.1)
    where
      -- the set itself, where no later one has more welfare
      chosen : (r : List Bool) → BestIn l r → lawful day s ≡ true → welfare day r ≤ welfare day s → BestIn (s ∷ l) s
      chosen r b law le = record {
        size = n.0;
        is_lawful = law;
        wins = (λ _. (omega arith, λ _. holds_same s), merge l b.wins o.0);
      }
        where
          merge : (m : List (List Bool)) → All (Wins day r) m → All (HoldsLowest s) m → All (Wins day s) m
          merge [] a h = tt
          merge (t ∷ m) a h = ((λ e. (omega (arith, (a.0 e).0), λ _. h.0)), merge m a.1 h.1)

      later : (r : List Bool) → BestIn l r → (lawful day s ≡ true → welfare day s < welfare day r) → BestIn (s ∷ l) r
      later r b less = record {
        size = b.size;
        is_lawful = b.is_lawful;
        wins = (λ e. (omega (arith, less e), λ z. absurd (omega (arith, less e))), b.wins);
      }

      go : (r : List Bool) → BestIn l r → BestIn (s ∷ l) (prefer day s r)
      go r b =
          by-test (λ t. BestIn (s ∷ l) (cond (t && leb (welfare day r) (welfare day s)) s r)) (lawful day s)
          (λ law. by_le (λ t. BestIn (s ∷ l) (cond t s r)) (welfare day r) (welfare day s) (chosen r b law) (λ k. later r b (λ _. k)))
          (λ not. later r b (λ law. clash law not))

  -- THE OUTCOME is the first of the best
  pub outcome-first : FirstBest day (outcome day)
  unfolding outcome
  outcome-first =
      let b = best-in (all_sets N) (sets-length N) (sets-ordered N) in
      record {
        of_blocks = b.size;
        is_lawful = b.is_lawful;
        wins = λ other e. all-sets (Wins day (best_of day (all_sets N))) N b.wins other e;
      }

  pub outcome-is : (set : List Bool) → FirstBest day set → outcome day ≡ set
  outcome-is set f = first-unique day (outcome day) set outcome-first f

-- DEMAND 3 SETTLES WHAT IS PUBLISHED: two outcomes that beat all have one set and one welfare
pub best-unique : (day : Day) (a b : List Bool) (qa qb : List ℕ) (wa wb : ℕ) → BeatsAll day a qa wa → BeatsAll day b qb wb → (a ≡ b) × (wa ≡ wb)
best-unique day a b qa qb wa wb f g =
    let same : wa ≡ wb = omega (arith, f.counted, g.counted, f.none_above b qb g.contends, g.none_above a qa f.contends) in
    let ab = f.on_tie b qb g.contends (omega (arith, g.counted)) in
    let ba = g.on_tie a qa f.contends (omega (arith, f.counted)) in
    (holds-both a b (f.contends.of_blocks ∙ sym g.contends.of_blocks) ab ba, same)
