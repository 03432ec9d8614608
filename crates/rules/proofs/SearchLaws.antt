-- M9, the search's side: decide the blocks one after another, each first taken and then left out; carry `need`, the welfare that a set must still
-- reach, and the answer in hand; drop a branch that cannot reach it. Whatever sound test drops branches, and from whatever lawful set's welfare
-- `need` starts, the answer is the best of all sets. Assumes nothing.
use Prim.Native.Nat.{ℕ, zero, suc, ◌≤◌, ◌<◌}
use mathlib.Core.Bool.{Bool, true, false, cond, ◌&&◌}
use mathlib.Core.Path.{◌≡◌, refl, sym, ap, ◌∙◌}
use mathlib.Core.List.{List, [], ◌∷◌, ◌++◌, append-nil, append_assoc}
use mathlib.Core.Logic.{◌⊎◌, inl, inr}
use native.Mathlib.Omega.{arith}
use native.Mathlib.Nat.{suc_inj, eq-or-lt_of_le}
use lib.Dec.{leb, ltb}
use lib.ListN.{length}
use borrow.Author.Tests.{ltb-true}
use Rattle.rules.specs.Day.{Day, lawful, welfare}
use Rattle.rules.specs.Outcome.{outcome}
use Rattle.rules.specs.Contender.{HoldsLowest, PricesInRange, HoursInRange}
use Rattle.rules.proofs.Tests.{by-test, by_le, clash}
use Rattle.rules.proofs.BestLaws.{holds_same, FirstBest, outcome-is}
use Rattle.rules.proofs.DayLaws.{empty-lawful}

-- the welfare that a set must still reach, and the answer in hand
pub record Hand : Type 0 where
  pub need : ℕ
  pub set : List Bool

-- a lawful set that reaches the need becomes the answer, and the next one must pass it
abbrev pub reach : Day → List Bool → Hand → Hand
reach day set hand = cond (lawful day set && leb hand.need (welfare day set)) (record { need = suc (welfare day set); set = set }) hand

-- n further blocks to decide after those decided; a branch is dropped where the test says so
unfoldable pub search : Day → (ℕ → List Bool → ℕ → Bool) → ℕ → List Bool → Hand → Hand
search day drops zero decided hand = reach day decided hand
search day drops (suc n) decided hand =
    cond (drops (suc n) decided hand.need) hand
    (search day drops n (decided ++ (false ∷ [])) (search day drops n (decided ++ (true ∷ [])) hand))

-- a test is sound: it drops only branches in which no lawful set reaches the need
abbrev pub Sound : Day → (ℕ → List Bool → ℕ → Bool) → Type 0
Sound day drops = (n : ℕ) (d : List Bool) (need : ℕ) → drops n d need ≡ true →
    (s : List Bool) → length s ≡ n → lawful day (d ++ s) ≡ true → welfare day (d ++ s) < need

-- a bound below the need is a sound test
pub bound-sound : (day : Day) (bound : List Bool → ℕ) → ((d s : List Bool) → lawful day (d ++ s) ≡ true → welfare day (d ++ s) ≤ bound d) →
    Sound day (λ n d need. ltb (bound d) need)
bound-sound day bound above n d need e s l law = omega (arith, ltb-true (bound d) need e, above d s law)

pub decided-next : (d : List Bool) (x : Bool) (s : List Bool) → (d ++ (x ∷ [])) ++ s ≡ d ++ (x ∷ s)
decided-next d x s = append_assoc d (x ∷ []) s

-- lawful with one more decision, before it or after it
pub law-in : (day : Day) (d : List Bool) (x : Bool) (t : List Bool) → lawful day (d ++ (x ∷ t)) ≡ true → lawful day ((d ++ (x ∷ [])) ++ t) ≡ true
law-in day d x t law = rw decided-next law

-- no block is left to decide
pub none_more : (d t : List Bool) → length t ≡ 0 → d ++ t ≡ d
none_more d [] l = rw append-nil
none_more d (x ∷ t) l = absurd (omega arith)

pub holds-first : (d s t : List Bool) → HoldsLowest (d ++ (true ∷ s)) (d ++ (false ∷ t))
holds-first [] s t = tt
holds-first (true ∷ d) s t = holds-first d s t
holds-first (false ∷ d) s t = holds-first d s t

-- the answer is a completion of the decided blocks d by n more, lawful, and first among those of its welfare
pub record Reached (day : Day) (n : ℕ) (d : List Bool) (r : Hand) : Type 0 where
  pub rest : List Bool
  pub size : length rest ≡ n
  pub is : r.set ≡ d ++ rest
  pub is_lawful : lawful day (d ++ rest) ≡ true
  pub passed : r.need ≡ suc (welfare day (d ++ rest))
  pub on_tie : (t : List Bool) → length t ≡ n → lawful day (d ++ t) ≡ true → suc (welfare day (d ++ t)) ≡ r.need → HoldsLowest (d ++ rest) (d ++ t)

-- what a branch makes of the answer in hand
pub record Searched (day : Day) (n : ℕ) (d : List Bool) (hand r : Hand) : Type 0 where
  pub no_less : hand.need ≤ r.need
  pub below : (t : List Bool) → length t ≡ n → lawful day (d ++ t) ≡ true → welfare day (d ++ t) < r.need
  pub kept : r.need ≡ hand.need → r ≡ hand
  pub better : hand.need < r.need → Reached day n d r

module _ (day : Day) where
  -- a branch in which nothing reaches the need
  pub nothing-reached : (n : ℕ) (d : List Bool) (hand : Hand) →
      ((t : List Bool) → length t ≡ n → lawful day (d ++ t) ≡ true → welfare day (d ++ t) < hand.need) → Searched day n d hand hand
  nothing-reached n d hand h = record { no_less = omega arith; below = h; kept = λ _. refl; better = λ k. absurd (omega arith) }

  -- all blocks decided
  pub set_decided : (d : List Bool) (hand : Hand) → Searched day 0 d hand (reach day d hand)
  set_decided d hand =
      by-test (λ u. Searched day 0 d hand (cond (u && leb hand.need (welfare day d)) (record { need = suc (welfare day d); set = d }) hand))
      (lawful day d) lawfully
      (λ e. nothing-reached 0 d hand (λ t l law. clash (rw (none_more d t l) at law) e))
    where
      lawfully : lawful day d ≡ true →
          Searched day 0 d hand (cond (leb hand.need (welfare day d)) (record { need = suc (welfare day d); set = d }) hand)
      lawfully law =
          by_le (λ u. Searched day 0 d hand (cond u (record { need = suc (welfare day d); set = d }) hand)) hand.need (welfare day d)
          (λ k. record {
            no_less = omega arith;
            below = λ t l f. omega (arith, ap (welfare day) (none_more d t l));
            kept = λ z. absurd (omega arith);
            better = λ _. record {
              rest = [];
              size = refl;
              is = rw append-nil refl;
              is_lawful = rw append-nil law;
              passed = rw append-nil refl;
              on_tie = λ t l f e. rw (append-nil, none_more d t l) (holds_same d);
            };
          })
          (λ k. nothing-reached 0 d hand (λ t l f. omega (arith, ap (welfare day) (none_more d t l))))

  -- one block decided, first taken and then left out
  pub block-decided : (n : ℕ) (d : List Bool) (hand m r : Hand) →
      Searched day n (d ++ (true ∷ [])) hand m → Searched day n (d ++ (false ∷ [])) m r → Searched day (suc n) d hand r
  block-decided n d hand m r a b =
      record { no_less = omega (arith, a.no_less, b.no_less); below = all; kept = same; better = λ k. new k (eq-or-lt_of_le b.no_less) }
    where
      all : (t : List Bool) → length t ≡ suc n → lawful day (d ++ t) ≡ true → welfare day (d ++ t) < r.need
      all [] l law = absurd (omega arith)
      all (true ∷ t) l law = omega (arith, b.no_less, rw (decided-next d true t) at (a.below t (suc_inj l) (law-in day d true t law)))
      all (false ∷ t) l law = rw (decided-next d false t) at (b.below t (suc_inj l) (law-in day d false t law))

      same : r.need ≡ hand.need → r ≡ hand
      same e = b.kept (omega (arith, a.no_less, b.no_less)) ∙ a.kept (omega (arith, a.no_less, b.no_less))

      left_out : m.need < r.need → Reached day n (d ++ (false ∷ [])) r → Reached day (suc n) d r
      left_out k f = record {
        rest = false ∷ f.rest;
        size = ap suc f.size;
        is = rw decided-next at f.is;
        is_lawful = rw decided-next at f.is_lawful;
        passed = rw decided-next at f.passed;
        on_tie = ties;
      }
        where
          ties : (t : List Bool) → length t ≡ suc n → lawful day (d ++ t) ≡ true → suc (welfare day (d ++ t)) ≡ r.need →
              HoldsLowest (d ++ (false ∷ f.rest)) (d ++ t)
          ties [] l law e = absurd (omega arith)
          ties (true ∷ t) l law e =
              absurd (omega (arith, rw (decided-next d true t) at (a.below t (suc_inj l) (law-in day d true t law))))
          ties (false ∷ t) l law e =
              rw (decided-next d false f.rest, decided-next d false t) at
              (f.on_tie t (suc_inj l) (law-in day d false t law) (rw decided-next e))

      taken-first : Reached day n (d ++ (true ∷ [])) r → Reached day (suc n) d r
      taken-first f = record {
        rest = true ∷ f.rest;
        size = ap suc f.size;
        is = rw decided-next at f.is;
        is_lawful = rw decided-next at f.is_lawful;
        passed = rw decided-next at f.passed;
        on_tie = ties;
      }
        where
          ties : (t : List Bool) → length t ≡ suc n → lawful day (d ++ t) ≡ true → suc (welfare day (d ++ t)) ≡ r.need →
              HoldsLowest (d ++ (true ∷ f.rest)) (d ++ t)
          ties [] l law e = absurd (omega arith)
          ties (true ∷ t) l law e =
              rw (decided-next d true f.rest, decided-next d true t) at
              (f.on_tie t (suc_inj l) (law-in day d true t law) (rw decided-next e))
          ties (false ∷ t) l law e = holds-first d f.rest t

      new : hand.need < r.need → (m.need ≡ r.need) ⊎ (m.need < r.need) → Reached day (suc n) d r
      new k (inl e) = taken-first (rw (sym (b.kept (sym e))) at (a.better (omega arith)))
      new k (inr l) = left_out l (b.better l)

  -- THE SEARCH, with any sound test
  pub searched : (drops : ℕ → List Bool → ℕ → Bool) → Sound day drops → (n : ℕ) (d : List Bool) (hand : Hand) →
      Searched day n d hand (search day drops n d hand)
  unfolding search
  searched drops sound zero d hand = set_decided d hand
  searched drops sound (suc n) d hand =
      by-test
      (λ u. Searched day (suc n) d hand (cond u hand (search day drops n (d ++ (false ∷ [])) (search day drops n (d ++ (true ∷ [])) hand))))
      (drops (suc n) d hand.need)
      (λ e. nothing-reached (suc n) d hand (sound (suc n) d hand.need e))
      (λ e. block-decided n d hand _ _ (searched drops sound n (d ++ (true ∷ [])) hand) (searched drops sound n (d ++ (false ∷ [])) _))

  -- what searches all blocks, from a need that some lawful set has for its welfare, has found the first of the best
  pub searched-first : (hand r : Hand) → Searched day (length day.blocks) [] hand r →
      (set : List Bool) → length set ≡ length day.blocks → lawful day set ≡ true → hand.need ≤ welfare day set → FirstBest day r.set
  searched-first hand r f set l law reaches =
      let g = f.better (omega (arith, f.below set l law)) in
      rw g.is record {
        of_blocks = g.size;
        is_lawful = g.is_lawful;
        wins = λ other k e. (omega (arith, f.below other k e, g.passed), λ z. g.on_tie other k e (omega (arith, g.passed)));
      }

-- M9: THE SEARCH GIVES THE BEST OF ALL SETS, started from the welfare of any lawful set
pub search-is-best : (day : Day) → PricesInRange day.steps → HoursInRange day.steps →
    (drops : ℕ → List Bool → ℕ → Bool) → Sound day drops →
    (set : List Bool) → length set ≡ length day.blocks → lawful day set ≡ true →
    (search day drops (length day.blocks) [] record { need = welfare day set; set = set }).set ≡ outcome day
search-is-best day prices hours drops sound set l law =
    sym (outcome-is day (empty-lawful day prices hours) _
    (searched-first day _ _ (searched day drops sound (length day.blocks) [] record { need = welfare day set; set = set }) set l law (omega arith)))
