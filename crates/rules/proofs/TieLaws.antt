-- WHAT THE LEFT-OUT BLOCKS COME TO, each by its rank: one number for the tie rule, which a search may add up block by block, in any order of the blocks.
-- With the ranks by number, the highest for the lowest-numbered block and each half the one before, of two sets the one that holds the lowest-numbered
-- block in which they differ comes to less, and two sets that come to the same are one. Assumes nothing.
use Prim.Native.Nat.{ℕ, zero, suc, ◌+◌, ◌-◌, ◌*◌, ◌^◌, ◌≤◌, ◌<◌}
use mathlib.Core.Bool.{Bool, true, false, not}
use mathlib.Core.Path.{◌≡◌, refl, sym, ap, ◌∙◌}
use mathlib.Core.List.{List, [], ◌∷◌, ◌++◌}
use native.Mathlib.Omega.{arith}
use native.Mathlib.Nat.{suc_inj}
use lib.ListN.{length, get_or}
use lib.Pow.{pow_pos}
use Rattle.rules.specs.Hour.{when}
use Rattle.rules.specs.Contender.{HoldsLowest}
use Rattle.rules.proofs.Ranks.{rank_of}
use Rattle.rules.proofs.RearrangedLaws.{by_order, IsOrder, sum_first, sum_same, sum-by-order, length-by, at-by}

-- the ranks of the blocks that a set leaves out, together
unfoldable pub ties : (ℕ → ℕ) → List Bool → ℕ
ties rank [] = 0
ties rank (x ∷ s) = when (not x) (rank 0) + ties (λ j. rank (suc j)) s

-- ranks that agree as far as the set goes
pub ties-same-rank : (rank rank' : ℕ → ℕ) (s : List Bool) → ((j : ℕ) → j < length s → rank j ≡ rank' j) → ties rank s ≡ ties rank' s
unfolding ties
ties-same-rank rank rank' [] same = refl
ties-same-rank rank rank' (x ∷ s) same =
    rw (same 0 (omega arith), ties-same-rank (λ j. rank (suc j)) (λ j. rank' (suc j)) s (λ j k. same (suc j) (omega arith)))

-- DECIDED BLOCKS: a set's ties are those of its decided part and of the rest
pub ties-split : (rank : ℕ → ℕ) (d t : List Bool) → ties rank (d ++ t) ≡ ties rank d + ties (λ j. rank (length d + j)) t
unfolding ties
ties-split rank [] t = omega (arith, ties-same-rank rank (λ j. rank (0 + j)) t (λ j k. ap rank (omega arith)))
ties-split rank (x ∷ d) t =
    omega (
      arith,
      ties-split (λ j. rank (suc j)) d t,
      ties-same-rank (λ j. rank (suc (length d + j))) (λ j. rank (suc (length d) + j)) t (λ j k. ap rank (omega arith)),
    )

-- one decision
module _ (rank : ℕ → ℕ) where
  one-taken : ties rank (true ∷ []) ≡ 0
  unfolding ties
  one-taken = refl

  one_left : ties rank (false ∷ []) ≡ rank 0
  unfolding ties
  one_left = omega arith

-- one more decision: a block that is taken adds nothing
pub ties-taken : (rank : ℕ → ℕ) (d : List Bool) → ties rank (d ++ (true ∷ [])) ≡ ties rank d
ties-taken rank d = omega (arith, ties-split rank d (true ∷ []), one-taken (λ j. rank (length d + j)))

-- and one that is left out adds its rank
pub ties-left : (rank : ℕ → ℕ) (d : List Bool) → ties rank (d ++ (false ∷ [])) ≡ ties rank d + rank (length d)
ties-left rank d =
    let here : rank (length d + 0) ≡ rank (length d) = ap rank (omega arith) in
    omega (arith, ties-split rank d (false ∷ []), one_left (λ j. rank (length d + j)))

-- ranks of at most m come to at most m for each block
pub ties-fit : (rank : ℕ → ℕ) (s : List Bool) (m : ℕ) → ((j : ℕ) → j < length s → rank j ≤ m) → ties rank s ≤ length s * m
unfolding ties
ties-fit rank [] m fits = omega arith
ties-fit rank (true ∷ s) m fits = omega (arith, ties-fit (λ j. rank (suc j)) s m (λ j k. fits (suc j) (omega arith)))
ties-fit rank (false ∷ s) m fits = omega (arith, fits 0 (omega arith), ties-fit (λ j. rank (suc j)) s m (λ j k. fits (suc j) (omega arith)))

-- RANKS THAT HALVE: n of them, the first half of 2 ^ m
abbrev Halve : ℕ → (ℕ → ℕ) → ℕ → Type 0
Halve m rank n = (j : ℕ) → j < n → rank j ≡ 2 ^ (m - suc j)

-- the first, and those after it
first-half : (m : ℕ) (rank : ℕ → ℕ) (n : ℕ) → Halve (suc m) rank (suc n) → rank 0 ≡ 2 ^ m
first-half m rank n halve = let e : suc m - 1 ≡ m = omega arith in rw e at (halve 0 (omega arith))

later : (m : ℕ) (rank : ℕ → ℕ) (n : ℕ) → Halve (suc m) rank (suc n) → Halve m (λ j. rank (suc j)) n
later m rank n halve j k = let e : suc m - suc (suc j) ≡ m - suc j = omega arith in rw e at (halve (suc j) (omega arith))

-- they come to less than 2 ^ m, so to less than the rank before them
below-first : (m : ℕ) (rank : ℕ → ℕ) (s : List Bool) → length s ≤ m → Halve m rank (length s) → ties rank s < 2 ^ m
unfolding ties
below-first m rank [] fits halve = pow_pos m
below-first zero rank (x ∷ s) fits halve = absurd (omega arith)
below-first (suc m) rank (true ∷ s) fits halve =
    omega (arith, below-first m (λ j. rank (suc j)) s (omega arith) (later m rank (length s) halve))
below-first (suc m) rank (false ∷ s) fits halve =
    omega (arith, first-half m rank (length s) halve, below-first m (λ j. rank (suc j)) s (omega arith) (later m rank (length s) halve))

-- the set that holds the lowest block in which two differ comes to less
holds-less : (m : ℕ) (rank : ℕ → ℕ) (s t : List Bool) → length s ≡ length t → length s ≤ m → Halve m rank (length s) → HoldsLowest s t →
    ties rank s ≤ ties rank t
unfolding ties
holds-less m rank [] t e fits halve h = omega arith
holds-less m rank (x ∷ s) [] e fits halve h = absurd (omega arith)
holds-less zero rank (x ∷ s) (y ∷ t) e fits halve h = absurd (omega arith)
holds-less (suc m) rank (true ∷ s) (true ∷ t) e fits halve h =
    omega (arith, holds-less m (λ j. rank (suc j)) s t (suc_inj e) (omega arith) (later m rank (length s) halve) h)
holds-less (suc m) rank (true ∷ s) (false ∷ t) e fits halve h =
    omega (arith, first-half m rank (length s) halve, below-first m (λ j. rank (suc j)) s (omega arith) (later m rank (length s) halve))
holds-less (suc m) rank (false ∷ s) (true ∷ t) e fits halve h = absurd h
holds-less (suc m) rank (false ∷ s) (false ∷ t) e fits halve h =
    omega (arith, holds-less m (λ j. rank (suc j)) s t (suc_inj e) (omega arith) (later m rank (length s) halve) h)

-- two sets that come to the same are one
same-ties : (m : ℕ) (rank : ℕ → ℕ) (s t : List Bool) → length s ≡ length t → length s ≤ m → Halve m rank (length s) → ties rank s ≡ ties rank t → s ≡ t
unfolding ties
same-ties m rank [] [] e fits halve h = refl
same-ties m rank [] (y ∷ t) e fits halve h = absurd (omega arith)
same-ties m rank (x ∷ s) [] e fits halve h = absurd (omega arith)
same-ties zero rank (x ∷ s) (y ∷ t) e fits halve h = absurd (omega arith)
same-ties (suc m) rank (true ∷ s) (true ∷ t) e fits halve h =
    ap (◌∷◌ true) (same-ties m (λ j. rank (suc j)) s t (suc_inj e) (omega arith) (later m rank (length s) halve) (omega arith))
same-ties (suc m) rank (true ∷ s) (false ∷ t) e fits halve h =
    absurd (omega (arith, first-half m rank (length s) halve, below-first m (λ j. rank (suc j)) s (omega arith) (later m rank (length s) halve)))
same-ties (suc m) rank (false ∷ s) (true ∷ t) e fits halve h =
    let less : ties (λ j. rank (suc j)) t < 2 ^ m = below-first m (λ j. rank (suc j)) t (omega arith) (rw (suc_inj e) at (later m rank (length s) halve)) in
    absurd (omega (arith, first-half m rank (length s) halve))
same-ties (suc m) rank (false ∷ s) (false ∷ t) e fits halve h =
    ap (◌∷◌ false) (same-ties m (λ j. rank (suc j)) s t (suc_inj e) (omega arith) (later m rank (length s) halve) (omega arith))

-- THE RANKS BY NUMBER
ranks-halve : (n : ℕ) → Halve 32 rank_of n
unfolding rank_of
ranks-halve n j k = ap (λ e. 2 ^ e) (omega arith)

-- the set that holds the lowest-numbered block in which two differ comes to less, or they are the same set
pub holds-ties : (s t : List Bool) → length s ≡ length t → length s ≤ 32 → HoldsLowest s t → ties rank_of s ≤ ties rank_of t
holds-ties s t e fits h = holds-less 32 rank_of s t e fits (ranks-halve (length s)) h

-- no two sets come to the same
pub ties-apart : (s t : List Bool) → length s ≡ length t → length s ≤ 32 → ties rank_of s ≡ ties rank_of t → s ≡ t
ties-apart s t e fits h = same-ties 32 rank_of s t e fits (ranks-halve (length s)) h

-- as a sum over positions
ties-sum : (rank : ℕ → ℕ) (s : List Bool) → ties rank s ≡ sum_first (length s) (λ j. when (not (get_or s j false)) (rank j))
unfolding ties sum_first
ties-sum rank [] = refl
ties-sum rank (x ∷ s) = omega (arith, ties-sum (λ j. rank (suc j)) s)

-- IN ANOTHER ORDER, with each block's own rank, a set comes to the same
pub ties-rearranged : (n : ℕ) (order place : ℕ → ℕ) → IsOrder n order place → (rank : ℕ → ℕ) (s : List Bool) → length s ≡ n →
    ties (λ j. rank (order j)) (by_order order n s) ≡ ties rank s
ties-rearranged n order place is rank s size =
    ties-sum (λ j. rank (order j)) (by_order order n s)
    ∙ ap (λ m. sum_first m (λ j. when (not (get_or (by_order order n s) j false)) (rank (order j)))) (length-by false order n s)
    ∙ sum_same n (λ j. when (not (get_or (by_order order n s) j false)) (rank (order j))) (λ j. when (not (get_or s (order j) false)) (rank (order j)))
    (λ j k. rw (at-by false order n s j k))
    ∙ sum-by-order n order place is (λ i. when (not (get_or s i false)) (rank i))
    ∙ ap (λ m. sum_first m (λ i. when (not (get_or s i false)) (rank i))) (sym size)
    ∙ sym (ties-sum rank s)
