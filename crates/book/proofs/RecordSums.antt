-- A SUM OVER THE RECORDS IS THE SUM OVER THE CHAINS: of an accepted book every record from 1 to R − 1 stands on exactly one chain, once. For any number of a
-- record, and for one by its kind. Assumes nothing.
use Prim.Native.Nat.{ℕ, ◌+◌, ◌-◌, ◌≤◌}
use mathlib.Core.Bool.{Bool, true, false, cond, not, ◌||◌}
use mathlib.Core.Path.{◌≡◌, refl, sym}
use mathlib.Core.List.{List, [], ◌∷◌}
use native.Mathlib.Omega.{arith}
use borrow.Author.Tests.{eq-eqb, ne_eqb, eqb-true}
use lib.Dec.{eqb}
use Rattle.records.specs.Layout.{step_kind, block_kind}
use Rattle.records.specs.Records.{record_count, kind}
use Rattle.rules.specs.Hour.{when}
use Rattle.rules.specs.Day.{sum_to}
use Rattle.rules.proofs.Tests.{clash}
use Rattle.rules.proofs.HourSums.{sum_to-in, sum_to-same, sum_to-add, sum_to-zero, sum_to-once}
use Rattle.fields.specs.Tests.{some_in, member}
use Rattle.chains.specs.Chains.{step_order, block_order, link_order}
use Rattle.book.specs.Refusals.{Accepted}
use Rattle.chains.proofs.Members.{Each, each_map, Distinct}
use Rattle.book.proofs.Accepted.{steps-distinct, blocks-distinct, links-distinct, one-chain, link-only}
use Rattle.book.proofs.Accepted.{StepRecord, BlockRecord, LinkRecord, step-records, block-records, link-records}

-- The sum of a number of each of the records l.
abbrev pub sum_over : (ℕ → ℕ) → List ℕ → ℕ
sum_over f [] = 0
sum_over f (k ∷ l) = f k + sum_over f l

pub sum-over-same : (f g : ℕ → ℕ) (l : List ℕ) → Each (λ k. f k ≡ g k) l → sum_over f l ≡ sum_over g l
sum-over-same f g [] e = refl
sum-over-same f g (k ∷ l) e = omega (arith, e.0, sum-over-same f g l e.1)

-- ONE CHAIN: over the numbers 1 to n, those that are members of a list of distinct ones
module _ (n : ℕ) (f : ℕ → ℕ) where
  -- one member more
  first-apart : (x : ℕ) (l : List ℕ) → member x l ≡ false → (k : ℕ) →
      when (eqb k x || member k l) (f k) ≡ when (eqb x k) (f x) + when (member k l) (f k)
  first-apart x l apart k = at (eqb k x) refl
    where
      at : (same : Bool) → eqb k x ≡ same → when (same || member k l) (f k) ≡ when (eqb x k) (f x) + when (member k l) (f k)
      at true e = let s : k ≡ x = eqb-true k x e in rw (s, eq-eqb x x refl, apart) (omega arith)
      at false e = rw (ne_eqb x k (λ s. clash (eq-eqb k x (sym s)) e)) (omega arith)

  pub sum-members : (l : List ℕ) → Distinct l → Each (λ k. (1 ≤ k) × (k ≤ n)) l → sum_to n (λ k. when (member k l) (f k)) ≡ sum_over f l
  unfolding some_in
  sum-members [] d e = sum_to-zero n
  sum-members (x ∷ l) d e =
      omega (
        arith,
        sum_to-same n (λ k. when (member k (x ∷ l)) (f k)) (λ k. when (eqb x k) (f x) + when (member k l) (f k)) (first-apart x l d.0),
        sum_to-add n (λ k. when (eqb x k) (f x)) (λ k. when (member k l) (f k)),
        sum_to-once n x (λ k. when (eqb x k) (f x)) e.0.0 e.0.1 (λ k other. rw (ne_eqb x k other)),
        own,
        sum-members l d.1 e.1,
      )
    where
      own : when (eqb x x) (f x) ≡ f x
      own = rw (eq-eqb x x refl)

-- ALL CHAINS
module _ (b : List ℕ) (a : Accepted b) where
  -- a record is on exactly one of them
  on_one : (f : ℕ → ℕ) (k : ℕ) → 1 ≤ k → k ≤ record_count b - 1 →
      f k ≡ when (member k (step_order b)) (f k) + when (member k (block_order b)) (f k) + when (member k (link_order b)) (f k)
  on_one f k first last =
      at (member k (block_order b)) (member k (link_order b)) (one-chain b a k first (omega arith)) (λ e. (link-only b a k e).1) refl refl
    where
      at : (t u : Bool) → member k (step_order b) ≡ not (t || u) → (member k (link_order b) ≡ true → member k (block_order b) ≡ false) →
          member k (block_order b) ≡ t → member k (link_order b) ≡ u → f k ≡ when (member k (step_order b)) (f k) + when t (f k) + when u (f k)
      at true true s apart x y = clash x (apart y)
      at true false s apart x y = rw s (omega arith)
      at false true s apart x y = rw s (omega arith)
      at false false s apart x y = rw s (omega arith)

  steps-inside : Each (λ k. (1 ≤ k) × (k ≤ record_count b - 1)) (step_order b)
  steps-inside = each_map (StepRecord b) _ (step_order b) (λ k r. (r.positive, omega (arith, r.inside))) (step-records b a)

  blocks-inside : Each (λ k. (1 ≤ k) × (k ≤ record_count b - 1)) (block_order b)
  blocks-inside = each_map (BlockRecord b) _ (block_order b) (λ k r. (r.positive, omega (arith, r.inside))) (block-records b a)

  links-inside : Each (λ k. (1 ≤ k) × (k ≤ record_count b - 1)) (link_order b)
  links-inside = each_map (LinkRecord b) _ (link_order b) (λ k r. (r.positive, omega (arith, r.inside))) (link-records b a)

  pub sum-over-records : (f : ℕ → ℕ) → sum_to (record_count b - 1) f ≡ sum_over f (step_order b) + sum_over f (block_order b) + sum_over f (link_order b)
  sum-over-records f =
      let n = record_count b - 1 in
      let steps : ℕ → ℕ = λ k. when (member k (step_order b)) (f k) in
      let blocks : ℕ → ℕ = λ k. when (member k (block_order b)) (f k) in
      let links : ℕ → ℕ = λ k. when (member k (link_order b)) (f k) in
      omega (
        arith,
        sum_to-in n f (λ k. steps k + blocks k + links k) (on_one f),
        sum_to-add n (λ k. steps k + blocks k) links,
        sum_to-add n steps blocks,
        sum-members n f (step_order b) (steps-distinct b a) steps-inside,
        sum-members n f (block_order b) (blocks-distinct b a) blocks-inside,
        sum-members n f (link_order b) (links-distinct b a) links-inside,
      )

-- BY KIND
-- A number of a record by its kind: of a step, of a block, of a link.
abbrev pub by_kind : (kind ofStep ofBlock ofLink : ℕ) → ℕ
by_kind kind ofStep ofBlock ofLink = cond (eqb kind step_kind) ofStep (cond (eqb kind block_kind) ofBlock ofLink)

pub sum-by-kind : (b : List ℕ) → Accepted b → (f g h : ℕ → ℕ) →
    sum_to (record_count b - 1) (λ k. by_kind (kind b k) (f k) (g k) (h k)) ≡ sum_over f (step_order b) + sum_over g (block_order b) + sum_over h (link_order b)
sum-by-kind b a f g h =
    let number : ℕ → ℕ = λ k. by_kind (kind b k) (f k) (g k) (h k) in
    omega (
      arith,
      sum-over-records b a number,
      sum-over-same number f (step_order b) (each_map (StepRecord b) _ (step_order b) (λ k r. rw r.of_kind) (step-records b a)),
      sum-over-same number g (block_order b) (each_map (BlockRecord b) _ (block_order b) (λ k r. rw r.of_kind) (block-records b a)),
      sum-over-same number h (link_order b) (each_map (LinkRecord b) _ (link_order b) (λ k r. rw r.of_kind) (link-records b a)),
    )
