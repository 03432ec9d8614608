-- A RIVAL COSTS LESS: where the tests of a rival pass, each lawful completion of the branch has a lawful set that costs less, the rival's. Assumes nothing.
use Prim.Native.Nat.{ℕ, suc, ◌+◌, ◌-◌, ◌/◌, ◌%◌, ◌^◌, ◌≤◌, ◌<◌}
use mathlib.Core.Bool.{Bool, true, false, not}
use mathlib.Core.List.{List, ◌++◌}
use mathlib.Core.Path.{◌≡◌, refl, sym, ap, ◌∙◌}
use native.Mathlib.Omega.{arith}
use lib.Dec.{eqb}
use lib.ListN.{length, get_or, length-append}
use borrow.Author.Tests.{eq-eqb, ne_eqb}
use Rattle.rules.specs.Day.{Day, decisions, day_sum, lawful}
use Rattle.rules.proofs.Tests.{by-eq, clash}
use Rattle.rules.proofs.LossLaws.{loss_of, bound-with}
use Rattle.rules.proofs.LinkLaws.{Closed}
use Rattle.rules.proofs.TieLaws.{ties, ties-split}
use Rattle.rules.proofs.TwinLaws.{block-at, taken-within}
use Rattle.rules.proofs.SetBits.{bits_at}
use Rattle.rules.proofs.RearrangedLaws.{no_block, block_at}
use Rattle.rules.proofs.RivalLaws.{Outdone, RivalOf, rival-loses, rival-lawful, rival-closed}
use Rattle.places.specs.Blocks.{parent_at, rank_at}
use Rattle.branches.specs.Decisions.{names_left}
use Rattle.branches.specs.Tables.{Tables}
use Rattle.branches.specs.Meaning.{Shown, Branch, loss_above, cost_above, At}
use Rattle.branches.specs.declared.Node.{Node}
use Rattle.branches.proofs.ClosedLaws.{lawful-closed}
use Rattle.branches.proofs.DecisionLaws.{left-some, decisions-long}
use Rattle.branches.proofs.SetLaws.{an-hour, decided-bit, rest_below}
use Rattle.rivals.specs.Rivals.{Cheaper, RivalledIn}
use Rattle.rivals.specs.Tests.{holds, OutdoneAt, HoldsOutdone, HoldsParents, LeavesNoChild, SamePlaces, CostsLess, Replays}

-- a block that is named is left out where its bit is not set
named-bit : (name k set : ℕ) → name ≡ suc k → names_left name set ≡ not (holds set k)
named-bit name k set is =
    let e : name - 1 ≡ k = omega arith in
    sym (left-some name set (λ z. omega arith)) ∙ rw e (by-eq (λ u. eqb (set / 2 ^ k % 2) 0 ≡ not u) (set / 2 ^ k % 2) 1
    (λ one. ne_eqb (set / 2 ^ k % 2) 0 (λ z. omega arith)) (λ z. eq-eqb (set / 2 ^ k % 2) 0 (omega arith)))

-- the answers of a test turned round
not-held : (b : Bool) → not b ≡ false → b ≡ true
not-held true e = refl
not-held false e = clash refl e

-- THE RIVAL OF A BRANCH at its tables
module _ {t : Tables} {left : ℕ} {node other : Node} {rival : ℕ}
    (outdone : HoldsOutdone t.blocks (t.count - left) node.set rival)
    (parents : HoldsParents t.blocks (t.count - left) rival)
    (children : LeavesNoChild t.blocks t.count (t.count - left) node.set rival)
    (replay : Replays t.blocks (t.count - left) rival other)
    (same : SamePlaces node.places other.places) (less : CostsLess other node)
    {limit out : ℕ} {day : Day} {p rest : ℕ → ℕ} {d : List Bool} (at : At t left node limit out day p rest d) where
  decided : t.count - left ≡ length d
  decided = omega (arith, at.size)

  within : length d ≤ t.count
  within = omega (arith, at.size)

  -- its decisions
  abbrev d' : List Bool
  d' = decisions (length d) rival

  long : length d' ≡ length d
  long = decisions-long (length d) rival

  branch' : Branch day p d' other
  branch' = rw decided at (replay.branch day p rest t at.known refl (omega arith))

  tie' : other.tie ≡ ties (rank_at t.blocks) d'
  tie' = rw decided at replay.tie_is

  bit : (j : ℕ) → j < length d → get_or d j false ≡ holds node.set j
  bit j k = decided-bit at.branch j k

  bit' : (j : ℕ) → j < length d → get_or d' j false ≡ holds rival j
  bit' j k = bits_at (length d) rival j k

  -- its blocks
  shown : (j : ℕ) → j < length d → Shown day p t.blocks j
  shown j k = at.known.shown j (omega (arith, within))

  block-is : (j : ℕ) (k : j < length d) → block_at day.blocks j ≡ (shown j k).block
  block-is j k = block-at day.blocks j _ _ no_block (shown j k).next

  outdone-at : (j i : ℕ) → j < length d → i < length d → OutdoneAt t.blocks j i → Outdone day.hours (block_at day.blocks j) (block_at day.blocks i)
  outdone-at j i k m o =
      let b = shown j k in
      let by = shown i m in
      rw (block-is j k, block-is i m) (record {
        same_side = b.side_is ∙ rw o.same_side (sym by.side_is);
        same_runs = λ h. b.runs_is h ∙ rw o.same_hours (sym (by.runs_is h));
        looser = rw (b.side_is, b.limit_is, by.limit_is) o.looser;
      })

  rival-of : RivalOf day d d'
  rival-of = record {
    same_length = long;
    same_places = λ h c.
        let first = c.first in
        let last = c.last in
        sym (branch'.places_are h (an-hour c)) ∙ sym (same (h - 1) (omega arith)) ∙ at.branch.places_are h (an-hour c);
    blocks = λ j k is not_in.
        let o = outdone j (omega (arith, decided)) (sym (bit' j k) ∙ is) (sym (bit j k) ∙ not_in) in
        let m : o.by < length d = omega (arith, o.decided, decided) in
        (o.by, m, bit o.by m ∙ o.held, outdone-at j o.by k m o.outdone);
  }

  -- its links
  named : (j : ℕ) → j < t.count → (k set : ℕ) → at.known.parent j ≡ suc k → names_left (parent_at t.blocks j) set ≡ not (holds set k)
  named j m k set link = named-bit (parent_at t.blocks j) k set (at.known.parent_is j m ∙ link)

  closed' : Closed at.known.parent d'
  closed' j k link is =
      let m : j < length d = omega (arith, taken-within d' j is, long) in
      let below : k < length d = omega (arith, at.known.parents.before j) in
      let held = parents j (omega (arith, decided)) (sym (bit' j m) ∙ is) in
      bit' k below ∙ not-held _ (sym (named j (omega (arith, within)) k rival link) ∙ held)

  no-child : (k : ℕ) → k < length d → get_or d k false ≡ true → get_or d' k false ≡ false →
      (j : ℕ) → length d ≤ j → j < t.count → at.known.parent j ≡ suc k → ⊥
  no-child k m is out j past inside link =
      let gone : names_left (parent_at t.blocks j) rival ≡ true = named j inside k rival link ∙ ap not (sym (bit' k m) ∙ out) in
      let kept : names_left (parent_at t.blocks j) node.set ≡ false = named j inside k node.set link ∙ ap not (sym (bit k m) ∙ is) in
      clash (children j inside (omega (arith, decided)) gone) kept

  -- COMPLETED ALIKE
  module _ (tail : List Bool) (l : length tail ≡ left) (law : lawful day (d ++ tail) ≡ true) where
    whole : length (d ++ tail) ≡ t.count
    whole = length-append d tail ∙ rw l at.size

    whole' : length (d' ++ tail) ≡ t.count
    whole' = length-append d' tail ∙ rw (long, l) at.size

    of_blocks : length (d ++ tail) ≡ length day.blocks
    of_blocks = whole ∙ sym at.known.counted

    closed : Closed at.known.parent (d ++ tail)
    closed = lawful-closed at.known (d ++ tail) whole law

    law' : lawful day (d' ++ tail) ≡ true
    law' =
        rival-lawful day at.known.prices at.known.hours rival-of tail of_blocks
        (at.known.parents.links.allows (d' ++ tail) (whole' ∙ sym at.known.counted)
        (rival-closed at.known.parent d d' tail long closed' closed (λ k m is gone j past inside. no-child k m is gone j past (rw whole at inside))))
        law

    -- what the tables leave off is no more than either loses
    above : day_sum day.hours rest ≤ loss_of day p (d ++ tail)
    above = omega (arith, bound-with day p d tail 0 rest (omega arith) (λ h c. rest_below at.known (d ++ tail) whole law h (an-hour c)))

    above' : day_sum day.hours rest ≤ loss_of day p (d' ++ tail)
    above' = omega (arith, bound-with day p d' tail 0 rest (omega arith) (λ h c. rest_below at.known (d' ++ tail) whole' law' h (an-hour c)))

    apart : loss_above day p rest (d' ++ tail) + node.loss ≡ loss_above day p rest (d ++ tail) + other.loss
    unfolding loss_above
    apart = omega (arith, rival-loses day rival-of tail of_blocks p, at.branch.loss_is, branch'.loss_is, above, above')

    tied : ties (rank_at t.blocks) (d' ++ tail) + node.tie ≡ ties (rank_at t.blocks) (d ++ tail) + other.tie
    tied =
        omega (
          arith,
          rw long at (ties-split (rank_at t.blocks) d' tail),
          ties-split (rank_at t.blocks) d tail,
          at.tie_is,
          tie',
        )

    cheaper : Cheaper day (cost_above day p rest t.blocks) t.count (d ++ tail)
    cheaper = record { other = d' ++ tail; size = whole'; is_lawful = law'; less = omega (arith, apart, tied, less) }

-- A BRANCH WITH A RIVAL, by the tests
pub rivalled : {blocks : List ℕ} {count left : ℕ} {node other : Node} {rival : ℕ} →
    HoldsOutdone blocks (count - left) node.set rival → HoldsParents blocks (count - left) rival →
    LeavesNoChild blocks count (count - left) node.set rival → Replays blocks (count - left) rival other →
    SamePlaces node.places other.places → CostsLess other node → RivalledIn blocks count left node
rivalled {other = other} {rival} outdone parents children replay same less t eb ec limit out day p rest d tail at l law =
    cheaper {t = t} {other = other} {rival = rival} (rw (eb, ec) outdone) (rw (eb, ec) parents) (rw (eb, ec) children) (rw (eb, ec) replay) same less at
    tail l law
