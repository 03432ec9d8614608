-- A BRANCH EXPLORED, one law for each way out: it is dropped, decided, or its next block is taken and left out, or only one of the two. Assumes nothing.
use Prim.Native.Nat.{ℕ, suc, ◌+◌, ◌-◌, ◌*◌, ◌/◌, ◌%◌, ◌^◌, ◌≤◌, ◌<◌}
use mathlib.Core.Path.{◌≡◌, refl, ◌∙◌}
use mathlib.Core.List.{List, [], ◌∷◌, ◌++◌}
use mathlib.Core.Bool.{Bool, true, false, not, ◌||◌}
use native.Mathlib.Omega.{arith}
use mathlib.Core.Logic.{◌⊎◌, inl, inr}
use native.Mathlib.Nat.{eq-or-lt_of_le}
use Rattle.std.specs.Prelude.{Some}
use lib.Dec.{eqb}
use lib.ListN.{length, length-append}
use lib.Pow.{pow-add, pow_mono}
use borrow.Author.Tests.{eqb-false, not-true}
use Rattle.rules.specs.Orders.{Step}
use Rattle.rules.specs.Day.{Day, decisions}
use Rattle.rules.proofs.Tests.{by-test, both}
use Rattle.rules.proofs.CostSearchLaws as by-cost
use Rattle.rules.proofs.TwinLaws.{turn-taken}
use Rattle.places.specs.Layout.{most_loss}
use Rattle.places.specs.Blocks.{behind_at}
use Rattle.places.specs.Reach.{is_out}
use Rattle.branches.specs.Tables.{Tables}
use Rattle.branches.specs.Decisions.{is_barred, is_due}
use Rattle.branches.specs.Meaning.{cost_above, At, DroppedFrom, JudgedFrom, TakenTo, LeftTo}
use Rattle.branches.specs.declared.Node.{Node}
use Rattle.branches.proofs.SetLaws.{decided-bit}
use Rattle.branches.proofs.NextLaws.{out-not, barred-not, at-taken, at_left}
use Rattle.rivals.specs.Rivals.{Rivalled}
use Rattle.search.specs.Meaning.{cost_limit, limit_at, Held, Kept, DayOf, Sought, Outcome, Decided, ExploredFrom}
use Rattle.search.proofs.LimitLaws.{loses-costs, lower-limit}
use Rattle.search.proofs.DecidedLaws.{as_it_was}
use Rattle.search.specs.declared.Best.{Best}

-- a unit of fuel is spent
abbrev pub spent : Best → Best
spent m = record { limit = m.limit; tie = m.tie; fuel = m.fuel - 1; set = m.set; day = m.day }

-- WHAT IS KEPT by one more block
pub kept-longer : (left : ℕ) (best r : Best) → 0 < left → Kept (left - 1) best r → Kept left best r
kept-longer left best r pos kept =
    let grows : 2 ^ (left - 1) ≤ 2 ^ left = pow_mono {i = left - 1} {j = left} (omega arith) in
    record { no_more = kept.no_more; tie_fits = kept.tie_fits; fuel_falls = kept.fuel_falls; fuel_spent = omega (arith, kept.fuel_spent) }

pub kept-joined : (left : ℕ) (best m r : Best) → 0 < left → 0 < m.fuel → Kept (left - 1) best m → Kept (left - 1) (spent m) r → Kept left best r
kept-joined left best m r pos some a b =
    let two : 1 + (left - 1) ≡ left = omega arith in
    let twice : 2 ^ left ≡ 2 * 2 ^ (left - 1) = rw two at (pow-add 2 1 (left - 1)) in
    record {
      no_more = omega (arith, a.no_more, b.no_more);
      tie_fits = b.tie_fits;
      fuel_falls = omega (arith, a.fuel_falls, b.fuel_falls);
      fuel_spent = omega (arith, a.fuel_spent, b.fuel_spent);
    }

-- what is kept is held, also with a unit of fuel spent
pub held-spent : (left : ℕ) (best m : Best) → Held best → Kept left best m → Held (spent m)
held-spent left best m held kept =
    record { limit_fits = omega (arith, held.limit_fits, held.tie_fits, kept.no_more, kept.tie_fits); tie_fits = kept.tie_fits }

-- A BRANCH
module _ {tables : Tables} where
  -- it is dropped
  pub explored-dropped : {steps : ℕ → List Step} {left out limit : ℕ} {node : Node} {best : Best} → best.tie ≤ most_loss →
      limit ≡ limit_at best.limit best.tie node.tie → DroppedFrom tables left out node limit → ExploredFrom tables steps left out node best best
  explored-dropped {node = node} {best} small is dropped day p rest d same at =
      as_it_was (λ t l law _. loses-costs day p rest tables.blocks d node best at.tie_is small t ((rw is at dropped) day p rest d t at l law))

  -- it is judged: what is out of it then
  pub explored-judged : {steps : ℕ → List Step} {left out limit outs : ℕ} {node : Node} {best r : Best} →
      limit ≡ limit_at best.limit best.tie node.tie → JudgedFrom tables left out node limit (Some outs) →
      ExploredFrom tables steps left outs node best r → ExploredFrom tables steps left out node best r
  explored-judged is judged f day p rest d same at =
      f day p rest d same record {
        known = at.known;
        turning = at.turning;
        branch = at.branch;
        tie_is = at.tie_is;
        closed = at.closed;
        size = at.size;
        out_of = (rw is at judged) day p rest d at;
      }

  -- no block is left
  pub explored-decided : {steps : ℕ → List Step} {left out : ℕ} {node : Node} {best r : Best} → left ≡ 0 → node.set < 2 ^ tables.count →
      Decided tables steps node best r → ExploredFrom tables steps left out node best r
  explored-decided e room f day p rest d same at =
      rw e (f day p rest d same at.known at.branch at.tie_is at.closed (omega (arith, at.size)) room)

  -- it has a rival: none of its completions is sought
  pub explored-rivalled : {steps : ℕ → List Step} {left out : ℕ} {node : Node} {best : Best} → Rivalled tables left node →
      ExploredFrom tables steps left out node best best
  explored-rivalled {left = left} {out} rivalled day p rest d same at =
      as_it_was (λ t l law sought.
      let other = rivalled _ out day p rest d t at l law in
      absurd (omega (arith, other.less, sought.cheapest other.other other.size other.is_lawful)))

  module _ {left out : ℕ} {node : Node} (best : Best) (pos : 0 < left) (le : left ≤ tables.count)
      (room : node.set < 2 ^ (tables.count - left)) (small : best.tie ≤ most_loss) where
    -- the branches of its next block, at limits that are no higher
    with-taken : {taken-node : Node} → is_barred tables.blocks (tables.count - left) node.set ≡ false →
        TakenTo tables.blocks (tables.count - left) node taken-node → {day : Day} {p rest : ℕ → ℕ} {d : List Bool} →
        At tables left node (limit_at best.limit best.tie node.tie) out day p rest d →
        At tables (left - 1) taken-node (limit_at best.limit best.tie taken-node.tie) (out / 2) day p rest (d ++ (true ∷ []))
    with-taken {taken-node} free t at =
        at-taken pos le room at (limit_at best.limit best.tie taken-node.tie) free t
        (lower-limit best best node taken-node small small (omega arith) (omega (arith, t.tie_is)))

    with-left : {left-node : Node} (m : Best) → m.tie ≤ most_loss → cost_limit m ≤ cost_limit best →
        LeftTo tables.blocks (tables.count - left) node left-node → {day : Day} {p rest : ℕ → ℕ} {d : List Bool} →
        At tables left node (limit_at best.limit best.tie node.tie) out day p rest d →
        At tables (left - 1) left-node (limit_at m.limit m.tie left-node.tie) (out / 2) day p rest (d ++ (false ∷ []))
    with-left {left-node} m small' lower l at =
        at_left pos le room at (limit_at m.limit m.tie left-node.tie) l
        (lower-limit best m node left-node small small' lower (omega (arith, l.tie_is)))

    -- a block is taken, and then left out with the best of that
    pub explored-both : {steps : ℕ → List Step} {taken-node left-node : Node} {m r : Best} → is_barred tables.blocks (tables.count - left) node.set ≡ false →
        TakenTo tables.blocks (tables.count - left) node taken-node → LeftTo tables.blocks (tables.count - left) node left-node →
        0 < m.fuel → Kept (left - 1) best m → Kept (left - 1) (spent m) r →
        ExploredFrom tables steps (left - 1) (out / 2) taken-node best m →
        ExploredFrom tables steps (left - 1) (out / 2) left-node (spent m) r →
        ExploredFrom tables steps left out node best r
    explored-both {m = m} {r} free t l some kept kept' f g day p rest d same at =
        let a = f day p rest (d ++ (true ∷ [])) same (with-taken free t at) in
        let b = g day p rest (d ++ (false ∷ [])) same (with-left (spent m) kept.tie_fits kept.no_more l at) in
        let one : suc (left - 1) ≡ left = omega arith in
        let lower₁ = kept.no_more in
        let lower₂ = kept'.no_more in
        record {
          explored = λ fuel. rw one at (by-cost.joined day (Sought day p rest tables) (cost_above day p rest tables.blocks) (left - 1) d _ _ _
              (a.explored some) (b.explored fuel));
          same = λ e.
              let first = a.same (omega arith) in
              let second = b.same (omega arith) in
              (second.0 ∙ first.0, second.1 ∙ first.1);
          found = λ less. by-which less a b lower₂ (eq-or-lt_of_le lower₂);
        }
      where
        by-which : {day : Day} {p rest : ℕ → ℕ} {dt dl : List Bool} → cost_limit r < cost_limit best →
            Outcome day p rest tables (left - 1) dt best m → Outcome day p rest tables (left - 1) dl (spent m) r → cost_limit r ≤ cost_limit m →
            (cost_limit r ≡ cost_limit m) ⊎ (cost_limit r < cost_limit m) → (r.set < 2 ^ tables.count) × DayOf day (decisions tables.count r.set) r.day
        by-which less a b le (inl e) = rw ((b.same e).0, (b.same e).1) (a.found (omega arith))
        by-which less a b le (inr e) = b.found e

    -- it is taken, and no fuel is left to leave it out
    pub explored-spent : {steps : ℕ → List Step} {taken-node : Node} {m : Best} → is_barred tables.blocks (tables.count - left) node.set ≡ false →
        TakenTo tables.blocks (tables.count - left) node taken-node → m.fuel ≡ 0 →
        ExploredFrom tables steps (left - 1) (out / 2) taken-node best m → ExploredFrom tables steps left out node best m
    explored-spent free t none f day p rest d same at =
        let a = f day p rest (d ++ (true ∷ [])) same (with-taken free t at) in
        record { explored = λ fuel. absurd (omega arith); same = a.same; found = a.found }

    -- it is only left out
    pub explored-left : {steps : ℕ → List Step} {left-node : Node} {r : Best} →
        (is_out out 0 || is_barred tables.blocks (tables.count - left) node.set) ≡ true → LeftTo tables.blocks (tables.count - left) node left-node →
        ExploredFrom tables steps (left - 1) (out / 2) left-node best r → ExploredFrom tables steps left out node best r
    explored-left barred l g day p rest d same at =
        let here : tables.count - left ≡ length d = omega (arith, at.size) in
        let b = g day p rest (d ++ (false ∷ [])) same (with-left best small (omega arith) l at) in
        let one : suc (left - 1) ≡ left = omega arith in
        record {
          explored = λ fuel. rw one at (by-cost.only-left day (Sought day p rest tables) (cost_above day p rest tables.blocks) (left - 1) d _ _
              (λ t lt law sought. by-test (λ u. (u || is_barred tables.blocks (length d) node.set) ≡ true → is_out out 0 ≡ u →
              cost_limit best ≤ cost_above day p rest tables.blocks (d ++ (true ∷ t))) (is_out out 0)
              (λ is _ _. loses-costs day p rest tables.blocks d node best at.tie_is small (true ∷ t) (out-not day p rest d left _ out pos at.out_of is t lt law))
              (λ _ is _. absurd (barred-not at.known at.branch (omega (arith, at.size)) is t
              (omega (arith, length-append d (true ∷ t), at.size)) law sought.in_turn))
              (rw here at barred) refl)
              (b.explored fuel));
          same = b.same;
          found = b.found;
        }

    -- it is only taken
    pub explored-taken : {steps : ℕ → List Step} {taken-node : Node} {r : Best} → is_barred tables.blocks (tables.count - left) node.set ≡ false →
        is_due tables.blocks (tables.count - left) node.set ≡ true → TakenTo tables.blocks (tables.count - left) node taken-node →
        ExploredFrom tables steps (left - 1) (out / 2) taken-node best r → ExploredFrom tables steps left out node best r
    unfolding is_due
    explored-taken free due t f day p rest d same at =
        let here : tables.count - left ≡ length d = omega (arith, at.size) in
        let k : length d < tables.count = omega (arith, at.size) in
        let behind = behind_at tables.blocks (length d) in
        let b = f day p rest (d ++ (true ∷ [])) same (with-taken free t at) in
        let one : suc (left - 1) ≡ left = omega arith in
        let tests = both (not (eqb behind 0)) (eqb (node.set / 2 ^ (behind - 1) % 2) 1) (rw here at due) in
        let some = eqb-false behind 0 (not-true _ tests.0) in
        let is : behind ≡ suc (behind - 1) = omega arith in
        let twin = at.known.behind (length d) (behind - 1) k is in
        let inside = decided-bit at.branch (behind - 1) twin.0 ∙ tests.1 in
        record {
          explored = λ fuel. rw one at (by-cost.only-taken day (Sought day p rest tables) (cost_above day p rest tables.blocks) (left - 1) d _ _
              (λ s _ _ sought. turn-taken day p d (behind - 1) twin.0 twin.1 inside s sought.in_turn) (b.explored fuel));
          same = b.same;
          found = b.found;
        }
