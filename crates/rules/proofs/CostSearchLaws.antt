-- THE SEARCH BY COST. It decides the blocks one after another, each first taken and then left out; it carries a limit, below which a lawful set's
-- cost must fall, and the answer in hand; it cuts a branch where every lawful completion costs the limit or more, for whatever reason. It may seek only
-- the sets that also meet a condition, `sought`. Each law here is one way to go on, for the proof of a search in code. A pass over all blocks whose limit
-- fell has found the set that costs least of all, whatever limit it began with, where that one is sought and no other costs the same; where the limit stood,
-- no lawful set that is sought costs less. It needs no tie rule: costs settle ties (`TieLaws`). Assumes nothing.
use Prim.Native.Nat.{ℕ, suc, ◌+◌, ◌-◌, ◌≤◌, ◌<◌}
use mathlib.Core.Bool.{Bool, true, false}
use mathlib.Core.Path.{◌≡◌, refl, sym, ap, ◌∙◌}
use mathlib.Core.List.{List, [], ◌∷◌, ◌++◌, append-nil}
use mathlib.Core.Logic.{◌⊎◌, inl, inr}
use native.Mathlib.Omega.{arith}
use native.Mathlib.Nat.{suc_inj, eq-or-lt_of_le}
use lib.ListN.{length}
use Rattle.rules.specs.Day.{Day, lawful, welfare}
use Rattle.rules.specs.Contender.{PricesInRange, HoursInRange}
use Rattle.rules.proofs.SearchLaws.{decided-next, law-in, none_more}
use Rattle.rules.proofs.LossLaws.{loss_of, whole_of, welfare-and-loss}

-- the limit below which a cost must fall, and the answer in hand (of no meaning until the limit has fallen)
pub record Best : Type 0 where
  pub limit : ℕ
  pub set : List Bool

-- the answer is a completion of the decided blocks d by n more, lawful, and it costs the limit
pub record Found (day : Day) (cost : List Bool → ℕ) (n : ℕ) (d : List Bool) (r : Best) : Type 0 where
  pub rest : List Bool
  pub size : length rest ≡ n
  pub is : r.set ≡ d ++ rest
  pub is_lawful : lawful day (d ++ rest) ≡ true
  pub costs : r.limit ≡ cost (d ++ rest)

-- what a branch makes of the best so far
pub record Explored (day : Day) (sought : List Bool → Type 0) (cost : List Bool → ℕ) (n : ℕ) (d : List Bool) (best r : Best) : Type 0 where
  pub no_more : r.limit ≤ best.limit
  pub least : (t : List Bool) → length t ≡ n → lawful day (d ++ t) ≡ true → sought (d ++ t) → r.limit ≤ cost (d ++ t)
  pub kept : r.limit ≡ best.limit → r ≡ best
  pub better : r.limit < best.limit → Found day cost n d r

module _ (day : Day) (sought : List Bool → Type 0) (cost : List Bool → ℕ) where
  -- A CUT: every lawful completion that is sought costs the limit or more
  pub branch-cut : (n : ℕ) (d : List Bool) (best : Best) →
      ((t : List Bool) → length t ≡ n → lawful day (d ++ t) ≡ true → sought (d ++ t) → best.limit ≤ cost (d ++ t)) →
      Explored day sought cost n d best best
  branch-cut n d best h = record { no_more = omega arith; least = h; kept = λ _. refl; better = λ k. absurd (omega arith) }

  -- where no completion is lawful and sought
  pub branch-unlawful : (n : ℕ) (d : List Bool) (best : Best) →
      ((t : List Bool) → length t ≡ n → lawful day (d ++ t) ≡ true → sought (d ++ t) → ⊥) → Explored day sought cost n d best best
  branch-unlawful n d best h = branch-cut n d best (λ t l law is. absurd (h t l law is))

  -- A LEAF: all blocks are decided
  module _ (d : List Bool) (best : Best) where
    -- not lawful, not sought, or it costs no less
    pub leaf-kept : (lawful day d ≡ true → sought d → best.limit ≤ cost d) → Explored day sought cost 0 d best best
    leaf-kept h =
        branch-cut 0 d best (λ t l law is. omega (arith, ap cost (none_more d t l), h (rw (none_more d t l) at law) (rw (none_more d t l) at is)))

    -- lawful and costs less; whether it is sought need not be known
    pub leaf-lowered : lawful day d ≡ true → cost d < best.limit → Explored day sought cost 0 d best record { limit = cost d; set = d }
    leaf-lowered law less = record {
      no_more = omega arith;
      least = λ t l f is. omega (arith, ap cost (none_more d t l));
      kept = λ e. absurd (omega arith);
      better = λ _. record {
        rest = [];
        size = refl;
        is = rw append-nil refl;
        is_lawful = rw append-nil law;
        costs = rw append-nil refl;
      };
    }

  -- A BLOCK DECIDED, first taken and then left out
  pub joined : (n : ℕ) (d : List Bool) (best m r : Best) →
      Explored day sought cost n (d ++ (true ∷ [])) best m → Explored day sought cost n (d ++ (false ∷ [])) m r →
      Explored day sought cost (suc n) d best r
  joined n d best m r a b =
      record { no_more = omega (arith, a.no_more, b.no_more); least = all; kept = unchanged; better = λ k. new k (eq-or-lt_of_le b.no_more) }
    where
      sought-in : (x : Bool) (t : List Bool) → sought (d ++ (x ∷ t)) → sought ((d ++ (x ∷ [])) ++ t)
      sought-in x t is = rw decided-next is

      all : (t : List Bool) → length t ≡ suc n → lawful day (d ++ t) ≡ true → sought (d ++ t) → r.limit ≤ cost (d ++ t)
      all [] l law is = absurd (omega arith)
      all (true ∷ t) l law is =
          omega (arith, b.no_more, rw (decided-next d true t) at (a.least t (suc_inj l) (law-in day d true t law) (sought-in true t is)))
      all (false ∷ t) l law is = rw (decided-next d false t) at (b.least t (suc_inj l) (law-in day d false t law) (sought-in false t is))

      unchanged : r.limit ≡ best.limit → r ≡ best
      unchanged e = b.kept (omega (arith, a.no_more, b.no_more)) ∙ a.kept (omega (arith, a.no_more, b.no_more))

      -- what was found after one more decision
      after : (x : Bool) → Found day cost n (d ++ (x ∷ [])) r → Found day cost (suc n) d r
      after x f = record {
        rest = x ∷ f.rest;
        size = ap suc f.size;
        is = rw decided-next at f.is;
        is_lawful = rw decided-next at f.is_lawful;
        costs = rw decided-next at f.costs;
      }

      new : r.limit < best.limit → (r.limit ≡ m.limit) ⊎ (r.limit < m.limit) → Found day cost (suc n) d r
      new k (inl e) = after true (rw (sym (b.kept e)) at (a.better (omega arith)))
      new k (inr less) = after false (b.better less)

  -- ONE BRANCH SKIPPED
  -- where every lawful completion that is sought and takes the block costs the limit or more, it is left out at once
  pub only-left : (n : ℕ) (d : List Bool) (best r : Best) →
      ((t : List Bool) → length t ≡ n → lawful day (d ++ (true ∷ t)) ≡ true → sought (d ++ (true ∷ t)) → best.limit ≤ cost (d ++ (true ∷ t))) →
      Explored day sought cost n (d ++ (false ∷ [])) best r → Explored day sought cost (suc n) d best r
  only-left n d best r out b =
      joined n d best best r
      (branch-cut n (d ++ (true ∷ [])) best (λ t l law is. rw decided-next (out t l (rw decided-next at law) (rw decided-next at is)))) b

  -- where none leaves it out, it is only taken
  pub only-taken : (n : ℕ) (d : List Bool) (best r : Best) →
      ((t : List Bool) → length t ≡ n → lawful day (d ++ (false ∷ t)) ≡ true → sought (d ++ (false ∷ t)) → ⊥) →
      Explored day sought cost n (d ++ (true ∷ [])) best r → Explored day sought cost (suc n) d best r
  only-taken n d best r in_all a =
      joined n d best r r a
      (branch-unlawful n (d ++ (false ∷ [])) r (λ t l law is. in_all t l (rw decided-next at law) (rw decided-next at is)))

  -- A PASS over all blocks
  abbrev pub Pass : Best → Best → Type 0
  Pass best r = Explored day sought cost (length day.blocks) [] best r

  module _ (best r : Best) (pass : Pass best r) where
    -- the limit falls where some lawful set that is sought costs less
    pub pass-finds : (set : List Bool) → length set ≡ length day.blocks → lawful day set ≡ true → sought set → cost set < best.limit →
        r.limit < best.limit
    pass-finds set l law is less = omega (arith, pass.least set l law is)

    -- a limit that fell has found the set that costs least, where no other costs the same
    pub pass-least : (set : List Bool) → length set ≡ length day.blocks → lawful day set ≡ true → sought set →
        ((other : List Bool) → length other ≡ length day.blocks → lawful day other ≡ true → cost set ≤ cost other) →
        ((other : List Bool) → length other ≡ length day.blocks → cost other ≡ cost set → other ≡ set) →
        r.limit < best.limit → r.set ≡ set
    pass-least set l law is cheapest apart less =
        let f = pass.better less in
        f.is ∙ apart f.rest f.size (omega (arith, f.costs, pass.least set l law is, cheapest f.rest f.size f.is_lawful))

-- WELFARE AND LOSS add up to one number, of every lawful set
abbrev pub Adds : Day → (List Bool → ℕ) → ℕ → Type 0
Adds day loss whole = (set : List Bool) → length set ≡ length day.blocks → lawful day set ≡ true → welfare day set + loss set ≡ whole

-- so they do where each loss is less by one number
pub adds-less : (day : Day) (loss loss' : List Bool → ℕ) (whole less : ℕ) → Adds day loss whole →
    ((set : List Bool) → length set ≡ length day.blocks → lawful day set ≡ true → loss' set + less ≡ loss set) → Adds day loss' (whole - less)
adds-less day loss loss' whole less adds k set l law = omega (arith, adds set l law, k set l law)

-- AT HOURLY PRICES p
pub loss-adds : (day : Day) → PricesInRange day.steps → HoursInRange day.steps → (p : ℕ → ℕ) → Adds day (loss_of day p) (whole_of day p)
loss-adds day prices hours p set l law = welfare-and-loss day prices hours p set l law
