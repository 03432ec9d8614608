-- CLOSED SETS: a branch takes no block without its parent, from its first decision to its last; a lawful set does not either. Assumes nothing.
use Prim.Native.Nat.{ℕ, suc, ◌<◌, ◌≤◌}
use mathlib.Core.Bool.{Bool, true, false}
use mathlib.Core.List.{List, [], ◌∷◌, ◌++◌}
use mathlib.Core.Path.{◌≡◌, sym, ◌∙◌}
use native.Mathlib.Omega.{arith}
use native.Mathlib.Decide.{ℕ_discrete}
use lib.ListN.{length, get_or, length-append, get_or-append}
use lib.Seq.{get_or-append_seam}
use Rattle.rules.specs.Day.{Day, lawful}
use Rattle.rules.proofs.DayLaws.{lawful-contends}
use Rattle.rules.proofs.LinkLaws.{Closed}
use Rattle.rules.proofs.TwinLaws.{taken-within}
use Rattle.branches.specs.Meaning.{Known}
use Rattle.branches.specs.Tables.{Tables}

-- NOTHING IS DECIDED
pub none-closed : (parent : ℕ → ℕ) → Closed parent []
none-closed parent j k link e = absurd (omega (arith, taken-within [] j e))

-- ONE MORE BLOCK, taken only together with its parent
module _ (parent : ℕ → ℕ) (before : (j : ℕ) → parent j ≤ j) (d : List Bool) (closed : Closed parent d) where
  pub next-closed : (x : Bool) → (x ≡ true → (k : ℕ) → parent (length d) ≡ suc k → get_or d k false ≡ true) → Closed parent (d ++ (x ∷ []))
  next-closed x with-parent j k link e = get_or-append d (x ∷ []) false k inside ∙ parent_in
    where
      within : j < suc (length d)
      within = omega (arith, taken-within (d ++ (x ∷ [])) j e, length-append d (x ∷ []))

      inside : k < length d
      inside = omega (arith, within, before j)

      parent_in : get_or d k false ≡ true
      parent_in = elim (ℕ_discrete j (length d)) [
        | yes z ↦ with-parent (sym (get_or-append_seam d x [] false) ∙ rw z at e) k (rw z at link)
        | no z ↦ closed j k link (sym (get_or-append d (x ∷ []) false j (omega (arith, within))) ∙ e)
      ]

-- A LAWFUL SET
pub lawful-closed : {day : Day} {p rest : ℕ → ℕ} {tables : Tables} (known : Known day p rest tables) (set : List Bool) → length set ≡ tables.count →
    lawful day set ≡ true → Closed known.parent set
lawful-closed {day} known set size law =
    let n : length set ≡ length day.blocks = size ∙ sym known.counted in
    known.parents.links.closed set n (lawful-contends day known.prices known.hours set law n).permitted
