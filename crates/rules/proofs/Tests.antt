-- Proofs by the two answers of a test. Assumes nothing. (It stands above the computed edges, so that a wrong rule is met there first.)
use Prim.Native.Nat.{ℕ, ◌≤◌, ◌<◌}
use native.Mathlib.Omega.{arith}
use mathlib.Core.Bool.{Bool, true, false, ◌&&◌, true≢false}
use mathlib.Core.Path.{◌≡◌, refl}
use lib.Dec.{ltb, leb, eqb}
use Rattle.rules.proofs.Edges
use borrow.Author.Tests.{ltb-true, ltb-false, leb-true, leb-false, eqb-true, eqb-false, le-ltb, eq-eqb, ne_eqb}

-- a fact of a test's answer, by each answer with the equation kept
pub by-test : (P : Bool → Type 0) (t : Bool) → (t ≡ true → P true) → (t ≡ false → P false) → P t
by-test P true f g = f refl
by-test P false f g = g refl

pub by-lt : (P : Bool → Type 0) (a b : ℕ) → (a < b → P true) → (b ≤ a → P false) → P (ltb a b)
by-lt P a b f g = by-test P (ltb a b) (λ e. f (ltb-true a b e)) (λ e. g (ltb-false a b e))

pub by_le : (P : Bool → Type 0) (a b : ℕ) → (a ≤ b → P true) → (b < a → P false) → P (leb a b)
by_le P a b f g = by-test P (leb a b) (λ e. f (leb-true a b e)) (λ e. g (leb-false a b e))

pub by-eq : (P : Bool → Type 0) (a b : ℕ) → (a ≡ b → P true) → ((a ≡ b → ⊥) → P false) → P (eqb a b)
by-eq P a b f g = by-test P (eqb a b) (λ e. f (eqb-true a b e)) (λ e. g (eqb-false a b e))

-- of the tests `a < b`, `b < a`, `b ≡ a` exactly one passes
pub data OneOf : Bool → Bool → Bool → Type 0 where
  below : OneOf true false false
  above : OneOf false true false
  equal : OneOf false false true

pub one_of : (a b : ℕ) → OneOf (ltb a b) (ltb b a) (eqb b a)
one_of a b =
    by-test (λ t. OneOf t (ltb b a) (eqb b a)) (ltb a b)
    (λ e. let h : a < b = ltb-true a b e in rw (le-ltb b a (omega arith), ne_eqb b a (omega arith)) below)
    (λ e. let h : b ≤ a = ltb-false a b e in
    by-test (λ t. OneOf false t (eqb b a)) (ltb b a)
    (λ f. let k : b < a = ltb-true b a f in rw (ne_eqb b a (omega arith)) above)
    (λ f. let k : a ≤ b = ltb-false b a f in rw (eq-eqb b a (omega arith)) equal))

pub both : (a b : Bool) → (a && b) ≡ true → (a ≡ true) × (b ≡ true)
both true b e = (refl, e)
both false b e = (e, cc)

-- one test cannot have both answers
pub clash : {b : Bool} {A : Type 0} → b ≡ true → b ≡ false → A
clash p q = let z : true ≡ false = cc in absurd (true≢false z)
