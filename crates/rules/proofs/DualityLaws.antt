-- M7: for any price and any balanced quantities, what the steps bring is at most the surplus at that price (weak duality), with equality for
-- quantities that follow a price and balance (strong duality). So no balanced quantities of an hour beat its execution. Assumes nothing.
use Prim.Native.Nat.{ℕ, ◌+◌, ◌-◌, ◌*◌, ◌≤◌, ◌<◌}
use mathlib.Core.Path.{◌≡◌, ap}
use mathlib.Core.List.{List, [], ◌∷◌}
use mathlib.Core.Logic.{◌⊎◌, inl, inr}
use native.Mathlib.Omega.{arith}
use native.Mathlib.Nat.{
  lt_of_not-le,
  eq-or-lt_of_le,
  sub_self,
  sub-eq-zero_of_le,
  le_of_lt,
  le_dest,
  add-sub_cancel_left,
  mul-add,
  mul-le-mul_right,
  mul-le-mul_left,
}
use native.Mathlib.Decide.{dec_le}
use Rattle.rules.specs.Orders.{Side, buy, sell, Step}
use Rattle.rules.specs.Hour.{by_side, total, Hour}
use Rattle.rules.specs.Execution.{total₂, bought, sold, execution}
use Rattle.rules.specs.Contender.{Each, Within, Balanced}
use Rattle.rules.proofs.PricingLaws.{Clears}
use Rattle.rules.proofs.ExecutionLaws.{Beyond, Follows, execution-follows, execution-balances, same-execution}

-- the value of what an hour's steps buy, the cost of what they sell
unfoldable pub value : List Step → List ℕ → ℕ
value = total₂ (λ s q. by_side s.side (q * s.price) 0)

unfoldable pub cost : List Step → List ℕ → ℕ
cost = total₂ (λ s q. by_side s.side 0 (q * s.price))

-- the surplus that price p leaves at most: to each buy what it saves, to each sell what it gains
unfoldable pub surplus : ℕ → List Step → ℕ
surplus p = total (λ s. by_side s.side (s.quantity * (s.price - p)) (s.quantity * (p - s.price)))

-- q units moved from price b to price a gain at most what Q ≥ q units gain
pub gain-at-most : (q Q a b : ℕ) → q ≤ Q → q * a ≤ b * q + Q * (a - b)
gain-at-most q Q a b h = elim (dec_le a b) [ yes l ↦ omega (arith, mul-le-mul_left q l) | no g ↦ up (le_dest (omega arith)) ]
  where
    up : (d : ℕ) × (b + d ≡ a) → q * a ≤ b * q + Q * (a - b)
    up t = rw (← t.1, add-sub_cancel_left b t.0, mul-add q b t.0) (omega (arith, mul-le-mul_right t.0 h))

-- exactly that, where all Q units move up and none moves down
gain-is : (q Q a b : ℕ) → (b < a → q ≡ Q) → (a < b → q ≡ 0) → q * a ≡ b * q + Q * (a - b)
gain-is q Q a b full nothing = elim (dec_le a b) [ yes l ↦ low (eq-or-lt_of_le l) | no g ↦ high (lt_of_not-le g) ]
  where
    low : (a ≡ b) ⊎ (a < b) → q * a ≡ b * q + Q * (a - b)
    low (inl e) = rw (e, sub_self b) (omega arith)
    low (inr l) = rw (nothing l, sub-eq-zero_of_le (le_of_lt l)) (omega arith)

    high : b < a → q * a ≡ b * q + Q * (a - b)
    high g = let t = le_dest (le_of_lt g) in rw (full g, ← t.1, add-sub_cancel_left b t.0) (omega arith)

-- ONE STEP at price p
weak-step : (p : ℕ) (side : Side) (x q Q : ℕ) → q ≤ Q →
    by_side side (q * x) 0 + p * by_side side 0 q ≤ by_side side 0 (q * x) + p * by_side side q 0 + by_side side (Q * (x - p)) (Q * (p - x))
weak-step p buy x q Q h = omega (arith, gain-at-most q Q x p h)
weak-step p sell x q Q h = omega (arith, gain-at-most q Q p x h)

strong-step : (p : ℕ) (side : Side) (x q Q : ℕ) → (Beyond side p x → q ≡ Q) → (Beyond side x p → q ≡ 0) →
    by_side side (q * x) 0 + p * by_side side 0 q ≡ by_side side 0 (q * x) + p * by_side side q 0 + by_side side (Q * (x - p)) (Q * (p - x))
strong-step p buy x q Q full nothing = omega (arith, gain-is q Q x p full nothing)
strong-step p sell x q Q full nothing = omega (arith, gain-is q Q p x full nothing)

-- ALL STEPS of an hour
weak-steps : (p : ℕ) (l : List Step) (qs : List ℕ) → Each Within l qs →
    value l qs + p * sold l qs ≤ cost l qs + p * bought l qs + surplus p l
unfolding value cost bought sold surplus
weak-steps p [] [] w = omega arith
weak-steps p (s ∷ l) (q ∷ qs) w =
    omega (arith, weak-step p s.side s.price q s.quantity w.0, weak-steps p l qs w.1)
weak-steps p [] (q ∷ qs) w = elim w [ ]
weak-steps p (s ∷ l) [] w = elim w [ ]

strong-steps : (p : ℕ) (l : List Step) (qs : List ℕ) → Each (Follows p) l qs →
    value l qs + p * sold l qs ≡ cost l qs + p * bought l qs + surplus p l
unfolding value cost bought sold surplus
strong-steps p [] [] w = omega arith
strong-steps p (s ∷ l) (q ∷ qs) w =
    omega (arith, strong-step p s.side s.price q s.quantity w.0.full w.0.nothing, strong-steps p l qs w.1)
strong-steps p [] (q ∷ qs) w = elim w [ ]
strong-steps p (s ∷ l) [] w = elim w [ ]

-- WEAK AND STRONG DUALITY of an hour
pub weak-duality : (h : Hour) (p : ℕ) (qs : List ℕ) → Each Within h.steps qs → Balanced h qs →
    value h.steps qs + p * h.block_buys ≤ cost h.steps qs + surplus p h.steps + p * h.block_sales
weak-duality h p qs w b = omega (arith, weak-steps p h.steps qs w, ap (λ x. p * x) b)

strong-duality : (h : Hour) (p : ℕ) (qs : List ℕ) → Each (Follows p) h.steps qs → Balanced h qs →
    value h.steps qs + p * h.block_buys ≡ cost h.steps qs + surplus p h.steps + p * h.block_sales
strong-duality h p qs w b = omega (arith, strong-steps p h.steps qs w, ap (λ x. p * x) b)

-- the execution at a clearing price attains the surplus at every clearing price
pub execution-attains : (h : Hour) (p q : ℕ) → Clears h p → Clears h q →
    value h.steps (execution h p) + q * h.block_buys ≡ cost h.steps (execution h p) + surplus q h.steps + q * h.block_sales
execution-attains h p q c d =
    rw (same-execution h p q c d) (strong-duality h q (execution h q) (execution-follows h q) (execution-balances h q d))

-- M7: no balanced quantities of the hour have more welfare than its execution
pub execution-greatest : (h : Hour) (p : ℕ) → Clears h p → (qs : List ℕ) → Each Within h.steps qs → Balanced h qs →
    value h.steps qs + cost h.steps (execution h p) ≤ value h.steps (execution h p) + cost h.steps qs
execution-greatest h p c qs w b = omega (arith, execution-attains h p p c c, weak-duality h p qs w b)
