-- WRONG OUTCOMES OF EDITION 4, refuted from the statements alone, on the paper's example (document 02, P7): a sell block at 3000 and a buy block at 5000
-- alone. Its prices are 4800 and no other, both blocks contend, the empty set is not the best; in edition 3 both together are no contender. Assumes nothing.
use Prim.Native.Nat.{ℕ}
use mathlib.Core.Bool.{Bool, true, false, false≢true}
use mathlib.Core.Path.{◌≡◌, refl}
use mathlib.Core.List.{List, [], ◌∷◌}
use native.Mathlib.Omega.{arith}
use Rattle.rules.specs.Day.{Day, day_of}
use Rattle.rules.specs.Contender.{Contender, HasWelfare, WelfareAtMost, BeatsAll}
use Rattle.rules.specs.OutcomeRules.{OutcomeRules}
use Rattle.rules.specs.WorkedDays.{two_blocks}
use Rattle.rules.proofs.HourSums.{each-hour}
use Rattle.rules.proofs.CertifiedHours.{computed, price-tested, prices-tested, hour-counts}

-- the day of the example in an edition
abbrev example : ℕ → Day
example edition = day_of (two_blocks edition 24 3 3000 5000)

-- DEMAND 2: the price of an hour of the blocks, and of one without orders, is 4800: not the other end of the shifts (3000), nor the middle (150000)
pub prices-are-4800 : (price traded : ℕ → ℕ) (quantities : List ℕ) → OutcomeRules (example 4) (true ∷ true ∷ []) price traded quantities →
    (price 1 ≡ 4800) × (price 24 ≡ 4800)
unfolding computed
prices-are-4800 price traded quantities o = (
  rw price-tested at (o.set_price 1 (hour-counts 1 refl)),
  rw price-tested at (o.set_price 24 (hour-counts 24 refl)),
)

-- DEMAND 3: both blocks contend, and bring 200000
pub both-contend : Contender (example 4) (true ∷ true ∷ []) []
unfolding computed
both-contend = record {
  of_blocks = refl;
  permitted = refl;
  within = tt;
  balanced = each-hour _ (omega arith);
  limits = rw prices-tested refl;
}

both-bring : HasWelfare (example 4) (true ∷ true ∷ []) [] 200000
unfolding computed
both-bring = refl

-- so the empty set is not the best, with whatever quantities
empty-brings : (quantities : List ℕ) (w : ℕ) → Contender (example 4) (false ∷ false ∷ []) quantities →
    HasWelfare (example 4) (false ∷ false ∷ []) quantities w → w ≡ 0
unfolding computed
empty-brings [] w c e = omega (arith, e)
empty-brings (q ∷ qs) w c e = absurd c.within

pub empty-not-best : (quantities : List ℕ) (w : ℕ) → ¬ BeatsAll (example 4) (false ∷ false ∷ []) quantities w
empty-not-best quantities w b =
    let none : w ≡ 0 = empty-brings quantities w b.contends b.counted in
    let least : WelfareAtMost (example 4) (true ∷ true ∷ []) [] w = b.none_above _ _ both-contend in
    omega (arith, both-bring)

-- in edition 3 the middle price forbids the buy
pub both-no-contender : (quantities : List ℕ) → ¬ Contender (example 3) (true ∷ true ∷ []) quantities
unfolding computed
both-no-contender quantities c = false≢true (rw prices-tested at c.limits)
