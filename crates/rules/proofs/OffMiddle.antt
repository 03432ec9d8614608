-- A price off the middle breaks its rule, though it clears the hour (one of the outcomes of OutcomeRulesCases). Assumes nothing.
use mathlib.Core.Path.{refl}
use mathlib.Core.Bool.{false≢true}
use native.Mathlib.Omega.{arith}
use Rattle.rules.specs.Cases.{Breaks, off_middle_between}
use Rattle.rules.proofs.CertifiedHours.{computed, price-tested, hour-counts}

pub off-middle-between : Breaks off_middle_between (λ o. o.set_price)
unfolding computed
off-middle-between middle = omega (arith, rw price-tested at (middle 23 (hour-counts 23 refl)))
