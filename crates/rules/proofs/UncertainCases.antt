-- UNCERTAIN STEPS, COMPUTED from the definitions alone: every choice of quantities is tried. Prices are put in by certificate. Assumes nothing.
-- (The laws import it, so that a wrong rule is met here first.)
use Prim.Native.Nat.{ℕ}
use mathlib.Core.Path.{◌≡◌, refl, ap, fun_ext, ◌∙◌}
use mathlib.Core.List.{List, [], ◌∷◌}
use Rattle.rules.specs.Orders.{buy, sell}
use Rattle.rules.specs.Hour.{answered_price}
use Rattle.rules.specs.Uncertain.{
  UncertainStep,
  steps_at,
  hour_at,
  middle_price,
  over_numbers,
  over_quantities,
  least_price,
  greatest_price,
}
use Rattle.rules.proofs.CertifiedHours.{tested, tested-is, computed}

-- a middle price that computes
unfoldable tested_at : List UncertainStep → List ℕ → ℕ
tested_at l quantities = answered_price (tested (hour_at l quantities))

price-tested : (l : List UncertainStep) → middle_price l ≡ tested_at l
unfolding middle_price tested_at
price-tested l = fun_ext (λ quantities. ap answered_price (tested-is (hour_at l quantities)))

-- buy 1 to 2 at 5000, sell 1 to 2 at 3000: at 1 and 2 the price is 3000, at 2 and 1 it is 5000; at 1 and 1, and at 2 and 2, it is 4000
abbrev pub either : List UncertainStep
either = record { side = buy; price = 5000; low = 1; high = 2 } ∷ record { side = sell; price = 3000; low = 1; high = 2 } ∷ []

pub least-of-either : least_price either ≡ 3000
unfolding least_price over_quantities over_numbers tested_at steps_at computed
least-of-either = rw (price-tested either)

pub greatest-of-either : greatest_price either ≡ 5000
unfolding greatest_price over_quantities over_numbers tested_at steps_at computed
greatest-of-either = rw (price-tested either)
