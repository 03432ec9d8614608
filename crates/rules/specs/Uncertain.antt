-- PRICES WHEN WIND IS UNCERTAIN (document 02, P14): steps whose quantities are known only from a low to a high figure, and the least and greatest middle
-- price of their hour, without blocks, over all quantities between. Definitions only. Assumes nothing.
use Rattle.std.specs.Prelude.{ℕ, zero, suc, ◌-◌, ◌≤◌, min, max, List, [], ◌∷◌, ◌≡◌}
use Rattle.rules.specs.Orders.{Side, Step, max_price}
use Rattle.rules.specs.Hour.{by_side, Hour, pricing, answered_price}

-- A step of uncertain quantity: it is from the low figure to the high one.
pub record UncertainStep : Type 0 where
  pub side : Side
  pub price : ℕ
  pub low : ℕ
  pub high : ℕ

-- The steps at given quantities, one for each; which hour it is plays no part.
unfoldable pub steps_at : List UncertainStep → List ℕ → List Step
steps_at [] quantities = []
steps_at (s ∷ l) [] = []
steps_at (s ∷ l) (q ∷ quantities) = record { hour = 1; side = s.side; price = s.price; quantity = q } ∷ steps_at l quantities

-- The hour that they make, without blocks.
abbrev pub hour_at : List UncertainStep → List ℕ → Hour
hour_at l quantities = record { steps = steps_at l quantities; block_sales = 0; block_buys = 0 }

-- Its middle price. (An hour without blocks always clears.)
unfoldable pub middle_price : List UncertainStep → List ℕ → ℕ
middle_price l quantities = answered_price (pricing (hour_at l quantities))

-- Of what f gives for the n + 1 numbers from low on, the one that `pick` picks: the least by min, the greatest by max.
unfoldable pub over_numbers : (ℕ → ℕ → ℕ) → (low n : ℕ) → (ℕ → ℕ) → ℕ
over_numbers pick low zero f = f low
over_numbers pick low (suc n) f = pick (f low) (over_numbers pick (suc low) n f)

-- The same over all quantities between: each from its step's low to its high.
unfoldable pub over_quantities : (ℕ → ℕ → ℕ) → List UncertainStep → (List ℕ → ℕ) → ℕ
over_quantities pick [] f = f []
over_quantities pick (s ∷ l) f = over_numbers pick s.low (s.high - s.low) (λ q. over_quantities pick l (λ quantities. f (q ∷ quantities)))

-- The least middle price over all quantities between.
unfoldable pub least_price : List UncertainStep → ℕ
least_price l = over_quantities min l (middle_price l)

-- The greatest middle price over all quantities between.
unfoldable pub greatest_price : List UncertainStep → ℕ
greatest_price l = over_quantities max l (middle_price l)

-- THE SAME SAID OF A PRICE, without a walk over the quantities (proofs/UncertainLaws.antt: the two prices above are these)
-- Quantities between: one for each step, from its low to its high.
abbrev pub Between : List UncertainStep → List ℕ → Type 0
Between [] [] = Unit {0}
Between [] (q ∷ quantities) = ⊥
Between (s ∷ l) [] = ⊥
Between (s ∷ l) (q ∷ quantities) = (s.low ≤ q) × (q ≤ s.high) × Between l quantities

-- Some quantities between have p as their middle price.
pub record IsMet (l : List UncertainStep) (p : ℕ) : Type 0 where
  pub quantities : List ℕ
  pub between : Between l quantities
  pub priced : middle_price l quantities ≡ p

-- p is met, and no quantities between have a lower middle price.
pub record IsLeastPrice (l : List UncertainStep) (p : ℕ) : Type 0 where
  pub met : IsMet l p
  pub none_below : (quantities : List ℕ) → Between l quantities → p ≤ middle_price l quantities

-- p is met, and no quantities between have a higher middle price.
pub record IsGreatestPrice (l : List UncertainStep) (p : ℕ) : Type 0 where
  pub met : IsMet l p
  pub none_above : (quantities : List ℕ) → Between l quantities → middle_price l quantities ≤ p

-- What the reader of a list promises of its steps: prices from 1 to 300000, low at most high.
abbrev pub FiguresInRange : List UncertainStep → Type 0
FiguresInRange [] = Unit {0}
FiguresInRange (s ∷ l) = (1 ≤ s.price) × (s.price ≤ max_price) × (s.low ≤ s.high) × FiguresInRange l

-- THE TWO CORNERS, where the two prices are met
-- Buys low, sells high: the least price.
unfoldable pub least_corner : List UncertainStep → List ℕ
least_corner [] = []
least_corner (s ∷ l) = by_side s.side s.low s.high ∷ least_corner l

-- Buys high, sells low: the greatest.
unfoldable pub greatest_corner : List UncertainStep → List ℕ
greatest_corner [] = []
greatest_corner (s ∷ l) = by_side s.side s.high s.low ∷ greatest_corner l
