-- The answer for an hour's columns and N, one law for each way out of the code. Assumes nothing.
use Prim.Native.Nat.{ℕ, ◌+◌, ◌≤◌, ◌<◌}
use Rattle.std.specs.Prelude.{Some, None}
use mathlib.Core.Path.{sym, ap}
use mathlib.Core.List.{List}
use native.Mathlib.Omega.{arith}
use Rattle.rules.specs.Orders.{max_price}
use Rattle.rules.specs.Hour.{middle}
use Rattle.rules.proofs.PricingLaws.{Clearable, not-clearing}
use Rattle.orders.specs.Columns.{steps_from}
use Rattle.pricing.specs.Curves.{bias, hour_with, TotalsAt, LeastCovered}
use Rattle.pricing.specs.Answers.{answer_for, AnswerOf}
use Rattle.pricing.proofs.EndLaws.{all-buys, all-sells, priced-by-ends}

module _ (sides prices quantities : List ℕ) (n lowAbove lowUpto highAbove highUpto : ℕ)
    (lowest : TotalsAt sides prices quantities 0 lowAbove lowUpto) (highest : TotalsAt sides prices quantities max_price highAbove highUpto) where
  -- N exceeds all buys together
  pub buys-fall-short : lowAbove + bias < n → AnswerOf sides prices quantities n None
  buys-fall-short k h r =
      ap answer_for (sym ((not-clearing (hour_with h sides prices quantities n) r).1
      (λ c. omega (arith, c.buys_suffice, lowest.buys h, all-buys (steps_from h sides prices quantities) r))))

  -- −N exceeds all sells together
  pub sells-fall-short : highUpto + n < bias → AnswerOf sides prices quantities n None
  sells-fall-short k h r =
      ap answer_for (sym ((not-clearing (hour_with h sides prices quantities n) r).1
      (λ c. omega (arith, c.sells_suffice, highest.sells h, all-sells (steps_from h sides prices quantities) r))))

  -- the two ends and their middle
  pub ends-answer : n ≤ lowAbove + bias → bias ≤ highUpto + n → (low high : ℕ) →
      ((h : ℕ) → LeastCovered 0 (hour_with h sides prices quantities n) low) → ((h : ℕ) → LeastCovered 1 (hour_with h sides prices quantities n) high) →
      AnswerOf sides prices quantities n (Some (record { low = low; high = high; price = middle low high }))
  ends-answer a b low high el eh h r =
      let c : Clearable (hour_with h sides prices quantities n) = record {
        buys_suffice = omega (arith, lowest.buys h, all-buys (steps_from h sides prices quantities) r);
        sells_suffice = omega (arith, highest.sells h, all-sells (steps_from h sides prices quantities) r);
      } in
      ap answer_for (sym (priced-by-ends (hour_with h sides prices quantities n) r c low high (el h) (eh h)))
