-- The amounts of an hour's columns at a price; and what one step takes of them. Assumes nothing.
use Prim.Native.Nat.{ℕ, suc, ◌+◌, ◌-◌, ◌*◌, ◌/◌, ◌≤◌, min}
use mathlib.Core.Path.{◌≡◌, ap₂, sym, ◌∙◌}
use mathlib.Core.List.{List}
use native.Mathlib.Omega.{arith}
use native.Mathlib.Decide.{ℕ_discrete}
use native.Mathlib.Nat.{zero-mul, zero-div}
use lib.Dec.{ltb, eqb}
use borrow.Author.Tests.{le-ltb, eq-eqb, ne_eqb}
use Rattle.rules.specs.Orders.{Side, buy, sell}
use Rattle.rules.specs.Hour.{by_side, when, total, buys_from, sells_below}
use Rattle.rules.specs.Execution.{test_side, buying_at, selling_at, buy_amount, sell_amount, execution}
use Rattle.rules.proofs.CurveLaws.{buys_from-suc, sells_below-suc, buys_from-split, sells_to-split}
use Rattle.rules.proofs.ExecutionLaws.{sum-map, buy_amount-held, sell_amount-held}
use Rattle.orders.specs.Columns.{steps_from}
use Rattle.pricing.specs.Curves.{bias, hour_with, TotalsAt}
use Rattle.shares.specs.Shares.{AmountsOf, AmountsHeld, holdings, shared_out, SharedOut, ExecutedOf}

reordered : (a b c d : ℕ) → a + b + c - d ≡ a + c + b - d
reordered a b c d = omega arith

-- THE AMOUNTS from the totals at the price and one cent below
module _ (sides prices quantities : List ℕ) (n above upto above' upto' price : ℕ) (pos : 1 ≤ price)
    (at : TotalsAt sides prices quantities price above upto) (before : TotalsAt sides prices quantities (price - 1) above' upto') where
  pub amounts-are : (demand offer room buys needed sells : ℕ) → demand ≡ above' - above → offer ≡ upto - upto' → room ≡ upto + n - (above + bias) →
      buys ≡ min demand room → needed ≡ above + bias + buys - (upto' + n) → sells ≡ min offer needed →
      AmountsOf sides prices quantities n price buys demand sells offer
  unfolding buy_amount sell_amount
  amounts-are demand offer room buys needed sells ed eo er eb en es =
      record { for_buys = λ h. buys-is h; for_sells = λ h. sells-is h; held_by_buys = λ h. demand-is h; held_by_sells = λ h. offer-is h }
    where
      one : suc (price - 1) ≡ price
      one = omega arith

      from : (h : ℕ) → buys_from price (steps_from h sides prices quantities) ≡ above'
      from h = (rw one at (buys_from-suc (price - 1) (steps_from h sides prices quantities))) ∙ sym (before.buys h)

      below : (h : ℕ) → sells_below price (steps_from h sides prices quantities) ≡ upto'
      below h = (rw one at (sells_below-suc (price - 1) (steps_from h sides prices quantities))) ∙ sym (before.sells h)

      demand-is : (h : ℕ) → demand ≡ total (buying_at price) (steps_from h sides prices quantities)
      demand-is h = omega (arith, from h, at.buys h, buys_from-split price (steps_from h sides prices quantities))

      offer-is : (h : ℕ) → offer ≡ total (selling_at price) (steps_from h sides prices quantities)
      offer-is h = omega (arith, below h, at.sells h, sells_to-split price (steps_from h sides prices quantities))

      buys-is : (h : ℕ) → buys ≡ buy_amount (hour_with h sides prices quantities n) price
      buys-is h = eb ∙ ap₂ min (demand-is h) (er ∙ rw (at.buys h, at.sells h))

      sells-is : (h : ℕ) → sells ≡ sell_amount (hour_with h sides prices quantities n) price
      sells-is h =
          es ∙ ap₂ min (offer-is h) (en ∙ reordered above bias buys (upto' + n) ∙ rw (at.buys h, ← (below h), buys-is h))

-- they are within what the steps at the price hold
pub amounts-held : (sides prices quantities : List ℕ) (n price buys demand sells offer : ℕ) →
    AmountsOf sides prices quantities n price buys demand sells offer → AmountsHeld sides prices quantities price buys demand sells offer
unfolding holdings
amounts-held sides prices quantities n price buys demand sells offer a =
    let hour = hour_with 0 sides prices quantities n in
    record {
      buys_held = rw (a.for_buys 0, a.held_by_buys 0) (buy_amount-held hour price);
      sells_held = rw (a.for_sells 0, a.held_by_sells 0) (sell_amount-held hour price);
      held_by_buys = rw sum-map (a.held_by_buys 0);
      held_by_sells = rw sum-map (a.held_by_sells 0);
    }

-- THE EXECUTION of the hour: its amounts, shared out
pub executed-by : (sides prices quantities : List ℕ) (n price buys demand sells offer : ℕ) (out : List ℕ) →
    AmountsOf sides prices quantities n price buys demand sells offer → SharedOut sides prices quantities price buys sells out →
    ExecutedOf sides prices quantities n price out
unfolding shared_out execution
executed-by sides prices quantities n price buys demand sells offer out a o h = o h ∙ rw (a.for_buys h, a.for_sells h)

-- ONE STEP: what it takes of the amounts, its quotients
no-share : (amount t : ℕ) → 0 * amount / t ≡ 0
no-share amount t = rw zero-mul (zero-div t)

module _ (p x q b d s o got : ℕ) where
  pub taken_is : (side : Side) →
      got ≡ when (test_side side (ltb p x) (ltb x p)) q + (when (eqb x p) (by_side side q 0) * b / d + when (eqb x p) (by_side side 0 q) * s / o) →
      (when (eqb x p) (by_side side got 0) ≡ when (eqb x p) (by_side side q 0) * b / d)
      × (when (eqb x p) (by_side side 0 got) ≡ when (eqb x p) (by_side side 0 q) * s / o)
  taken_is side e = elim (ℕ_discrete x p) [ yes k ↦ at side k e | no k ↦ apart side k ]
    where
      at : (side : Side) → x ≡ p →
          got ≡ when (test_side side (ltb p x) (ltb x p)) q + (when (eqb x p) (by_side side q 0) * b / d + when (eqb x p) (by_side side 0 q) * s / o) →
          (when (eqb x p) (by_side side got 0) ≡ when (eqb x p) (by_side side q 0) * b / d)
          × (when (eqb x p) (by_side side 0 got) ≡ when (eqb x p) (by_side side 0 q) * s / o)
      at buy k e = rw (eq-eqb x p k) (omega (arith, no-share s o, rw (eq-eqb x p k, le-ltb p x (omega arith)) at e), sym (no-share s o))
      at sell k e = rw (eq-eqb x p k) (sym (no-share b d), omega (arith, no-share b d, rw (eq-eqb x p k, le-ltb x p (omega arith)) at e))

      apart : (side : Side) → (x ≡ p → ⊥) →
          (when (eqb x p) (by_side side got 0) ≡ when (eqb x p) (by_side side q 0) * b / d)
          × (when (eqb x p) (by_side side 0 got) ≡ when (eqb x p) (by_side side 0 q) * s / o)
      apart side k = rw (ne_eqb x p k) (sym (no-share b d), sym (no-share s o))
