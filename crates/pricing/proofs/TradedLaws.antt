-- What is traded in an hour's columns at a price. Assumes nothing.
use Prim.Native.Nat.{ℕ, suc, ◌+◌, ◌-◌, min}
use mathlib.Core.Path.{◌≡◌, sym, ◌∙◌}
use mathlib.Core.List.{List}
use native.Mathlib.Omega.{arith}
use Rattle.rules.specs.Hour.{buys_from}
use Rattle.rules.proofs.CurveLaws.{buys_from-suc}
use Rattle.orders.specs.Columns.{steps_from}
use Rattle.pricing.specs.Curves.{TotalsOf, TradedAt}

-- from the totals over one cent below the price and up to the price
pub traded-at-is : (sides prices quantities : List ℕ) (over price above upto sales purchases traded : ℕ) → over ≡ price - 1 →
    TotalsOf sides prices quantities over price above upto → traded ≡ min (above + purchases) (upto + sales) →
    TradedAt sides prices quantities sales purchases price traded
traded-at-is sides prices quantities over price above upto sales purchases traded eo t e h pos =
    let l = steps_from h sides prices quantities in
    let one : suc over ≡ price = omega arith in
    let from : buys_from price l ≡ above = (rw one at (buys_from-suc over l)) ∙ sym (t.buys h) in
    e ∙ rw (from, t.sells h)
