-- WHAT A BOOK'S FAMILY REPORT IS (document 02, P6), of every accepted book: a root that is left out gains nothing, for nothing of its family is taken; and the
-- gains of the lines together are those of all taken blocks. Assumes nothing.
use Prim.Native.Nat.{ℕ}
use mathlib.Core.Bool.{true, false}
use mathlib.Core.Path.{◌≡◌}
use mathlib.Core.List.{List}
use Rattle.rules.specs.Day.{taken, over_blocks, set_prices, is_among, allowed}
use Rattle.rules.specs.Outcome.{outcome}
use Rattle.rules.specs.Families.{is_of_family, block_gain, family_gain, family_report, total_gain}
use Rattle.rules.proofs.FamilyLaws.{none-taken, left-out-gains-nothing, families-together}
use Rattle.book.specs.Refusals.{Accepted}
use Rattle.orders.specs.Bridge.{orders_of, day_from}
use Rattle.orders.proofs.LinkLaws.{links-stand}
use Rattle.result.specs.Result.{result_bytes}
use Rattle.result.proofs.PromiseLaws.{result_says, taken_is, promise-kept}

module _ (b : List ℕ) (a : Accepted b) where
  -- the published set holds every taken child's parent
  permitted : allowed (day_from b) (outcome (day_from b)) ≡ true
  permitted = rw (taken_is b (result_bytes b) a (result_says b a)) at (promise-kept b a).best.contends.permitted

  module _ (root : ℕ) (out : is_among (taken (day_from b).blocks (outcome (day_from b))) root ≡ false) where
    pub none-of-it-taken : (number : ℕ) → is_among (taken (day_from b).blocks (outcome (day_from b))) number ≡ true →
        is_of_family (day_from b).links root number ≡ false
    none-of-it-taken = none-taken (day_from b) (links-stand b a) (outcome (day_from b)) permitted root out

    pub left-out-gains-0 : family_gain (day_from b) (outcome (day_from b)) root ≡ 0
    left-out-gains-0 = left-out-gains-nothing (day_from b) (links-stand b a) (outcome (day_from b)) permitted root out

  pub report-together : total_gain (family_report (orders_of b))
      ≡ over_blocks (block_gain (day_from b).hours (set_prices (day_from b) (taken (day_from b).blocks (outcome (day_from b)))))
      (taken (day_from b).blocks (outcome (day_from b)))
  unfolding family_report day_from
  report-together = families-together (day_from b) (links-stand b a) (outcome (day_from b))
