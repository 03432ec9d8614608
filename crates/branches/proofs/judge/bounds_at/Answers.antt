-- `branches::judge::bounds_at` meets its contract: H and L where prices can give way, else the middle prices. Assumes nothing.
use mathlib.Core.Bool.{true, false}
use Rattle.branches.proofs.DropLaws.{bounds_of}
use Rattle.branches.proofs.judge.bounds_at.Goals as goal

pub returns-then-shifts : goal.returns-then-shifts
returns-then-shifts c =
    rw c.if-shifts.true (bounds_of c.counted_prices.ensures c.counted_prices-then-shifts.ensures true c.highs_at.ensures c.lows_at.ensures)

pub returns : goal.returns
returns c =
    rw c.if-shifts.false (bounds_of c.counted_prices-2.ensures c.counted_prices-3.ensures false c.prices_at.ensures c.prices_at-2.ensures)
