-- `range::entries_of` meets its contract: each column has the numbers of the entries passed. Assumes nothing.
use Prim.Native.Nat.{◌<◌}
use mathlib.Core.Path.{◌≡◌, refl, ap, sym, ◌∙◌}
use mathlib.Core.Bool.{true}
use native.Mathlib.Omega.{arith}
use Rattle.fields.specs.Tests.{some_below}
use Rattle.range.specs.Range.{entry_fits, out_of_range, below}
use Rattle.range.specs.Corners.{side_number, least_quantity, greatest_quantity}
use Rattle.range.proofs.RangeLaws.{filled_next, tested-next, tested-wrong}
use Rattle.range.proofs.entries_of.Goals as goal

pub loop-i-init : goal.loop-i-init
unfolding some_below below
loop-i-init c = (refl, (refl, refl), (refl, refl), (refl, refl), (refl, refl))

pub loop-i-preserved : goal.loop-i-preserved
loop-i-preserved c =
    let e = c.entry_at-entry.ensures in
    let v = c.loop-i in
    let room : v.i < 256 = omega arith in (
      tested-next _ v.i _ (c.fits.ensures ∙ ap entry_fits e) c.if-not-fits.false v.invariant.0,
      filled_next side_number _ v.i v.sides _ room (c.side_number.ensures ∙ ap side_number e) v.invariant.1,
      filled_next (λ e. e.price) _ v.i v.prices _ room (ap (λ e. e.price) e) v.invariant.2,
      filled_next least_quantity _ v.i v.least _ room (c.least_quantity.ensures ∙ ap least_quantity e) v.invariant.3,
      filled_next greatest_quantity _ v.i v.greatest _ room (c.greatest_quantity.ensures ∙ ap greatest_quantity e) v.invariant.4,
    )

pub returns-then-not-fits : goal.returns-then-not-fits
returns-then-not-fits c =
    tested-wrong _ _ c.loop-i.i _ c.loop-i-test.true (c.fits.ensures ∙ ap entry_fits c.entry_at-entry.ensures) c.if-not-fits.true

pub returns : goal.returns
returns c =
    let v = c.loop-i in
    let e : v.i ≡ c.args.count = omega arith in
    rw (← e)
    (record {
      in_range = v.invariant.0;
      sides_are = v.invariant.1.1;
      prices_are = v.invariant.2.1;
      least_are = v.invariant.3.1;
      greatest_are = v.invariant.4.1;
    })
