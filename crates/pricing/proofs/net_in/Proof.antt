-- `pricing::net_in` meets its contract. Assumes nothing.
use Prim.Native.Nat.{◌≤◌}
use native.Mathlib.Omega.{arith}
use mathlib.Core.Path.{◌≡◌, sym, ◌∙◌}
use lib.ListN.{length}
use lib.Seq.{length-take-le}
use Rattle.pricing.proofs.CallLaws.{trades-fit, net-is}
use Rattle.pricing.specs.Curves.{most_traded}
use borrow.Author.Rules.{rules}
use Rattle.pricing.proofs.net_in.Statement.{statement}
use Rattle.pricing.proofs.net_in.Tie as tie

abbrev Found : Type 0
Found = tie.After-blocks_of-found

abbrev Traded : Type 0
Traded = tie.After-trades_of-trades

size-sides : (f : Found) → length f.blocks_of-found.result.sides ≡ 32
size-sides f = search rules

size-hours : (f : Found) → length f.blocks_of-found.result.hours ≡ 32
size-hours f = search rules

size-quantities : (f : Found) → length f.blocks_of-found.result.quantities ≡ 32
size-quantities f = search rules

size-records : (f : Found) → length f.blocks_of-found.result.records ≡ 32
size-records f = search rules

size-prices : (f : Found) → length f.blocks_of-found.result.prices ≡ 32
size-prices f = search rules

blocks-of-requires : tie.Need-blocks_of-found-requires
blocks-of-requires c κs = search rules

array-share-prefix-sides : tie.Need-slice_bounds-sides-end
array-share-prefix-sides c = let f = c.before.before.before in omega (arith, size-sides f, f.blocks_of-found.ensures.few)

slice-aggregate-trades-of : tie.Need-slice_bounds-trades_of-end
slice-aggregate-trades-of c = let f = c.before.before.before.before in sym (length-take-le _ _ (omega (arith, size-sides f, f.blocks_of-found.ensures.few)))

array-share-prefix-hours : tie.Need-slice_bounds-hours-end
array-share-prefix-hours c = let f = c.before.before.before.before in omega (arith, size-hours f, f.blocks_of-found.ensures.few)

slice-aggregate-trades-of-2 : tie.Need-slice_bounds-trades_of-end-2
slice-aggregate-trades-of-2 c =
    let f = c.before.before.before.before.before in sym (length-take-le _ _ (omega (arith, size-hours f, f.blocks_of-found.ensures.few)))

array-share-prefix-quantities : tie.Need-slice_bounds-quantities-end
array-share-prefix-quantities c = let f = c.before.before.before.before.before in omega (arith, size-quantities f, f.blocks_of-found.ensures.few)

slice-aggregate-trades-of-3 : tie.Need-slice_bounds-trades_of-end-3
slice-aggregate-trades-of-3 c =
    let f = c.before.before.before.before.before.before in sym (length-take-le _ _ (omega (arith, size-quantities f, f.blocks_of-found.ensures.few)))

trades-of-requires : tie.Need-trades_of-trades-requires
trades-of-requires c κs =
    let f = c.before.before.before.before.before.before in
    let few = f.blocks_of-found.ensures.few in
    let pre = f.requires in
    let sides = length-take-le f.blocks_of-found.result.count f.blocks_of-found.result.sides (omega (arith, size-sides f, few)) in
    let hours = length-take-le f.blocks_of-found.result.count f.blocks_of-found.result.hours (omega (arith, size-hours f, few)) in
    let quantities = length-take-le f.blocks_of-found.result.count f.blocks_of-found.result.quantities (omega (arith, size-quantities f, few)) in
    (record { as_many_prices = sides ∙ sym hours; as_many_quantities = sides ∙ sym quantities; not_too_many = omega (arith, sides, few) }, pre.1, pre.2)

fit : (t : Traded) → (t.trades_of-trades.result.sales ≤ most_traded) × (t.trades_of-trades.result.buys ≤ most_traded)
fit t =
    let f = t.before.before.before.before.before.before.before in
    trades-fit _ f.requires.0 _ _ _ _ _ _ f.blocks_of-found.ensures (size-records f) (size-sides f) (size-hours f) (size-prices f) (size-quantities f) _ _ _ _
    t.trades_of-trades.ensures

add-result : tie.Need-overflow_add-result
add-result c = omega (arith, fit c.before)

sub-result : tie.Need-overflow_sub-result
sub-result c = omega (arith, fit c.before.before)

cast-result : tie.Need-overflow_cast-result
cast-result c = omega (arith, fit c.before.before)

returns : tie.Need-returns
returns c =
    let t = c.before.before in
    let f = t.before.before.before.before.before.before.before in
    net-is _ f.requires.0 _ _ _ _ _ _ f.blocks_of-found.ensures (size-records f) (size-sides f) (size-hours f) (size-prices f) (size-quantities f) _ _ _ _
    t.trades_of-trades.ensures

pub net_in_spec : {M : Type 1} → statement M
net_in_spec =
    tie.close
    (tie.spec
    blocks-of-requires
    array-share-prefix-sides
    slice-aggregate-trades-of
    array-share-prefix-hours
    slice-aggregate-trades-of-2
    array-share-prefix-quantities
    slice-aggregate-trades-of-3
    trades-of-requires
    add-result
    sub-result
    cast-result
    returns)
