-- WHAT THE SETUP GIVES THE SEARCH: the tables and columns filled from an accepted book's columns are those of its day. Assumes nothing.
use Prim.Native.Nat.{ℕ, zero, suc, ◌+◌, ◌-◌, ◌*◌, ◌≤◌, ◌<◌}
use mathlib.Core.Path.{◌≡◌, refl, sym, ap, ◌∙◌}
use mathlib.Core.List.{List, [], ◌∷◌}
use mathlib.Core.Bool.{Bool, true, false, cond}
use mathlib.Core.Logic.{◌↔◌}
use native.Mathlib.Omega.{arith}
use native.Mathlib.Decide.{dec_le}
use native.Mathlib.Nat.{lt_of_not-le}
use lib.ListN.{length, take, drop, get_or, length-map, drop_of_length-le}
use lib.Seq.{get_or-take, get_or-drop, slice}
use Rattle.book.specs.Bounds.{most_blocks}
use Rattle.orders.specs.Layout.{step_places}
use Rattle.places.specs.Layout.{hour_places}
use Rattle.records.specs.Records.{number, portfolio, holds_hour}
use Rattle.fields.specs.Hours.{counted_hours}
use Rattle.book.specs.Refusals.{Accepted}
use Rattle.orders.specs.Bridge.{day_from}
use Rattle.orders.specs.Columns.{StepColumns, BlockColumns, side_for, steps_from, block_of, blocks_from}
use Rattle.orders.specs.Columns.{block_records, block_side_at, block_hours_at, block_price_at, block_quantity_at, parent_column}
use Rattle.orders.proofs.BridgeLaws.{day-edition, prices-in-range, hours-in-range, day-quiet, day-hours-read, day-short, blocks-from-columns, block-count, hour-count}
use Rattle.orders.proofs.FrontLaws.{block-records-front, block-sides-front, block-hours-front, block-prices-front, block-quantities-front}
use Rattle.orders.proofs.HourLaws.{hour-from-columns, ends-rise, ends-fit}
use Rattle.orders.proofs.PlaceLaws.{block-place}
use Rattle.orders.proofs.LinkLaws.{links-stand, parents-read}
use Rattle.rules.specs.Orders.{Side, buy, sell, Step, Block, max_price}
use Rattle.rules.specs.Hour.{by_side, when, all_buys, all_sells}
use Rattle.rules.specs.Day.{change_hour, gives_way, weight, over_blocks, sells, buys, steps_in, price_sum}
use Rattle.rules.specs.Day as day
use Rattle.rules.specs.Contender.{PricesInRange}
use Rattle.rules.proofs.ChainLaws.{prices-in}
use Rattle.rules.proofs.PricingLaws.{Clearable, net}
use Rattle.rules.proofs.TableLaws.{unit_price}
use Rattle.rules.proofs.NeighbourLaws.{slack}
use Rattle.rules.proofs.BoundLaws.{gain}
use Rattle.rules.proofs.BoundsLaws.{weight-small}
use Rattle.rules.proofs.LossLaws.{against}
use Rattle.rules.proofs.PlaceLaws.{hour_at}
use Rattle.rules.proofs.TwinLaws.{limit_of, Exchangeable, Ahead, ahead-by-limits}
use Rattle.rules.proofs.LinkLaws.{parent_place, Parents, parents-stand}
use Rattle.tables.specs.Tables.{UnitPrices, NotRising}
use Rattle.tables.proofs.LevelLaws.{table-not-rising}
use Rattle.tables.proofs.GapLaws.{gap-table, gap-falls, gap-rises}
use Rattle.places.specs.Hours.{Small, cell, of_hour, sum_of_hours, counted_column, row_width, last_in, HasRows}
use Rattle.places.specs.Blocks.{side_at, quantity_at, limit_at, parent_at, ahead_at, behind_at, BlocksSized}
use Rattle.branches.specs.Tables.{Tables}
use Rattle.branches.specs.Meaning.{last_reached, Sized, Shown, Known, Turning}
use Rattle.setup.specs.Setup.{
  StepsHeld,
  BlocksHeld,
  ParentsHeld,
  from_to,
  hour_part,
  row_places,
  table_row,
  RowsFit,
  RowsAre,
  RangedAt,
  RangesAre,
  sum_below,
  blocks_trade,
  TradedBy,
  Written,
  TwinsAt,
  StandsIn,
  ParentsOf,
  ReadyFor,
}
use Rattle.places.proofs.CountedLaws.{block-sum}
use Rattle.setup.proofs.SetupTwinLaws.{Completed, twins-back, no-worse-true, no-worse-false}
use Rattle.setup.proofs.SetupTableLaws.{take-drop, row-length, range-holds}
use Rattle.places.proofs.CellLaws.{row_fits}
use Rattle.setup.proofs.SetupBlockLaws.{bought-within}

-- THE BLOCKS OF THE COLUMNS
blocks_at : (b r s x p q : List ℕ) (j : ℕ) → j < length r → j < length s → j < length x → j < length p → j < length q →
    drop j (blocks_from b r s x p q)
    ≡ block_of (number b (get_or r j 0)) (portfolio b (get_or r j 0)) (get_or s j 0) (get_or x j 0) (get_or p j 0) (get_or q j 0) ∷ drop (suc j) (blocks_from b r s x p q)
unfolding blocks_from
blocks_at b [] s x p q j kr ks kx kp kq = absurd (omega arith)
blocks_at b (r₀ ∷ r) [] x p q j kr ks kx kp kq = absurd (omega arith)
blocks_at b (r₀ ∷ r) (s₀ ∷ s) [] p q j kr ks kx kp kq = absurd (omega arith)
blocks_at b (r₀ ∷ r) (s₀ ∷ s) (x₀ ∷ x) [] q j kr ks kx kp kq = absurd (omega arith)
blocks_at b (r₀ ∷ r) (s₀ ∷ s) (x₀ ∷ x) (p₀ ∷ p) [] j kr ks kx kp kq = absurd (omega arith)
blocks_at b (r₀ ∷ r) (s₀ ∷ s) (x₀ ∷ x) (p₀ ∷ p) (q₀ ∷ q) zero kr ks kx kp kq = refl
blocks_at b (r₀ ∷ r) (s₀ ∷ s) (x₀ ∷ x) (p₀ ∷ p) (q₀ ∷ q) (suc j) kr ks kx kp kq =
    blocks_at b r s x p q j (omega arith) (omega arith) (omega arith) (omega arith) (omega arith)

-- a sum over blocks that stand one after the other
over_below : (l : List Block) (B : ℕ → Block) (f : Block → ℕ) (n : ℕ) → ((j : ℕ) → j < n → drop j l ≡ B j ∷ drop (suc j) l) →
    over_blocks f l ≡ sum_below n (λ j. f (B j)) + over_blocks f (drop n l)
unfolding sum_below
over_below l B f zero next = omega arith
over_below l B f (suc n) next =
    omega (arith, over_below l B f n (λ j k. next j (omega arith)), ap (over_blocks f) (next n (omega arith)))

-- all that blocks trade is what they sell and what they buy
traded-both : (n : ℕ) (runs : ℕ → Bool) (side : ℕ → Side) (q : ℕ → ℕ) →
    sum_below n (λ i. when (runs i) (by_side (side i) (q i) (cond true (q i) 0)))
    ≡ sum_below n (λ i. when (runs i) (by_side (side i) 0 (q i))) + sum_below n (λ i. when (runs i) (by_side (side i) (q i) 0))
unfolding sum_below
traded-both zero runs side q = omega arith
traded-both (suc n) runs side q = omega (arith, traded-both n runs side q, one (runs n) (side n) (q n))
  where
    one : (t : Bool) (s : Side) (x : ℕ) → when t (by_side s x (cond true x 0)) ≡ when t (by_side s 0 x) + when t (by_side s x 0)
    one true buy x = omega arith
    one true sell x = omega arith
    one false buy x = omega arith
    one false sell x = omega arith

-- a place of a row
row_at : (w : ℕ) (table : List ℕ) (h most i : ℕ) → i < row_places most → get_or (table_row w table h most) i 0 ≡ get_or table (h * w + i) 0
row_at w table h most i k = get_or-take (row_places most) (drop (h * w) table) i 0 k ∙ get_or-drop (h * w) table i 0

-- a part of a column, in either form
slice-from-to : (a e : ℕ) (l : List ℕ) → a ≤ e → slice a e l ≡ from_to a e l
slice-from-to a e l k = let z : a + (e - a) ≡ e = omega arith in rw (take-drop a (e - a) l, z)

-- THE DAY OF AN ACCEPTED BOOK
module _ (b ends step_records sides prices quantities : List ℕ) (count : ℕ) (records blockSides hours blockPrices blockQuantities : List ℕ)
    (a : Accepted b) (sc : StepColumns b ends step_records sides prices quantities)
    (bc : BlockColumns most_blocks b count records blockSides hours blockPrices blockQuantities)
    (parents : List ℕ) (po : ParentsOf b count parents) where
  abbrev block_here : ℕ → Block
  block_here j = block_of (number b (get_or records j 0)) (portfolio b (get_or records j 0)) (get_or blockSides j 0) (get_or hours j 0) (get_or blockPrices j 0) (get_or blockQuantities j 0)

  block-next : (j : ℕ) → j < count → drop j (day_from b).blocks ≡ block_here j ∷ drop (suc j) (day_from b).blocks
  block-next j k =
      let n = sym bc.counted in
      let l = block_records b in
      let lr : length (take count records) ≡ count = ap length (block-records-front bc) ∙ n in
      let ls : length (take count blockSides) ≡ count = ap length (block-sides-front bc) ∙ length-map l (block_side_at b) ∙ n in
      let lh : length (take count hours) ≡ count = ap length (block-hours-front bc) ∙ length-map l (block_hours_at b) ∙ n in
      let lp : length (take count blockPrices) ≡ count = ap length (block-prices-front bc) ∙ length-map l (block_price_at b) ∙ n in
      let lq : length (take count blockQuantities) ≡ count = ap length (block-quantities-front bc) ∙ length-map l (block_quantity_at b) ∙ n in
      let t = blocks_at b (take count records) (take count blockSides) (take count hours) (take count blockPrices) (take count blockQuantities) j
      (omega arith) (omega arith) (omega arith) (omega arith) (omega arith) in
      rw (blocks-from-columns b count records blockSides hours blockPrices blockQuantities bc a)
      (rw (
        get_or-take count records j 0 k,
        get_or-take count blockSides j 0 k,
        get_or-take count hours j 0 k,
        get_or-take count blockPrices j 0 k,
        get_or-take count blockQuantities j 0 k,
      ) at t)

  blocks-counted : length (day_from b).blocks ≡ count
  blocks-counted = block-count b count records blockSides hours blockPrices blockQuantities bc a

  none_after : drop count (day_from b).blocks ≡ []
  none_after = let most : length (day_from b).blocks ≤ count = omega (arith, blocks-counted) in drop_of_length-le (day_from b).blocks most

  bought-is : (h : ℕ) → blocks_trade count blockSides hours blockQuantities false h ≡ over_blocks (buys h) (day_from b).blocks
  bought-is h =
      omega (arith, over_below (day_from b).blocks block_here (buys h) count block-next, ap (over_blocks (buys h)) none_after)

  traded-is : (h : ℕ) → blocks_trade count blockSides hours blockQuantities true h
      ≡ over_blocks (sells h) (day_from b).blocks + over_blocks (buys h) (day_from b).blocks
  traded-is h =
      omega (
        arith,
        over_below (day_from b).blocks block_here (sells h) count block-next,
        over_below (day_from b).blocks block_here (buys h) count block-next,
        ap (over_blocks (sells h)) none_after,
        ap (over_blocks (buys h)) none_after,
        traded-both count (λ i. holds_hour (get_or hours i 0) h) (λ i. side_for (get_or blockSides i 0)) (λ i. get_or blockQuantities i 0),
      )

  abbrev steps_here : ℕ → List Step
  steps_here h = steps_from h (hour_part ends (h - 1) sides) (hour_part ends (h - 1) prices) (hour_part ends (h - 1) quantities)

  steps-are : (h : ℕ) → 1 ≤ h → h ≤ hour_places → steps_in h (day_from b).steps ≡ steps_here h
  steps-are h first last =
      let one : h - 1 + 1 ≡ h = omega arith in
      let rise = ends-rise b ends step_records sides prices quantities sc (h - 1) h (omega arith) last in
      rw one
      (hour-from-columns b ends step_records sides prices quantities sc a h first last
      ∙ rw (
        slice-from-to (get_or ends (h - 1) 0) (get_or ends h 0) sides rise,
        slice-from-to (get_or ends (h - 1) 0) (get_or ends h 0) prices rise,
        slice-from-to (get_or ends (h - 1) 0) (get_or ends h 0) quantities rise,
      ))

  -- A BLOCK OF THE COLUMNS, at the prices root as they count
  abbrev counted_root : List ℕ → List ℕ
  counted_root = counted_column (weight (day_from b).hours change_hour)

  module _ (root columns : List ℕ) (rootSize : length root ≡ hour_places) (all : Completed (day_from b).hours blockSides hours blockPrices blockQuantities parents (counted_root root) count columns) (j : ℕ) (k : j < count) where
    w : Written (day_from b).hours blockSides hours blockPrices blockQuantities (counted_root root) columns j
    w = all.columns j k

    abbrev price_of : ℕ → ℕ
    price_of h = get_or root (h - 1) 0

    sum_is : price_sum (day_from b).hours price_of (block_here j) ≡ sum_of_hours (counted_root root) (get_or hours j 0)
    unfolding price_sum
    sum_is = block-sum (day_from b).hours root (get_or hours j 0) rootSize

    limit_is : (block_here j).price * day.hour_count (day_from b).hours (block_here j) ≡ get_or blockPrices j 0 * counted_hours (day_from b).hours (get_or hours j 0)
    limit_is =
        rw (hour-count (day_from b).hours (number b (get_or records j 0)) (portfolio b (get_or records j 0)) (get_or blockSides j 0) (get_or hours j 0) (get_or blockPrices j 0)
        (get_or blockQuantities j 0))

    limit-at : limit_of (day_from b).hours (block_here j) ≡ limit_at columns j
    limit-at = limit_is ∙ sym w.limit_is

    against-is : against (day_from b).hours price_of (block_here j)
        ≡ get_or blockQuantities j 0
        * by_side (side_for (get_or blockSides j 0)) (sum_of_hours (counted_root root) (get_or hours j 0) - get_or blockPrices j 0 * counted_hours (day_from b).hours (get_or hours j 0))
        (get_or blockPrices j 0 * counted_hours (day_from b).hours (get_or hours j 0) - sum_of_hours (counted_root root) (get_or hours j 0))
    unfolding against
    against-is = rw (sum_is, limit_is)

    gain-is : gain (day_from b).hours price_of (block_here j)
        ≡ get_or blockQuantities j 0
        * by_side (side_for (get_or blockSides j 0)) (get_or blockPrices j 0 * counted_hours (day_from b).hours (get_or hours j 0) - sum_of_hours (counted_root root) (get_or hours j 0))
        (sum_of_hours (counted_root root) (get_or hours j 0) - get_or blockPrices j 0 * counted_hours (day_from b).hours (get_or hours j 0))
    unfolding gain
    gain-is = rw (sum_is, limit_is)

    block-shown : Shown (day_from b) price_of columns j
    block-shown = record {
      block = block_here j;
      next = block-next j k;
      side_is = rw w.side_is;
      runs_is = λ h. rw w.hours_is;
      row_is = λ h c. all.row j h k c.first c.last ∙ rw (w.hours_is, w.quantity_is);
      limit_is = limit-at;
      against_is = against-is ∙ sym w.against_is;
      gain_is = gain-is ∙ sym w.gain_is;
    }

  -- TWINS OF THE COLUMNS: block i is ahead of block j where its limit is no worse
  module _ (root columns : List ℕ) (rootSize : length root ≡ hour_places) (all : Completed (day_from b).hours blockSides hours blockPrices blockQuantities parents (counted_root root) count columns) where
    -- the column of the parents has those of the day
    parent-at : (j : ℕ) → j < count → parent_at columns j ≡ parent_place (day_from b) j
    parent-at j k = all.parent_is j k ∙ po.are j k

    -- a block that may stand in for another may be exchanged for it
    exchangeable : (i j : ℕ) → i < count → j < count → StandsIn columns i j → Exchangeable (day_from b) i j
    exchangeable i j ki kj s = record {
      parent = parent_place (day_from b);
      parents = po.stand.links;
      none_or_same = λ k e. sym (parent-at j kj) ∙ s.none_or_same k (parent-at i ki ∙ e);
      nobodys = λ c k e.
          let inside : c < count = omega (arith, blocks-counted) in
          s.nobodys c (omega (arith, all.few)) (parent-at c inside ∙ e);
    }

    twins-ahead : (i j : ℕ) (ki : i < count) (kj : j < count) → TwinsAt columns i j → StandsIn columns i j →
        by_side (side_for (side_at columns i)) (limit_at columns j) (limit_at columns i)
        ≤ by_side (side_for (side_at columns i)) (limit_at columns i) (limit_at columns j) →
        (j < i → (1 ≤ quantity_at columns i)
        × (by_side (side_for (side_at columns i)) (limit_at columns j) (limit_at columns i)
        < by_side (side_for (side_at columns i)) (limit_at columns i) (limit_at columns j))) →
        Ahead (day_from b) (λ h. get_or root (h - 1) 0) i j
    twins-ahead i j ki kj t s le less =
        let wi = all.columns i ki in
        let wj = all.columns j kj in
        let mine = limit-at root columns rootSize all i ki in
        let yours = limit-at root columns rootSize all j kj in
        let hour : get_or hours i 0 ≡ get_or hours j 0 = sym wi.hours_is ∙ t.same_hours ∙ wj.hours_is in
        ahead-by-limits (day_from b) _ i j (block_here i) (block_here j) (block-next i ki) (block-next j kj)
        (ap side_for (sym wi.side_is ∙ t.same_side ∙ wj.side_is)) (λ h. rw hour) (sym wi.quantity_is ∙ t.same_quantity ∙ wj.quantity_is)
        (links-stand b a).numbers (exchangeable i j ki kj s) (rw (mine, yours, ← wi.side_is) le)
        (λ n. (rw (← wi.quantity_is) (less n).0, rw (mine, yours, ← wi.side_is) (less n).1))

    is-ahead : (j a : ℕ) → j < count → ahead_at columns j ≡ suc a → (a < j) × Ahead (day_from b) (λ h. get_or root (h - 1) 0) a j
    is-ahead j a k e =
        let f = all.ahead j k a e in
        let below = f.earlier in (
          below,
          twins-ahead a j (omega arith) k f.twins f.stands_in
              (rw f.twins.same_side (no-worse-true (side_at columns j) (limit_at columns a) (limit_at columns j) f.better)) (λ n. absurd (omega arith)),
        )

    is-behind : (j c : ℕ) → j < count → behind_at columns j ≡ suc c → (c < j) × Ahead (day_from b) (λ h. get_or root (h - 1) 0) j c
    is-behind j c k e =
        let f = all.behind j k c e in
        let below = f.earlier in
        let less = no-worse-false (side_at columns j) (limit_at columns c) (limit_at columns j) f.better in
        (below, twins-ahead j c k (omega arith) (twins-back columns c j f.twins) f.stands_in (omega (arith, less)) (λ n. (f.trades, less)))

  -- THE HOURS
  module _ (off most root unit_prices gap first last turn columns : List ℕ) (gapSize : length gap ≡ length unit_prices) (rootSize : length root ≡ hour_places) (fit : RowsFit (row_width unit_prices) most)
      (bought : TradedBy count blockSides hours blockQuantities false off) (traded : TradedBy count blockSides hours blockQuantities true most)
      (rows : RowsAre (row_width unit_prices) sides prices quantities ends off most unit_prices) (ranges : RangesAre (row_width unit_prices) sides prices quantities ends off most root unit_prices gap first last turn)
      (blocks : Completed (day_from b).hours blockSides hours blockPrices blockQuantities parents (counted_root root) count columns) where
    abbrev root_of : ℕ → ℕ
    root_of h = get_or root (h - 1) 0

    -- what the gap table leaves off an hour's gaps
    abbrev rest_of : ℕ → ℕ
    rest_of h = slack (root_of h) (hour_at (day_from b) h (of_hour first h)) - cell gap h (of_hour first h)

    module _ (h : ℕ) (from : 1 ≤ h) (to : h ≤ hour_places) where
      inside : h - 1 < hour_places
      inside = omega arith

      off-is : get_or off (h - 1) 0 ≡ over_blocks (buys h) (day_from b).blocks
      off-is = bought.is h from to ∙ bought-is h

      most-is : get_or most (h - 1) 0 ≡ over_blocks (sells h) (day_from b).blocks + over_blocks (buys h) (day_from b).blocks
      most-is = traded.is h from to ∙ traded-is h

      abbrev steps : List Step
      steps = steps_in h (day_from b).steps

      abbrev most_here : ℕ
      most_here = get_or most (h - 1) 0

      abbrev off_here : ℕ
      off_here = get_or off (h - 1) 0

      range : RangedAt (row_width unit_prices) sides prices quantities ends off most root unit_prices gap first last turn (h - 1)
      range = ranges (h - 1) inside

      unit-prices : UnitPrices steps off_here (table_row (row_width unit_prices) unit_prices (h - 1) most_here)
      unit-prices = rw (steps-are h from to) (rows (h - 1) inside h)

      prices-here : PricesInRange steps
      prices-here = prices-in h (day_from b).steps (prices-in-range b a)

      bought-here : range.bought ≡ all_buys steps
      bought-here = rw (steps-are h from to) (range.all.all_bought h (rw (steps-are h from to) at prices-here))

      sold-here : range.sold ≡ all_sells steps
      sold-here = rw (steps-are h from to) (range.all.all_sold h (rw (steps-are h from to) at prices-here))

      clearing-at : (i : ℕ) → i ≤ most_here → ((of_hour first h ≤ i) × (i ≤ of_hour last h)) ↔ Clearable (net steps i off_here)
      clearing-at = range.range.clearing steps bought-here sold-here

      room : (h - 1) * row_width unit_prices + row_places most_here ≤ length unit_prices
      room = row_fits unit_prices (h - 1) (row_places most_here) inside (fit (h - 1) inside)

      cell-is : (i : ℕ) → i ≤ most_here + 1 → get_or (table_row (row_width unit_prices) unit_prices (h - 1) most_here) i 0 ≡ cell unit_prices h i
      cell-is i k = row_at (row_width unit_prices) unit_prices (h - 1) most_here i (omega arith)

      gap-cell : (i : ℕ) → i ≤ most_here + 1 → get_or (table_row (row_width unit_prices) gap (h - 1) most_here) i 0 ≡ cell gap h i
      gap-cell i k = row_at (row_width unit_prices) gap (h - 1) most_here i (omega arith) ∙ rw (← gapSize)

      unit-price-is : (i : ℕ) → i ≤ last_reached (day_from b) h + 1 → cell unit_prices h i ≡ unit_price (net steps i (suc (over_blocks (buys h) (day_from b).blocks)))
      unit-price-is i k =
          rw (← off-is) (sym (cell-is i (omega (arith, most-is))) ∙ unit-prices i (omega (arith, most-is, row-length (row_width unit_prices) unit_prices (h - 1) most_here room)))

      row-falls : NotRising (table_row (row_width unit_prices) unit_prices (h - 1) most_here)
      row-falls = table-not-rising steps off_here (table_row (row_width unit_prices) unit_prices (h - 1) most_here) unit-prices

      row_inside : of_hour last h < length (table_row (row_width unit_prices) unit_prices (h - 1) most_here)
      row_inside = omega (arith, range.range.inside, traded.small (h - 1), row-length (row_width unit_prices) unit_prices (h - 1) most_here room)

      last-is : of_hour last h ≤ last_reached (day_from b) h
      last-is = omega (arith, range.range.inside, most-is)

      clears-at : (i : ℕ) → of_hour first h ≤ i → i ≤ of_hour last h → Clearable (hour_at (day_from b) h i)
      clears-at i x y = rw (← off-is) ((clearing-at i (omega (arith, range.range.inside))).0 (x, y))

      clears-only : (i : ℕ) → i ≤ last_reached (day_from b) h → Clearable (hour_at (day_from b) h i) → (of_hour first h ≤ i) × (i ≤ of_hour last h)
      clears-only i k c = (clearing-at i (omega (arith, most-is))).1 (rw (← off-is) at c)

      -- the gap table
      ordered : (of_hour first h ≤ off_here) × (off_here ≤ of_hour last h)
      ordered =
          range-holds range.bought range.sold off_here most_here (of_hour first h) (of_hour last h) range.range
          (bought-within count blockSides hours blockQuantities off most bought traded (h - 1) inside)

      gap_here : (i : ℕ) → of_hour first h ≤ i → i ≤ of_hour last h →
          slack (root_of h) (net steps i off_here) ≡ get_or (table_row (row_width unit_prices) gap (h - 1) most_here) i 0 + slack (root_of h) (net steps (of_hour turn h) off_here)
      gap_here =
          let o = ordered in
          let top = range.range.inside in
          let fits = traded.small (h - 1) in
          gap-table steps prices-here off_here (table_row (row_width unit_prices) unit_prices (h - 1) most_here) unit-prices (root_of h) (of_hour first h) (of_hour last h) (of_hour turn h)
          (table_row (row_width unit_prices) gap (h - 1) most_here) range.gaps (omega (arith, row-length (row_width unit_prices) unit_prices (h - 1) most_here room))
          ((clearing-at (of_hour first h) (omega arith)).0 (omega arith, omega arith))
          ((clearing-at (of_hour last h) (omega arith)).0 (omega arith, omega arith))

      gap_is : (i : ℕ) → of_hour first h ≤ i → i ≤ of_hour last h → slack (root_of h) (hour_at (day_from b) h i) ≡ cell gap h i + rest_of h
      gap_is i x y =
          let o = ordered in
          let top = range.range.inside in
          let fits = traded.small (h - 1) in
          rw (← off-is)
          (omega (
            arith,
            gap_here i x y,
            gap_here (of_hour first h) (omega arith) (omega arith),
            gap-cell i (omega arith),
            gap-cell (of_hour first h) (omega arith),
          ))

    abbrev tables : Tables
    tables =
        record {
          unit_prices = unit_prices;
          gaps = gap;
          first = first;
          last = last;
          turn = turn;
          change = weight (day_from b).hours change_hour;
          shifts = gives_way (day_from b).edition;
          blocks = columns;
          count = count;
        }

    pub known : Known (day_from b) root_of rest_of tables
    known = record {
      prices = prices-in-range b a;
      hours = hours-in-range b a;
      quiet = day-quiet b a;
      change_is = refl;
      change_few = weight-small (day_from b).hours change_hour (day-short b a);
      shifts_is = refl;
      counted = blocks-counted;
      unit_price_is = λ h i c. unit-price-is h c.first c.last i;
      last_is = λ h c. last-is h c.first c.last;
      clears = λ h i c. clears-at h c.first c.last i;
      clears_only = λ h i c. clears-only h c.first c.last i;
      gap_is = λ h i c. gap_is h c.first c.last i;
      shown = block-shown root columns rootSize blocks;
      parent = parent_place (day_from b);
      parents = po.stand;
      parent_is = parent-at root columns rootSize blocks;
      ahead = is-ahead root columns rootSize blocks;
      behind = is-behind root columns rootSize blocks;
    }

    pub turning : Turning tables
    turning = record {
      falls = λ h i j from to x y z t.
          let o = (range h from to).range.inside in
          let fits = traded.small (h - 1) in
          let g = gap-falls _ _ _ _ _ _ (row-falls h from to) (row_inside h from to) (range h from to).gaps i j x y z t in
          rw (gap-cell h from to i (omega arith), gap-cell h from to j (omega arith)) at g;
      rises = λ h i j from to x y z t.
          let o = (range h from to).range.inside in
          let fits = traded.small (h - 1) in
          let g = gap-rises _ _ _ _ _ _ (row-falls h from to) (row_inside h from to) (range h from to).gaps i j x y z t in
          rw (gap-cell h from to i (omega arith), gap-cell h from to j (omega arith)) at g;
    }

-- THE ROWS HAVE ROOM for what the blocks reach
pub rows_fit : (w count : ℕ) (sides hours quantities most : List ℕ) → TradedBy count sides hours quantities true most →
    ((h : ℕ) → 1 ≤ h → h ≤ hour_places → row_places (blocks_trade count sides hours quantities true h) ≤ w) → RowsFit w most
rows_fit w count sides hours quantities most traded room h k =
    let back : h + 1 - 1 ≡ h = omega arith in
    let is : get_or most h 0 ≡ blocks_trade count sides hours quantities true (h + 1) =
    ap (λ i. get_or most i 0) (sym back) ∙ traded.is (h + 1) (omega arith) (omega arith) in
    omega (arith, is, room (h + 1) (omega arith) (omega arith))

pub off-fits : (table off most : List ℕ) → length off ≡ hour_places → ((h : ℕ) → h < hour_places → get_or off h 0 ≤ get_or most h 0) →
    RowsFit (row_width table) most → Small (last_in table) off
off-fits table off most size within fit i = elim (dec_le hour_places i) [
  | yes k ↦ let z : length off ≤ i = omega arith in rw (lib.ListN.get_or-eq_default off 0 z) (omega arith)
  | no k ↦ let a : i < hour_places = lt_of_not-le k in omega (arith, within i a, fit i a)
]

-- WHAT IS PREPARED
pub set-up : (t : Tables) → HasRows t.unit_prices → length t.gaps ≡ length t.unit_prices → length t.first ≡ hour_places → length t.last ≡ hour_places →
    Small (last_in t.unit_prices) t.last → Small max_price t.unit_prices → BlocksSized t.blocks → t.change ≤ 2 → t.count ≤ most_blocks → Sized t
set-up t prices gaps first last fits small blocks change few =
    record {
      price_rows = prices;
      gap_rows = rw gaps prices;
      first_hours = first;
      last_hours = last;
      last_in_prices = fits;
      last_in_gaps = rw gaps fits;
      prices_fit = small;
      blocks_fit = blocks;
      change_few = change;
      few = few;
    }

pub ready : (ed day : ℕ) (sides prices quantities ends : List ℕ) (count : ℕ) (records blockSides hours blockPrices blockQuantities parents : List ℕ)
    (off most root unit_prices gap first last turn : List ℕ) (often : ℕ) (shifts : Bool) (columns : List ℕ) → length gap ≡ length unit_prices → length root ≡ hour_places →
    RowsFit (row_width unit_prices) most → TradedBy count blockSides hours blockQuantities false off →
    TradedBy count blockSides hours blockQuantities true most → RowsAre (row_width unit_prices) sides prices quantities ends off most unit_prices →
    RangesAre (row_width unit_prices) sides prices quantities ends off most root unit_prices gap first last turn →
    often ≡ weight day change_hour → shifts ≡ gives_way ed → Completed day blockSides hours blockPrices blockQuantities parents (counted_column often root) count columns →
    ReadyFor ed day sides prices quantities ends records blockSides hours blockPrices blockQuantities parents
    record { unit_prices = unit_prices; gaps = gap; first = first; last = last; turn = turn; change = often; shifts = shifts; blocks = columns; count = count }
ready ed day sides prices quantities ends count records blockSides hours blockPrices blockQuantities parents off most root unit_prices gap first last turn often shifts
    columns l rs fit o t rows ranges is way w b step_records a en e sc bc po =
    let same : day ≡ (day_from b).hours = sym (day-hours-read b ∙ e) in
    let on-day = rw (is, same) at w in
    let same-edition : ed ≡ (day_from b).edition = sym (day-edition b ∙ en) in
    rw (is, same, way, same-edition)
    record {
      p = _;
      rest = _;
      known = known b ends step_records sides prices quantities count records blockSides hours blockPrices blockQuantities a sc bc parents po off most root unit_prices
          gap first last turn columns l rs fit o t rows ranges on-day;
      turning = turning b ends step_records sides prices quantities count records blockSides hours blockPrices blockQuantities a sc bc parents po off most root unit_prices
          gap first last turn columns l rs fit o t rows ranges on-day;
    }

-- WHAT SAFETY ASKS holds of an accepted book's columns, where the steps' are arrays of 2,048
pub steps-held : (b ends step_records sides prices quantities : List ℕ) → StepColumns b ends step_records sides prices quantities →
    length sides ≡ step_places → length prices ≡ step_places → length quantities ≡ step_places → StepsHeld sides prices quantities ends
steps-held b ends step_records sides prices quantities c s p q = record {
  as_many_prices = s ∙ sym p;
  as_many_quantities = s ∙ sym q;
  not_too_many = omega arith;
  rising = λ h k. ends-rise b ends step_records sides prices quantities c h (h + 1) (omega arith) (omega arith);
  inside = λ h k. omega (arith, ends-fit b ends step_records sides prices quantities c h k);
}

pub blocks-held : (b : List ℕ) (count : ℕ) (records sides hours prices quantities : List ℕ) →
    BlockColumns most_blocks b count records sides hours prices quantities → Accepted b → BlocksHeld count prices quantities
blocks-held b count records sides hours prices quantities c a = record {
  few = c.few;
  prices_fit = λ i k. (block-place b count records sides hours prices quantities c a i k).price_range.1;
  quantities_fit = λ i k. (block-place b count records sides hours prices quantities c a i k).quantity_range.1;
}

-- THE PARENTS of an accepted book's blocks stand as the rules ask, and those that are read are theirs
day-parents : (b : List ℕ) → Accepted b → Parents (day_from b) (parent_place (day_from b))
day-parents b a = parents-stand (day_from b) (links-stand b a)

pub parents-held : (b parents : List ℕ) → Accepted b → parents ≡ parent_column b → ParentsHeld parents
parents-held b parents a e i k = rw (e, parents-read b a i) ((day-parents b a).before i)

pub parents-of : (b : List ℕ) (count : ℕ) (parents : List ℕ) → Accepted b → parents ≡ parent_column b → ParentsOf b count parents
parents-of b count parents a e = record { are = λ j k. rw e (parents-read b a j); stand = day-parents b a }
