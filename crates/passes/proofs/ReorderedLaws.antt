-- THE COLUMNS IN AN ORDER are those of the day with its blocks in that order, whose tables are the same; the published set in that order is the cheapest one
-- there; and put back by number it is the published one of the day itself, with the same prices and traded quantities. Assumes nothing.
use Prim.Native.Nat.{ℕ, zero, suc, ◌-◌, ◌^◌, ◌≤◌, ◌<◌}
use mathlib.Core.Bool.{Bool, false}
use mathlib.Core.List.{List}
use mathlib.Core.Path.{◌≡◌, refl, sym, ap, ◌∙◌}
use native.Mathlib.Omega.{arith}
use borrow.Author.Tests.{ne_eqb}
use lib.ListN.{length, get_or}
use lib.Seq.{ext_get_or}
use Rattle.rules.specs.Orders.{Step}
use Rattle.rules.specs.Day.{Day, decisions, sells, buys}
use Rattle.rules.specs.Outcome.{outcome}
use Rattle.rules.specs.Contender.{NumbersRise}
use Rattle.rules.proofs.BestLaws.{FirstBest, outcome-first}
use Rattle.rules.proofs.DayLaws.{empty-lawful}
use Rattle.rules.proofs.LinkLaws.{Parents}
use Rattle.rules.proofs.TwinLaws.{Ahead, block-at, outcome-in-turn}
use Rattle.rules.proofs.Ranks.{rank_of}
use Rattle.rules.proofs.TieLaws.{ties, ties-same-rank}
use Rattle.rules.proofs.CostLaws.{costs-apart, outcome-costs-least}
use Rattle.rules.proofs.SetBits.{bits_at}
use Rattle.rules.proofs.RearrangedLaws as other-order
use Rattle.rules.proofs.RearrangedLaws.{
  no_block,
  block_at,
  by_order,
  IsOrder,
  rearranged,
  placed_parent,
  parent_within,
  length-by,
  at-by,
  by-order-back,
  size-rearranged,
  next-rearranged,
  sum-rearranged,
  hour-rearranged,
  quiet-rearranged,
  prices-rearranged,
  traded-rearranged,
  closed-rearranged,
  ahead-placed,
  in-turn-rearranged,
  lawful-rearranged,
  parent-within,
  parents-within,
}
use Rattle.places.specs.Blocks.{BlocksSized, parent_at, rank_at}
use Rattle.order.specs.Order.{placed_name, IsOrderOf, Reordered, ByNumber}
use Rattle.branches.specs.Tables.{Tables}
use Rattle.branches.specs.Meaning.{Sized, Shown, Known, last_reached, loss_above}
use Rattle.branches.proofs.DecisionLaws.{decisions-long}
use Rattle.search.specs.Meaning.{DayOf}
use Rattle.search.specs.declared.Day as code-day
use Rattle.search.specs.declared.Best.{Best}
use Rattle.passes.specs.Passes.{Cheapest, FoundThere, FoundIn}
use Rattle.passes.proofs.PassLaws.{adds}

-- the tables with other columns of the blocks
abbrev pub with_columns : List ℕ → Tables → Tables
with_columns columns t = record {
  unit_prices = t.unit_prices;
  gaps = t.gaps;
  first = t.first;
  last = t.last;
  turn = t.turn;
  change = t.change;
  shifts = t.shifts;
  blocks = columns;
  count = t.count;
}

-- an order and its places as numbers of positions
abbrev pub at : List ℕ → ℕ → ℕ
at l i = get_or l i 0

-- a name by its place, in the columns and in the rules
name-placed : (place : List ℕ) (name : ℕ) → placed_name place name ≡ other-order.placed_name (at place) name
unfolding placed_name
name-placed place zero = refl
name-placed place (suc k) = let same : suc k - 1 ≡ k = omega arith in rw (ne_eqb (suc k) 0 (λ z. omega arith), same) refl

module _ {day : Day} {p rest : ℕ → ℕ} {t : Tables} (known : Known day p rest t) {order place : List ℕ}
    (is : IsOrderOf t.blocks t.count order place) where
  -- the order tested is an order of the day's blocks
  order-of : IsOrder (length day.blocks) (at order) (at place)
  order-of = rw known.counted record { order_in = is.order_in; place_in = is.place_in; there = is.there; back = is.back }

  abbrev D : Day
  D = rearranged (at order) day

  -- the places that blocks reach are the same
  reached-same : (h : ℕ) → last_reached (rearranged (at order) day) h ≡ last_reached day h
  reached-same h = rw (sum-rearranged (at order) (at place) day order-of (sells h), sum-rearranged (at order) (at place) day order-of (buys h))

  module _ {other : List ℕ} (columns : Reordered t.count order place t.blocks other) where
    -- the block at place j and its columns
    shown-there : (j : ℕ) → j < t.count → Shown (rearranged (at order) day) p other j
    shown-there j k =
        let inside : j < length day.blocks = omega (arith, known.counted) in
        let s = known.shown (at order j) (is.order_in j k) in
        let block-is : block_at day.blocks (at order j) ≡ s.block = block-at day.blocks (at order j) s.block _ no_block s.next in
        record {
          block = s.block;
          next = next-rearranged (at order) (at place) day order-of j inside ∙ rw block-is;
          side_is = s.side_is ∙ rw (columns.side_is j k);
          runs_is = λ h. s.runs_is h ∙ rw (columns.hours_is j k);
          row_is = λ h c. columns.row_is j h k c.first c.last ∙ s.row_is h c;
          limit_is = s.limit_is ∙ sym (columns.limit_is j k);
          against_is = s.against_is ∙ sym (columns.against_is j k);
          gain_is = s.gain_is ∙ sym (columns.gain_is j k);
        }

    -- the parents at their places
    abbrev parent_there : ℕ → ℕ
    parent_there = placed_parent (at place) (at order) known.parent

    parent-there : (j : ℕ) → j < t.count → placed_name place (parent_at t.blocks (at order j)) ≡ parent_there j
    parent-there j k = name-placed place (parent_at t.blocks (at order j)) ∙ rw (known.parent_is (at order j) (is.order_in j k))

    parents-there : Parents (rearranged (at order) day) (parent_within (length (rearranged (at order) day).blocks) parent_there)
    parents-there =
        parents-within D parent_there (closed-rearranged (at order) (at place) day order-of known.parent known.parents.links) (λ j k.
        let inside : j < t.count = omega (arith, size-rearranged (at order) (at place) day order-of, known.counted) in
        rw (← (parent-there j inside)) (is.parents_before j inside))

    -- twins at their places
    ahead-there : (a j : ℕ) → a < t.count → j < t.count → Ahead day p (at order a) (at order j) → Ahead (rearranged (at order) day) p a j
    ahead-there a j ka kj ahead =
        rw (is.there a ka, is.there j kj) at (ahead-placed (at order) (at place) day order-of p (at order a) (at order j) ahead)

    -- THE DAY REARRANGED is behind the columns in that order
    pub known-there : Known (rearranged (at order) day) p rest (with_columns other t)
    known-there = record {
      prices = known.prices;
      hours = known.hours;
      quiet = quiet-rearranged (at order) (at place) day order-of known.quiet;
      change_is = known.change_is;
      change_few = known.change_few;
      shifts_is = known.shifts_is;
      counted = size-rearranged (at order) (at place) day order-of ∙ known.counted;
      unit_price_is = λ h i c k.
          rw (sum-rearranged (at order) (at place) day order-of (buys h)) (known.unit_price_is h i c (rw (reached-same h) at k));
      last_is = λ h c. rw (reached-same h) (known.last_is h c);
      clears = λ h i c from to. rw (hour-rearranged (at order) (at place) day order-of h i) (known.clears h i c from to);
      clears_only = λ h i c k clear.
          known.clears_only h i c (rw (reached-same h) at k) (rw (hour-rearranged (at order) (at place) day order-of h i) at clear);
      gap_is = λ h i c from to. rw (hour-rearranged (at order) (at place) day order-of h i) (known.gap_is h i c from to);
      shown = shown-there;
      parent = parent_within (length D.blocks) parent_there;
      parents = parents-there;
      parent_is = λ j k.
          let inside : j < length D.blocks = omega (arith, size-rearranged (at order) (at place) day order-of, known.counted) in
          columns.parent_is j k ∙ parent-there j k ∙ sym (parent-within (length D.blocks) parent_there j inside);
      ahead = λ j a k e.
          let twin = columns.ahead_is j a k e in
          (twin.0, ahead-there a j (omega (arith, twin.0)) k (known.ahead (at order j) (at order a) (is.order_in j k) twin.1).1);
      behind = λ j b k e.
          let twin = columns.behind_is j b k e in
          (twin.0, ahead-there j b k (omega (arith, twin.0)) (known.behind (at order j) (at order b) (is.order_in j k) twin.1).1);
    }

    -- THE PUBLISHED SET in that order costs least of all
    module _ (few : t.count ≤ 32) (rise : NumbersRise 0 day.blocks) where
      abbrev there : List Bool
      there = by_order (at order) (length day.blocks) (outcome day)

      first : FirstBest day (outcome day)
      first = outcome-first day (empty-lawful day known.prices known.hours)

      -- the ranks in the columns are those by number
      rank-there : (set : List Bool) → length set ≡ t.count → ties (rank_at other) set ≡ ties (λ j. rank_of (at order j)) set
      rank-there set size = ties-same-rank (rank_at other) (λ j. rank_of (at order j)) set (λ j k. columns.rank_is j (omega arith))

      few-blocks : length day.blocks ≤ 32
      few-blocks = omega (arith, known.counted)

      there-size : length there ≡ t.count
      there-size = length-by false (at order) (length day.blocks) (outcome day) ∙ known.counted

      sized-by : (set : List Bool) → length set ≡ t.count → length set ≡ length D.blocks
      sized-by set size = size ∙ sym known.counted ∙ sym (size-rearranged (at order) (at place) day order-of)

      pub published-cheapest : Cheapest (rearranged (at order) day) p rest (with_columns other t) (by_order (at order) (length day.blocks) (outcome day))
      published-cheapest = record {
        size = there-size;
        is_lawful = lawful-rearranged (at order) (at place) day order-of (outcome day) ∙ first.is_lawful;
        sought = record {
          in_turn = in-turn-rearranged (at order) (at place) day order-of p (outcome day) (outcome-in-turn day known.prices known.hours rise p);
          cheapest = λ set size law.
              rw (rank-there there there-size, rank-there set size)
              (outcome-costs-least (at order) (at place) day order-of few-blocks known.prices known.hours _ _ (adds known-there) set (sized-by set size) law);
        };
        apart = λ set size e.
            costs-apart (at order) (at place) day order-of few-blocks (loss_above D p rest) set there (sized-by set size) (sized-by there there-size)
            (rw (rank-there there there-size, rank-there set size) at e);
      }

  -- PUT BACK BY NUMBER
  module _ {set numbered : ℕ} (by : ByNumber t.count place set numbered) where
    -- its decisions are those of the places, put back
    decided-back : decisions t.count numbered ≡ by_order (at place) (length day.blocks) (decisions t.count set)
    decided-back =
        rw known.counted
        (ext_get_or false (decisions t.count numbered) (by_order (at place) t.count (decisions t.count set))
        (decisions-long t.count numbered ∙ sym (length-by false (at place) t.count (decisions t.count set))) (λ i k.
        let inside : i < t.count = omega (arith, decisions-long t.count numbered) in
        bits_at t.count numbered i inside
        ∙ (rw (by.bits i inside))
        ∙ sym (at-by false (at place) t.count (decisions t.count set) i inside ∙ bits_at t.count set (at place i) (is.place_in i inside))))

    module _ (is-there : decisions t.count set ≡ by_order (at order) (length day.blocks) (outcome day)) where
      -- it is the published one
      pub published-back : decisions t.count numbered ≡ outcome day
      published-back =
          decided-back ∙ ap (by_order (at place) (length day.blocks)) is-there
          ∙ by-order-back (length day.blocks) (at order) (at place) order-of (outcome day)
          (outcome-first day (empty-lawful day known.prices known.hours)).of_blocks

  -- and its day is the published one's
  pub day-back : {found : code-day.Day} → DayOf (rearranged (at order) day) (by_order (at order) (length day.blocks) (outcome day)) found →
      DayOf day (outcome day) found
  day-back of = record {
    prices_are = λ h c. of.prices_are h c ∙ prices-rearranged (at order) (at place) day order-of (outcome day) h;
    traded_are = λ h c. of.traded_are h c ∙ traded-rearranged (at order) (at place) day order-of (outcome day) h;
  }

-- WHAT THE PASSES over the columns in an order have settled, by number
module _ {t : Tables} {other : List ℕ} where
  -- their tables are of the same sizes
  pub sized-there : Sized t → BlocksSized other → Sized (with_columns other t)
  sized-there sized blocks = record {
    price_rows = sized.price_rows;
    gap_rows = sized.gap_rows;
    first_hours = sized.first_hours;
    last_hours = sized.last_hours;
    last_in_prices = sized.last_in_prices;
    last_in_gaps = sized.last_in_gaps;
    prices_fit = sized.prices_fit;
    blocks_fit = blocks;
    change_few = sized.change_few;
    few = sized.few;
  }

  -- the set that is found there is the published one
  pub found_back : {steps : ℕ → List Step} {order place : List ℕ} (best : Best) {numbered : ℕ} → t.count ≤ 32 →
      IsOrderOf t.blocks t.count order place → Reordered t.count order place t.blocks other → (best.set < 2 ^ t.count → ByNumber t.count place best.set numbered) →
      FoundThere (with_columns other t) steps best →
      FoundIn t steps record { limit = best.limit; tie = best.tie; fuel = best.fuel; set = numbered; day = best.day }
  found_back {order = order} best few is columns by found day p rest same known turning rise =
      let a = found (rearranged (at order) day) p rest _ same (known-there known is columns) record { falls = turning.falls; rises = turning.rises }
      (published-cheapest known is columns few rise) in
      (published-back known is (by a.1) a.0, (by a.1).fits, day-back known is a.2)
