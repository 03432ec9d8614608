-- A decided set at its tables: it is lawful or not, and it loses what they say; one law for each way out. Assumes nothing.
use Prim.Native.Nat.{ℕ, ◌+◌, ◌/◌, ◌%◌, ◌^◌, ◌≤◌, ◌<◌}
use mathlib.Core.Path.{◌≡◌, refl, sym, ◌∙◌}
use mathlib.Core.List.{List, ◌++◌}
use mathlib.Core.Bool.{Bool, true, false}
use native.Mathlib.Omega.{arith}
use lib.Dec.{eqb, leb}
use lib.ListN.{length, get_or}
use borrow.Author.Tests.{eq-eqb}
use Rattle.rules.specs.Orders.{Side, Step}
use Rattle.rules.specs.Hour.{when, middle}
use Rattle.rules.specs.Shift.{middle_shift}
use Rattle.rules.specs.Execution.{test_side}
use Rattle.rules.specs.Day.{Day, day_sum, taken, decisions, price_sum, every_block, keeps_all, set_prices, keeps_limit, lawful}
use Rattle.rules.proofs.HourSums.{day_sum-add}
use Rattle.rules.proofs.Tests.{clash}
use Rattle.rules.proofs.PricingLaws.{Clearable}
use Rattle.rules.proofs.ShiftLaws.{shifted-middle}
use Rattle.rules.proofs.SetPriceLaws.{IsShift, middle-is, day_shift, no_shift, middle-shift}
use Rattle.rules.proofs.LossLaws.{day_sum-counted, loss_of}
use Rattle.rules.proofs.LinkLaws.{Closed}
use Rattle.rules.proofs.TieLaws.{ties}
use Rattle.rules.proofs.CostSearchLaws as by-cost
use Rattle.rules.proofs.TwinLaws.{block-at, passes-taken}
use Rattle.rules.proofs.PlaceLaws.{place, hour_at, prices_at, gaps_at, gaps-by-place, set-price-at-place, keeps-at-places, lawful-by-places, lawful-limits}
use Rattle.rules.proofs.QuietHours.{each-in-place}
use Rattle.rules.proofs.LawCutLaws.{taken-passes}
use Rattle.places.specs.Layout.{hour_places, most_counted_gaps, most_loss}
use Rattle.places.specs.Hours.{sum_of_hours, sum_over, counted_column, cell, of_hour, PlacesClear, SumOf, PricesOf}
use Rattle.places.specs.Blocks.{hours_at, rank_at, keeps_at, all_keep}
use Rattle.branches.specs.Tables.{Tables}
use Rattle.branches.specs.Meaning.{AnHour, Shown, Known, Branch, loss_above, cost_above, last_reached}
use Rattle.branches.specs.declared.Node.{Node}
use Rattle.branches.proofs.SetLaws.{an-hour, place-within, no_block, decided-bit, MadeAt, price-at-table}
use Rattle.search.specs.Meaning.{cost_limit, best_as, limit_at, Sought, Outcome, StepsAre, Decided, FoundAt, ShiftDecided}
use Rattle.places.proofs.LimitLaws.{keeps_here, all-keep-at, all_keep_lem}
use Rattle.places.proofs.CountedLaws.{day-sum, block-sum}
use Rattle.search.proofs.LimitLaws.{decided-costs, decided-cheaper}
use Rattle.search.proofs.TradedLaws.{traded-are}
use Rattle.search.specs.declared.Best.{Best}

same_test : (side side' : Side) (sum sum' limit limit' : ℕ) → side ≡ side' → sum ≡ sum' → limit ≡ limit' →
    test_side side (leb sum limit) (leb limit sum) ≡ test_side side' (leb sum' limit') (leb limit' sum')
same_test side side' sum sum' limit limit' a b c = rw (a, b, c)

-- THE DAY AT ITS TABLES
-- the middle price is the one at the middle shift
pub shifted-is-middle : MadeAt middle middle_shift
shifted-is-middle l h k = sym (shifted-middle l h k)

-- two tests that pass together have one answer
same_answer : (a b : Bool) → (a ≡ true → b ≡ true) → (b ≡ true → a ≡ true) → a ≡ b
same_answer true b f g = sym (f refl)
same_answer false true f g = g refl
same_answer false false f g = refl

module _ {day : Day} {p rest : ℕ → ℕ} {tables : Tables} (known : Known day p rest tables)
    {node : Node} {d : List Bool} (branch : Branch day p d node) (whole : length d ≡ tables.count) where
  size : length d ≡ length day.blocks
  size = whole ∙ sym known.counted

  place-fits : (h : ℕ) → AnHour h → place day.blocks d h ≤ last_reached day h
  place-fits h c = place-within day.blocks d h size

  -- prices made of L and H at its places are those at shift t
  pub priced-at : (price : ℕ → ℕ → ℕ) (t : ℕ) → MadeAt price t → (prices : List ℕ) →
      ((h : ℕ) → 1 ≤ h → h ≤ hour_places → of_hour prices h ≡ price (cell tables.unit_prices h (of_hour node.places h + 1)) (cell tables.unit_prices h (of_hour node.places h))) →
      (h : ℕ) → AnHour h → of_hour prices h ≡ prices_at day t (of_hour node.places) h
  priced-at price t made prices are h c =
      are h c.first c.last ∙ price-at-table known price t made node.places h c (omega (arith, place-fits h c, branch.places_are h c))

  -- a lawful set's places are in range
  lawful-in-range : lawful day d ≡ true → PlacesClear tables.first tables.last node.places
  lawful-in-range law =
      λ h a b.
      let c : AnHour h = record { first = a; last = b } in
      rw (branch.places_are h c)
      (known.clears_only h (place day.blocks d h) c (place-within day.blocks d h size)
      (each-in-place day known.quiet d known.prices known.hours law size h a b))

  module _ (inside : PlacesClear tables.first tables.last node.places) where
    clear_at : (h : ℕ) → AnHour h → Clearable (hour_at day h (place day.blocks d h))
    clear_at h c =
        let r = inside h c.first c.last in
        let e = branch.places_are h c in
        known.clears h (place day.blocks d h) c (rw e at r.0) (rw e at r.1)

    -- the loss by the gap table
    pub loss-is : (sum : ℕ) → sum ≡ sum_over tables.change (λ h. cell tables.gaps h (of_hour node.places h)) →
        loss_of day p d ≡ node.loss + sum + day_sum day.hours rest
    unfolding loss_of gaps_at
    loss-is sum e =
        let at : ℕ → ℕ = λ h. cell tables.gaps h (of_hour node.places h) in
        let gap_at : (h : ℕ) → AnHour h → gaps_at day p (place day.blocks d) h ≡ at h + rest h = λ h c.
        let r = inside h c.first c.last in
        let is = branch.places_are h c in
        rw is (known.gap_is h (place day.blocks d h) c (rw is at r.0) (rw is at r.1)) in
        omega (
          arith,
          branch.loss_is,
          gaps-by-place day d size p,
          day_sum-counted day.hours (gaps_at day p (place day.blocks d)) (λ h. at h + rest h) (λ h c. gap_at h (an-hour c)),
          day_sum-add day.hours at rest,
          rw known.change_is at (day-sum day.hours at),
        )

    -- THE PRICES at shift t by the price table
    module _ (t : ℕ) (prices : List ℕ) (sized : length prices ≡ hour_places)
        (are : (h : ℕ) → AnHour h → of_hour prices h ≡ prices_at day t (of_hour node.places) h) where
      price-at : (h : ℕ) → AnHour h → of_hour prices h ≡ prices_at day t (place day.blocks d) h
      unfolding prices_at
      price-at h c = rw (branch.places_are h c) at (are h c)

      -- a block's limit by the columns, at the prices as they count
      abbrev counted : List ℕ
      counted = counted_column tables.change prices

      keeps_same : (j : ℕ) (s : Shown day p tables.blocks j) →
          keeps_limit day.hours (prices_at day t (place day.blocks d)) s.block ≡ keeps_here tables.blocks node.set counted counted j
      unfolding keeps_limit keeps_at price_sum
      keeps_same j s =
          let sum : day_sum day.hours (λ h. when (s.block.runs h) (prices_at day t (place day.blocks d) h)) ≡ sum_of_hours counted
          (hours_at tables.blocks j) =
          day_sum-counted day.hours _ _ (λ h c. rw (s.runs_is h, ← (price-at h (an-hour c))))
          ∙ rw known.change_is at (block-sum day.hours prices (hours_at tables.blocks j) sized) in
          same_test _ _ _ _ _ _ s.side_is sum s.limit_is

      bit_is : (j : ℕ) → j < tables.count → get_or d j false ≡ eqb (node.set / 2 ^ j % 2) 1
      bit_is j k = decided-bit branch j (omega arith)

      abbrev columns-keep : Bool
      columns-keep = all_keep tables.blocks node.set counted counted tables.count

      abbrev blocks-keep : Bool
      blocks-keep = every_block (keeps_limit day.hours (prices_at day t (place day.blocks d))) (taken day.blocks d)

      by_blocks : columns-keep ≡ true → blocks-keep ≡ true
      by_blocks e =
          passes-taken no_block _ day.blocks d (λ j k is.
          let kc : j < tables.count = omega (arith, known.counted) in
          let s = known.shown j kc in
          rw (block-at day.blocks j s.block _ no_block s.next)
          (keeps_same j s ∙ all-keep-at tables.blocks node.set counted counted tables.count j e kc
          (borrow.Author.Tests.eqb-true _ _ (sym (bit_is j kc) ∙ is))))

      by-columns : blocks-keep ≡ true → columns-keep ≡ true
      by-columns e =
          all_keep_lem tables.blocks node.set counted counted tables.count (λ j k c.
          let s = known.shown j k in
          let is = taken-passes _ day.blocks d e j no_block (omega (arith, known.counted)) (bit_is j k ∙ eq-eqb _ 1 c) in
          sym (keeps_same j s) ∙ rw (block-at day.blocks j s.block _ no_block s.next) at is)

      -- a shift keeps all blocks of the set exactly where the columns do
      pub keeps-by-columns : keeps_all day (taken day.blocks d) t
          ≡ all_keep tables.blocks node.set (counted_column tables.change prices) (counted_column tables.change prices) tables.count
      keeps-by-columns =
          keeps-at-places day d size known.prices known.hours t (λ h c. clear_at h (an-hour c))
          ∙ same_answer blocks-keep columns-keep by-columns by_blocks

      -- the set's own prices, where t is its shift
      pub prices-are : day_shift day (taken day.blocks d) ≡ t → (h : ℕ) → AnHour h → of_hour prices h ≡ set_prices day (taken day.blocks d) h
      prices-are e h c = price-at h c ∙ sym (rw e at (set-price-at-place day d size known.prices known.hours h (clear_at h c)))

    -- LAWFUL by its limits alone, since every hour clears and no link is broken
    pub limits-kept : Closed known.parent d → {t : ℕ} → IsShift day.edition t → keeps_all day (taken day.blocks d) t ≡ true → lawful day d ≡ true
    limits-kept closed {t} shift e =
        lawful-by-places day d size known.prices known.hours (known.parents.links.allows d size closed) (λ h c. clear_at h (an-hour c)) shift
        (sym (keeps-at-places day d size known.prices known.hours t (λ h c. clear_at h (an-hour c))) ∙ e)

    pub limits-broken : keeps_all day (taken day.blocks d) (day_shift day (taken day.blocks d)) ≡ false → lawful day d ≡ true → ⊥
    limits-broken e law =
        clash (keeps-at-places day d size known.prices known.hours _ (λ h c. clear_at h (an-hour c))
        ∙ lawful-limits day d size known.prices known.hours law) e

-- WHAT COMES BACK
-- the best as it was, where every lawful completion that is sought costs no less
pub as_it_was : {day : Day} {p rest : ℕ → ℕ} {tables : Tables} {left : ℕ} {d : List Bool} {best : Best} →
    ((t : List Bool) → length t ≡ left → lawful day (d ++ t) ≡ true → Sought day p rest tables (d ++ t) →
    cost_limit best ≤ cost_above day p rest tables.blocks (d ++ t)) →
    Outcome day p rest tables left d best best
as_it_was {day} {p} {rest} {tables} {left} {d} {best} f = record {
  explored = λ _. by-cost.branch-cut day (Sought day p rest tables) (cost_above day p rest tables.blocks) left d (best_as tables.count best) f;
  same = λ _. (refl, refl);
  found = λ k. absurd (omega arith);
}

-- the same of a decided set
pub leaf-as-it-was : {day : Day} {p rest : ℕ → ℕ} {tables : Tables} {d : List Bool} {best : Best} →
    (lawful day d ≡ true → cost_limit best ≤ cost_above day p rest tables.blocks d) → Outcome day p rest tables 0 d best best
leaf-as-it-was {day} {p} {rest} {tables} {d} {best} f = record {
  explored = λ _. by-cost.leaf-kept day (Sought day p rest tables) (cost_above day p rest tables.blocks) d (best_as tables.count best) (λ law _. f law);
  same = λ _. (refl, refl);
  found = λ k. absurd (omega arith);
}

-- a set that is lawful and loses less than the limit becomes the best, with its day
pub becomes-best : {tables : Tables} {node : Node} {steps : ℕ → List Step} {limit fuel : ℕ} {prices : List ℕ} {best r : Best} →
    FoundAt tables.blocks tables.count steps node limit fuel prices r →
    {day : Day} {p rest : ℕ → ℕ} {d : List Bool} → node.tie ≤ most_loss → limit < limit_at best.limit best.tie node.tie →
    limit ≡ loss_above day p rest d → node.tie ≡ ties (rank_at tables.blocks) d →
    StepsAre day steps → Known day p rest tables → Branch day p d node →
    length d ≡ tables.count → node.set < 2 ^ tables.count → lawful day d ≡ true →
    ((h : ℕ) → AnHour h → of_hour prices h ≡ set_prices day (taken day.blocks d) h) → Outcome day p rest tables 0 d best r
becomes-best {tables} {node} {limit = limit} {prices = prices} {best} {r} found {day} {p} {rest} {d} small less loses tied same known branch whole room law is =
    let cheaper : cost_above day p rest tables.blocks d < cost_limit best = decided-cheaper day p rest tables.blocks d node best tied small (rw loses at less) in
    let set_is : decisions tables.count r.set ≡ d = rw found.set_is (rw whole at branch.set_is) in
    let costs : cost_limit r ≡ cost_above day p rest tables.blocks d = rw (found.limit_is, found.tie_is, loses, tied) refl in
    record {
      explored = λ _. rw (set_is, costs)
          (by-cost.leaf-lowered day (Sought day p rest tables) (cost_above day p rest tables.blocks) d (best_as tables.count best) law cheaper);
      same = λ z. absurd (omega arith);
      found = λ _. (
        rw found.set_is room,
        rw set_is record {
          prices_are = λ h c. rw found.prices_are (is h c);
          traded_are = traded-are known same whole branch.set_is law prices r.day.quantities found.trades is found.traded;
        },
      );
    }

-- A DECIDED SET, one law for each way out
module _ {tables : Tables} {node : Node} where
  -- some hour does not clear
  pub decided-unclear : {steps : ℕ → List Step} {best : Best} → (PlacesClear tables.first tables.last node.places → ⊥) → Decided tables steps node best best
  decided-unclear unclear day p rest d same known branch tied closed whole room =
      leaf-as-it-was (λ law. absurd (unclear (lawful-in-range known branch whole law)))

  module _ {sum : ℕ} (gapped : SumOf (sum_over tables.change) most_counted_gaps tables.gaps tables.first tables.last node.places sum) where
    loss-here : {day : Day} {p rest : ℕ → ℕ} {d : List Bool} → Known day p rest tables → Branch day p d node → length d ≡ tables.count →
        loss_above day p rest d ≡ node.loss + sum
    unfolding loss_above
    loss-here known branch whole = omega (arith, loss-is known branch whole gapped.in_range sum gapped.sum_is)

    -- it loses as much as the best or more
    pub decided-worse : {steps : ℕ → List Step} {best : Best} → best.tie ≤ most_loss → limit_at best.limit best.tie node.tie ≤ node.loss + sum →
        Decided tables steps node best best
    decided-worse {best = best} small k day p rest d same known branch tied closed whole room =
        leaf-as-it-was (λ law. decided-costs day p rest tables.blocks d node best tied small (rw (loss-here known branch whole) k))

    -- the limits at the middle prices
    keeps-middle : {prices : List ℕ} → PricesOf middle tables.unit_prices node.places prices →
        {day : Day} {p rest : ℕ → ℕ} {d : List Bool} → Known day p rest tables → Branch day p d node → length d ≡ tables.count →
        keeps_all day (taken day.blocks d) middle_shift
        ≡ all_keep tables.blocks node.set (counted_column tables.change prices) (counted_column tables.change prices) tables.count
    keeps-middle {prices} priced known branch whole =
        keeps-by-columns known branch whole gapped.in_range middle_shift prices priced.size
        (priced-at known branch whole middle middle_shift shifted-is-middle prices priced.are)

    module _ {steps : ℕ → List Step} {best : Best} where
      -- another shift is looked for
      pub decided-at-shift : {r : Best} → tables.shifts ≡ true → ShiftDecided tables steps node (node.loss + sum) best r → Decided tables steps node best r
      decided-at-shift way f day p rest d same known branch tied closed whole room =
          f day p rest d same known branch tied closed whole room (sym (loss-here known branch whole)) gapped.in_range way

      module _ {prices : List ℕ} (priced : PricesOf middle tables.unit_prices node.places prices) where
        -- a block misses its limit there, and prices cannot give way
        pub decided-broken : all_keep tables.blocks node.set (counted_column tables.change prices) (counted_column tables.change prices) tables.count ≡ false →
            tables.shifts ≡ false → Decided tables steps node best best
        decided-broken k way day p rest d same known branch tied closed whole room =
            leaf-as-it-was (λ law. absurd (limits-broken known branch whole gapped.in_range
            (rw (no_shift day (taken day.blocks d) (known.shifts_is ∙ way)) (keeps-middle priced known branch whole ∙ k)) law))

        -- it is lawful and loses less
        pub decided-better : all_keep tables.blocks node.set (counted_column tables.change prices) (counted_column tables.change prices) tables.count ≡ true →
            node.tie ≤ most_loss → node.loss + sum < limit_at best.limit best.tie node.tie → {fuel : ℕ} {r : Best} →
            FoundAt tables.blocks tables.count steps node (node.loss + sum) fuel prices r → Decided tables steps node best r
        decided-better k small less found day p rest d same known branch tied closed whole room =
            let kept = keeps-middle priced known branch whole ∙ k in
            becomes-best found small less (sym (loss-here known branch whole)) tied same known branch whole room
            (limits-kept known branch whole gapped.in_range closed (middle-is day.edition) kept)
            (prices-are known branch whole gapped.in_range middle_shift prices priced.size
            (priced-at known branch whole middle middle_shift shifted-is-middle prices priced.are)
            (middle-shift day (taken day.blocks d) kept))
