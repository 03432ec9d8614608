-- THE REACH OF A BRANCH: the places of a lawful completion lie in it, so a branch is dropped where some hour has no place to balance, or where the least
-- gaps in it come to too much. Assumes nothing.
use Prim.Native.Nat.{ℕ, zero, suc, ◌+◌, ◌-◌, ◌/◌, ◌%◌, ◌^◌, ◌≤◌, ◌<◌}
use mathlib.Core.Path.{◌≡◌, refl, sym, ap, ◌∙◌}
use mathlib.Core.List.{List, [], ◌∷◌, ◌++◌}
use mathlib.Core.Bool.{Bool, true, false, cond, not, ◌||◌}
use native.Mathlib.Omega.{arith}
use mathlib.Core.Logic.{◌⊎◌, inl, inr}
use native.Mathlib.Decide.{dec_le}
use native.Mathlib.Nat.{lt_of_not-le, suc_inj}
use lib.Dec.{leb, eqb}
use lib.Pow.{shr-shr}
use lib.ListN.{length, drop, get_or, length-append, get_or-append}
use borrow.Author.Tests.{leb-true, eq-eqb}
use Rattle.rules.specs.Orders.{Side}
use Rattle.rules.specs.Hour.{when}
use Rattle.rules.specs.Execution.{test_side}
use Rattle.rules.specs.Day.{Day, taken, hour_of, price_sum, gives_way, lawful}
use Rattle.rules.proofs.HourSums.{day_sum-add}
use Rattle.rules.proofs.Tests.{by-test, clash}
use Rattle.rules.proofs.CurveLaws.{when-le}
use Rattle.rules.proofs.NeighbourLaws.{slack}
use Rattle.rules.proofs.LossLaws.{day_sum-counted, losses, bound-with}
use Rattle.rules.proofs.PlaceLaws.{place, place_none, place-split, prices_at}
use Rattle.rules.proofs.LinkLaws.{Closed}
use Rattle.rules.proofs.TwinLaws.{block-at}
use Rattle.rules.proofs.ShiftLaws.{shifted-first, shifted-middle, shifted-last}
use Rattle.rules.proofs.SetPriceLaws.{least_shift, most_shift}
use Rattle.rules.proofs.LawCutLaws.{could_keep, taken-could}
use Rattle.places.specs.Hours.{sum_of_hours, sum_over, counted_column, cell, of_hour, DayPrices, PricesOf, least_gap}
use Rattle.places.specs.Blocks.{side_at, hours_at, limit_at, against_at, gain_at, parent_at, row_quantity, keeps_at, all_keep, added_in}
use Rattle.places.specs.Reach.{is_out, must_from, may_from, RestOf, AllBalance, Reaches}
use Rattle.places.specs.Reach as hour
use Rattle.std.specs.Prelude.{Some, None}
use Rattle.branches.specs.Decisions.{names_gone, is_ruled_out, out_gains, RuledOut}
use Rattle.branches.specs.Meaning.{AnHour, Shown, Known, Branch, loss_above, best_for_sells, best_for_buys, BoundsOf, At, DroppedFrom, JudgedFrom, last_reached}
use Rattle.branches.specs.Tables.{Tables}
use Rattle.places.proofs.NumberLaws.{larger-least, larger-above, smaller-most, smaller-below, nearest-least}
use Rattle.places.proofs.LimitLaws.{all_keep_lem}
use Rattle.places.proofs.ReachLaws.{taken-adds, left-adds}
use Rattle.places.proofs.CountedLaws.{day-sum, block-sum}
use Rattle.branches.proofs.ClosedLaws.{lawful-closed}
use Rattle.branches.proofs.DecisionLaws.{gone-named, gone-which}
use Rattle.branches.proofs.SetLaws.{sells-at, buys-at, an-hour, no_block, decided-bit, MadeAt, price-at-table, lawful-place, gap-of-lawful, rest_below}
use Rattle.branches.specs.declared.Node.{Node}

-- what a decision of block i loses: what the prices take from it where it is taken, else its gain
abbrev own : (blocks : List ℕ) (i : ℕ) → Bool → ℕ
own blocks i x = cond x (against_at blocks i) (gain_at blocks i)

-- a block that is taken is not out, where none that is out is taken
not-out : (is : Bool) → (is ≡ true → true ≡ false) → is ≡ false
not-out true f = f refl
not-out false f = refl

-- THE PLACE OF THE REST where it takes no block that is out, and each other block loses less than the limit on top of what is charged
module _ {day : Day} {p rest : ℕ → ℕ} {tables : Tables} (known : Known day p rest tables)
    (at out charged limit h : ℕ) (c : AnHour h) where
  abbrev must : ℕ → ℕ → ℕ
  must = added_in tables.blocks (must_from tables.blocks at out charged limit) h

  abbrev may : ℕ → ℕ → ℕ
  may = added_in tables.blocks (may_from tables.blocks at out charged limit) h

  -- that much of the n blocks from number i on
  abbrev Allowed : ℕ → ℕ → List Bool → Type 0
  Allowed n i t = (k : ℕ) → k < n → (is_out out (i - at + k) ≡ true → get_or t k false ≡ false)
      × (is_out out (i - at + k) ≡ false → charged + own tables.blocks (i + k) (get_or t k false) < limit)

  -- of those behind the first, and of the first
  allowed-next : (n i : ℕ) (x : Bool) (t : List Bool) → at ≤ i → Allowed (suc n) i (x ∷ t) → Allowed n (suc i) t
  allowed-next n i x t le f k inside =
      let e : suc i - at + k ≡ i - at + suc k = omega arith in
      let here : suc i + k ≡ i + suc k = omega arith in
      rw (e, here) (f (suc k) (omega arith))

  allowed-first : (n i : ℕ) (x : Bool) (t : List Bool) → Allowed (suc n) i (x ∷ t) → (is_out out (i - at) ≡ true → x ≡ false)
      × (is_out out (i - at) ≡ false → charged + own tables.blocks i x < limit)
  allowed-first n i x t f =
      let e : i - at + 0 ≡ i - at = omega arith in
      let here : i + 0 ≡ i = omega arith in
      rw (e, here) at (f 0 (omega arith))

  -- what the rest adds is what it must, and at most what it may besides
  pub rest-within : (n i : ℕ) (t : List Bool) → at ≤ i → i + n ≡ tables.count → length t ≡ n → Allowed n i t →
      (must n i ≤ place (drop i day.blocks) t h) × (place (drop i day.blocks) t h ≤ must n i + may n i)
  unfolding added_in place
  rest-within zero i [] le e l f = let none = place_none (drop i day.blocks) h in (omega arith, omega arith)
  rest-within zero i (x ∷ t) le e l f = absurd (omega arith)
  rest-within (suc n) i [] le e l f = absurd (omega arith)
  rest-within (suc n) i (true ∷ t) le e l f =
      let s = known.shown i (omega arith) in
      let first = allowed-first n i true t f in
      let open-one = not-out (is_out out (i - at)) first.0 in
      let one = taken-adds tables.blocks (is_out out (i - at)) charged limit i (row_quantity tables.blocks i h) open-one (first.1 open-one) in
      let more = rest-within n (suc i) t (omega arith) (omega arith) (suc_inj l) (allowed-next n i true t le f) in
      let adds = sells-at s h c in
      rw s.next (omega arith, omega arith)
  rest-within (suc n) i (false ∷ t) le e l f =
      let s = known.shown i (omega arith) in
      let one = left-adds tables.blocks (is_out out (i - at)) charged limit i (row_quantity tables.blocks i h) (allowed-first n i false t f).1 in
      let more = rest-within n (suc i) t (omega arith) (omega arith) (suc_inj l) (allowed-next n i false t le f) in
      let adds = buys-at s h c in
      rw s.next (omega arith, omega arith)

-- WHAT IS OUT IS LOST: a rest that takes no block that is out loses what these would gain, and on top of it what any one block loses that is not out
-- the bits behind the first
next_bit : (out k : ℕ) → is_out out (suc k) ≡ is_out (out / 2) k
next_bit out k = let e : 1 + k ≡ suc k = omega arith in rw (← (rw e at (shr-shr out 1 k)))

-- what the first would gain, and those behind it
gains-front : (blocks : List ℕ) (i out k : ℕ) → out_gains blocks i out (suc k) ≡ when (is_out out 0) (gain_at blocks i) + out_gains blocks (suc i) (out / 2) k
unfolding out_gains
gains-front blocks i out zero = let e : i + 0 ≡ i = omega arith in rw e (omega arith)
gains-front blocks i out (suc k) =
    let e : i + suc k ≡ suc i + k = omega arith in
    rw (gains-front blocks i out k, next_bit out k, e) (omega arith)

-- a rest takes none of its n blocks that is out
abbrev Avoids : ℕ → ℕ → List Bool → Type 0
Avoids n out t = (k : ℕ) → k < n → is_out out k ≡ true → get_or t k false ≡ false

avoids-next : (n out : ℕ) (x : Bool) (t : List Bool) → Avoids (suc n) out (x ∷ t) → Avoids n (out / 2) t
avoids-next n out x t f k inside is = f (suc k) (omega arith) (next_bit out k ∙ is)

-- the first block loses what it would gain, where it is out
first-lost : (blocks : List ℕ) (i : ℕ) (is x : Bool) → (is ≡ true → x ≡ false) → when is (gain_at blocks i) ≤ own blocks i x
first-lost blocks i is true f = rw (not-out is f) (omega arith)
first-lost blocks i is false f = when-le is (gain_at blocks i)

module _ {day : Day} {p rest : ℕ → ℕ} {tables : Tables} (known : Known day p rest tables) where
  abbrev lost : ℕ → List Bool → ℕ
  lost i t = losses day.hours p (drop i day.blocks) t

  -- what the first loses, and those behind it
  lost-front : (i : ℕ) (x : Bool) (t : List Bool) → i < tables.count → lost i (x ∷ t) ≡ own tables.blocks i x + lost (suc i) t
  unfolding losses
  lost-front i true t inside = let s = known.shown i inside in rw (s.next, s.against_is)
  lost-front i false t inside = let s = known.shown i inside in rw (s.next, s.gain_is)

  -- what is out
  gains-lost : (n i out : ℕ) (t : List Bool) → i + n ≡ tables.count → length t ≡ n → Avoids n out t → out_gains tables.blocks i out n ≤ lost i t
  unfolding out_gains
  gains-lost zero i out t e l f = omega arith
  gains-lost (suc n) i out [] e l f = absurd (omega arith)
  gains-lost (suc n) i out (x ∷ t) e l f =
      omega (
        arith,
        gains-front tables.blocks i out n,
        first-lost tables.blocks i (is_out out 0) x (f 0 (omega arith)),
        lost-front i x t (omega arith),
        gains-lost n (suc i) (out / 2) t (omega arith) (suc_inj l) (avoids-next n out x t f),
      )

  -- and one that is not
  gains-lost-with : (n i out k : ℕ) (t : List Bool) → i + n ≡ tables.count → length t ≡ n → Avoids n out t → k < n → is_out out k ≡ false →
      out_gains tables.blocks i out n + own tables.blocks (i + k) (get_or t k false) ≤ lost i t
  gains-lost-with zero i out k t e l f inside is = absurd (omega arith)
  gains-lost-with (suc n) i out k [] e l f inside is = absurd (omega arith)
  gains-lost-with (suc n) i out zero (x ∷ t) e l f inside is =
      let here : i + 0 ≡ i = omega arith in
      rw here (omega (
        arith,
        gains-front tables.blocks i out n,
        ap (λ u. when u (gain_at tables.blocks i)) is,
        lost-front i x t (omega arith),
        gains-lost n (suc i) (out / 2) t (omega arith) (suc_inj l) (avoids-next n out x t f),
      ))
  gains-lost-with (suc n) i out (suc k) (x ∷ t) e l f inside is =
      let here : i + suc k ≡ suc i + k = omega arith in
      rw here (omega (
        arith,
        gains-front tables.blocks i out n,
        first-lost tables.blocks i (is_out out 0) x (f 0 (omega arith)),
        lost-front i x t (omega arith),
        gains-lost-with n (suc i) (out / 2) k t (omega arith) (suc_inj l) (avoids-next n out x t f) (omega arith) (sym (next_bit out k) ∙ is),
      ))

-- LIMITS AT THE BEST PRICES WITHIN REACH, by the columns
same-could : (side side' : Side) (floor floor' cap cap' limit limit' : ℕ) → side ≡ side' → floor ≡ floor' → cap ≡ cap' → limit ≡ limit' →
    test_side side (leb floor limit) (leb limit cap) ≡ test_side side' (leb floor' limit') (leb limit' cap')
same-could side side' floor floor' cap cap' limit limit' a b c d = rw (a, b, c, d)

-- THE BEST PRICES WITHIN REACH, as the code reads them
module _ {unit_prices : List ℕ} {often : ℕ} {from to : List ℕ} {high low highs lows : List ℕ}
    (high_is : (high ≡ counted_column often highs) × DayPrices high) (low_is : (low ≡ counted_column often lows) × DayPrices low) where
  pub bounds_of : (shifts : Bool) → PricesOf (best_for_sells shifts) unit_prices from highs → PricesOf (best_for_buys shifts) unit_prices to lows →
      BoundsOf shifts unit_prices often from to high low
  bounds_of shifts h l = record {
    highs = highs;
    lows = lows;
    highs_are = h;
    lows_are = l;
    high_is = high_is.0;
    low_is = low_is.0;
    high_fits = high_is.1;
    low_fits = low_is.1;
  }

-- the best prices within reach are those at the greatest and at the least shift of the edition
best-for-sells : (edition : ℕ) (shifts : Bool) → gives_way edition ≡ shifts → MadeAt (best_for_sells shifts) (most_shift edition)
unfolding most_shift
best-for-sells edition true e l h k = rw e (sym (shifted-last l h k))
best-for-sells edition false e l h k = rw e (sym (shifted-middle l h k))

best-for-buys : (edition : ℕ) (shifts : Bool) → gives_way edition ≡ shifts → MadeAt (best_for_buys shifts) (least_shift edition)
unfolding least_shift
best-for-buys edition true e l h k = rw e (sym (shifted-first l h))
best-for-buys edition false e l h k = rw e (sym (shifted-middle l h k))

module _ {day : Day} {p rest : ℕ → ℕ} {tables : Tables} (known : Known day p rest tables)
    {from to high low : List ℕ} (bounds : BoundsOf tables.shifts tables.unit_prices tables.change from to high low)
    (from-fits : (h : ℕ) → AnHour h → of_hour from h ≤ last_reached day h) (to-fits : (h : ℕ) → AnHour h → of_hour to h ≤ last_reached day h)
    {j : ℕ} (s : Shown day p tables.blocks j) where
  -- the sum of prices at places, by the table
  sum_same : (price : ℕ → ℕ → ℕ) (t : ℕ) → MadeAt price t → (at prices : List ℕ) → PricesOf price tables.unit_prices at prices →
      ((h : ℕ) → AnHour h → of_hour at h ≤ last_reached day h) →
      price_sum day.hours (prices_at day t (of_hour at)) s.block ≡ sum_of_hours (counted_column tables.change prices) (hours_at tables.blocks j)
  unfolding price_sum
  sum_same price t made at prices priced fits =
      day_sum-counted day.hours _ _ (λ h c.
      rw (s.runs_is h, ← (priced.are h c.first c.last ∙ price-at-table known price t made at h (an-hour c) (fits h (an-hour c)))))
      ∙ rw known.change_is at (block-sum day.hours prices (hours_at tables.blocks j) priced.size)

  could-same : keeps_at (side_at tables.blocks j) (hours_at tables.blocks j) (limit_at tables.blocks j) high low
      ≡ could_keep day.hours (prices_at day (most_shift day.edition) (of_hour from)) (prices_at day (least_shift day.edition) (of_hour to)) s.block
  unfolding keeps_at could_keep
  could-same =
      rw (bounds.high_is, bounds.low_is)
      (sym (same-could _ _ _ _ _ _ _ _ s.side_is
      (sum_same (best_for_buys tables.shifts) (least_shift day.edition) (best-for-buys day.edition tables.shifts known.shifts_is) to bounds.lows bounds.lows_are to-fits)
      (sum_same (best_for_sells tables.shifts) (most_shift day.edition) (best-for-sells day.edition tables.shifts known.shifts_is) from bounds.highs bounds.highs_are from-fits) s.limit_is))

-- a bound that holds where a number is below it holds
unless : (limit n : ℕ) → (n < limit → limit ≤ n) → limit ≤ n
unless limit n f = elim (dec_le limit n) [
  | yes k ↦ k
  | no k ↦ f (lt_of_not-le k)
]

-- behind the first list stands the second
get_or-behind : (d t : List Bool) (j : ℕ) → get_or (d ++ t) (length d + j) false ≡ get_or t j false
get_or-behind [] t j = let e : 0 + j ≡ j = omega arith in rw e
get_or-behind (x ∷ d) t j = let e : suc (length d) + j ≡ suc (length d + j) = omega arith in rw e (get_or-behind d t j)

either-out : (was gone keeps : Bool) → keeps ≡ true → (was || gone || not keeps) ≡ true → (was ≡ true) ⊎ (gone ≡ true)
either-out true gone keeps k e = inl refl
either-out false true keeps k e = inr refl
either-out false false keeps k e = clash e (rw k)

-- WHAT A LAWFUL COMPLETION LOSES: no less than its decided blocks, and the rest on top
module _ {tables : Tables} {left out : ℕ} {node : Node} {limit : ℕ}
    {day : Day} {p rest : ℕ → ℕ} {d : List Bool} (t : List Bool) (at : At tables left node limit out day p rest d)
    (l : length t ≡ left) (law : lawful day (d ++ t) ≡ true) where
  abbrev rest_loss : ℕ
  rest_loss = losses day.hours p (drop (length d) day.blocks) t

  whole : length (d ++ t) ≡ tables.count
  whole = length-append d t ∙ rw l at.size

  rest-lost : node.loss + rest_loss ≤ loss_above day p rest (d ++ t)
  unfolding loss_above
  rest-lost =
      omega (
        arith,
        at.branch.loss_is,
        bound-with day p d t rest_loss rest (omega arith) (λ h c. rest_below at.known (d ++ t) whole law h (an-hour c)),
      )

  -- the rest loses what the blocks of r would gain where it takes none of them, and on top of it what any one other block loses
  module _ (r : ℕ) {gains : ℕ} (gained : gains ≡ out_gains tables.blocks (tables.count - left) r (tables.count - (tables.count - left)))
      (avoids : Avoids left r t) where
    -- counted from the decided ones on
    gained-here : gains ≡ out_gains tables.blocks (length d) r left
    gained-here =
        let here : tables.count - left ≡ length d = omega (arith, at.size) in
        let after : tables.count - length d ≡ left = omega (arith, at.size) in
        rw (here, after) at gained

    avoided-lost : gains ≤ rest_loss
    avoided-lost = omega (arith, gained-here, gains-lost at.known left (length d) r t at.size l avoids)

    avoided-lost-with : (k : ℕ) → k < left → is_out r k ≡ false → gains + own tables.blocks (length d + k) (get_or t k false) ≤ rest_loss
    avoided-lost-with k inside is = rw gained-here (gains-lost-with at.known left (length d) r k t at.size l avoids inside is)

-- ONE LAW FOR EACH REASON to drop a branch, where what is out would gain so much
module _ {tables : Tables} {left out : ℕ} {node : Node} {limit gains : ℕ}
    (gained : gains ≡ out_gains tables.blocks (tables.count - left) out (tables.count - (tables.count - left))) where
  -- the decided blocks and those that are out lose as much already
  pub dropped-by-loss : limit ≤ node.loss + gains → DroppedFrom tables left out node limit
  dropped-by-loss k day p rest d t at l law =
      unless _ _ (λ less. omega (
        arith,
        rest-lost t at l law,
        avoided-lost t at l law out gained (λ j inside is. at.out_of t j l law less inside is),
      ))

  module _ {least free : List ℕ}
      (added : RestOf tables.blocks tables.count (tables.count - left) out (node.loss + gains) limit node.places least free) where
    -- a lawful completion that loses less has its places where the hours reach
    module _ {day : Day} {p rest : ℕ → ℕ} {d : List Bool} (t : List Bool) (at : At tables left node limit out day p rest d)
        (l : length t ≡ left) (law : lawful day (d ++ t) ≡ true) where
      known : Known day p rest tables
      known = at.known

      branch : Branch day p d node
      branch = at.branch

      size : length d + left ≡ tables.count
      size = at.size

      in_reach : loss_above day p rest (d ++ t) < limit → (h : ℕ) → AnHour h →
          (hour.first_reached tables.first least h ≤ place day.blocks (d ++ t) h) × (place day.blocks (d ++ t) h ≤ hour.last_reached tables.last least free h)
      in_reach k h c =
          let a = c.first in
          let b = c.last in
          let here : tables.count - left ≡ length d = omega arith in
          let after : tables.count - length d ≡ left = omega arith in
          let range = lawful-place known (d ++ t) (whole t at l law) law h c in
          let within = rest-within known (length d) out (node.loss + gains) limit h c left (length d) t (omega arith) size l allowed in
          let must = rw (here, after) at (added.least_is h a b) in
          let may = rw (here, after) at (added.free_is h a b) in
          let split = place-split day.blocks d t h in
          let is = branch.places_are h c in (
            larger-least (of_hour least h) (of_hour tables.first h) _ (omega arith) range.0,
            smaller-most (of_hour least h + of_hour free h) (of_hour tables.last h) _ (omega arith) range.1,
          )
        where
          avoids : Avoids left out t
          avoids j inside is = at.out_of t j l law k inside is

          allowed : (j : ℕ) → j < left → (is_out out (length d - length d + j) ≡ true → get_or t j false ≡ false)
              × (is_out out (length d - length d + j) ≡ false → node.loss + gains + own tables.blocks (length d + j) (get_or t j false) < limit)
          allowed j inside =
              let e : length d - length d + j ≡ j = omega arith in
              rw e (avoids j inside, λ is. omega (arith, k, rest-lost t at l law, avoided-lost-with t at l law out gained avoids j inside is))

    -- some hour can no longer balance
    pub dropped-unbalanced : (AllBalance tables.first tables.last least free → ⊥) → DroppedFrom tables left out node limit
    dropped-unbalanced e day p rest d t at l law =
        unless _ _ (λ k. absurd (e (λ h a b.
        let r = in_reach t at l law k h record { first = a; last = b } in omega arith)))

    module _ {from to : List ℕ} (reach : Reaches tables.first tables.last least free from to) where
      -- a lawful completion that loses less has its places from `from` to `to`
      module _ {day : Day} {p rest : ℕ → ℕ} {d : List Bool} (t : List Bool) (at : At tables left node limit out day p rest d)
          (l : length t ≡ left) (law : lawful day (d ++ t) ≡ true) where
        in_columns : loss_above day p rest (d ++ t) < limit → (h : ℕ) → AnHour h →
            (of_hour from h ≤ place day.blocks (d ++ t) h) × (place day.blocks (d ++ t) h ≤ of_hour to h)
        in_columns k h c =
            let r = in_reach t at l law k h c in
            (rw (reach.from_is h c.first c.last) r.0, rw (reach.to_is h c.first c.last) r.1)

        -- its gaps are at least the least gaps there
        gaps-least : loss_above day p rest (d ++ t) < limit → (more : ℕ) → more ≤ losses day.hours p (drop (length d) day.blocks) t →
            node.loss + more + sum_over tables.change (least_gap tables.gaps tables.turn from to) ≤ loss_above day p rest (d ++ t)
        unfolding loss_above
        gaps-least k more lost =
            let g = least_gap tables.gaps tables.turn from to in
            omega (
              arith,
              at.branch.loss_is,
              bound-with day p d t more (λ h. g h + rest h) lost (λ h c. gap-least h (an-hour c)),
              day_sum-add day.hours g rest,
              rw at.known.change_is at (day-sum day.hours g),
            )
          where
            gap-least : (h : ℕ) → AnHour h →
                least_gap tables.gaps tables.turn from to h + rest h ≤ slack (p h)
                (hour_of day (taken day.blocks (d ++ t)) h)
            gap-least h c =
                let a = c.first in
                let b = c.last in
                let r = in_columns k h c in
                let above = (larger-above (of_hour least h) (of_hour tables.first h)).1 in
                let below = (smaller-below (of_hour least h + of_hour free h) (of_hour tables.last h)).1 in
                let from_is = reach.from_is h a b in
                let to_is = reach.to_is h a b in
                omega (
                  arith,
                  gap-of-lawful at.known (d ++ t) (whole t at l law) law h c,
                  nearest-least (λ i. cell tables.gaps h i) (of_hour tables.turn h) (of_hour from h) (of_hour to h) (place day.blocks (d ++ t) h) r.0
                      r.1
                      (λ x y i j z w. at.turning.falls h x y a b (omega arith) j (omega arith) w)
                      (λ x y i j z w. at.turning.rises h x y a b (omega arith) j (omega arith) w),
                )

        -- each of its blocks keeps its limit at the best prices there
        block-could : {high low : List ℕ} → BoundsOf tables.shifts tables.unit_prices tables.change from to high low →
            loss_above day p rest (d ++ t) < limit → (j : ℕ) → j < tables.count → get_or (d ++ t) j false ≡ true →
            keeps_at (side_at tables.blocks j) (hours_at tables.blocks j) (limit_at tables.blocks j) high low ≡ true
        block-could bounds k j inside set-bit =
            let s = at.known.shown j inside in
            let could = taken-could day at.known.prices at.known.hours (d ++ t) (whole t at l law ∙ sym at.known.counted) law (of_hour from) (of_hour to)
            record { from = λ h c. (in_columns k h (an-hour c)).0; to = λ h c. (in_columns k h (an-hour c)).1 }
            j no_block (omega (arith, at.known.counted)) set-bit in
            could-same at.known bounds fits_in.0 fits_in.1 s
            ∙ rw (block-at day.blocks j s.block _ no_block s.next) at could
          where
            fits_in : ((h : ℕ) → AnHour h → of_hour from h ≤ last_reached day h) × ((h : ℕ) → AnHour h → of_hour to h ≤ last_reached day h)
            fits_in = (
              λ h c.
                  let below = (smaller-below (of_hour least h + of_hour free h) (of_hour tables.last h)).1 in
                  omega (arith, reach.balanced h c.first c.last, reach.to_is h c.first c.last, at.known.last_is h c),
              λ h c.
                  let below = (smaller-below (of_hour least h + of_hour free h) (of_hour tables.last h)).1 in
                  omega (arith, reach.to_is h c.first c.last, at.known.last_is h c),
            )

        -- the decided ones, and one of the rest
        decided-could : {high low : List ℕ} → BoundsOf tables.shifts tables.unit_prices tables.change from to high low →
            loss_above day p rest (d ++ t) < limit → all_keep tables.blocks node.set high low (tables.count - left) ≡ true
        decided-could {high} {low} bounds k =
            all_keep_lem tables.blocks node.set high low (tables.count - left) (λ j m bit.
            let here : j < length d = omega (arith, at.size) in
            block-could bounds k j (omega arith)
            (get_or-append d t false j here ∙ decided-bit at.branch j here ∙ eq-eqb _ 1 bit))

        rest-could : {high low : List ℕ} → BoundsOf tables.shifts tables.unit_prices tables.change from to high low →
            loss_above day p rest (d ++ t) < limit → (j : ℕ) → j < left → get_or t j false ≡ true →
            keeps_at (side_at tables.blocks (tables.count - left + j)) (hours_at tables.blocks (tables.count - left + j)) (limit_at tables.blocks (tables.count - left + j)) high low ≡ true
        rest-could bounds k j inside bit =
            let here : tables.count - left ≡ length d = omega (arith, at.size) in
            block-could bounds k (tables.count - left + j) (omega (arith, at.size)) (rw here (get_or-behind d t j ∙ bit))

      -- the least gaps within reach come to as much
      pub dropped-by-gaps : limit ≤ node.loss + sum_over tables.change (least_gap tables.gaps tables.turn from to) → DroppedFrom tables left out node limit
      dropped-by-gaps z day p rest d t at l law = unless _ _ (λ k. absurd (omega (arith, gaps-least t at l law k 0 (omega arith))))

      -- a taken block misses its limit at the best prices within reach
      module _ {high low : List ℕ} (bounds : BoundsOf tables.shifts tables.unit_prices tables.change from to high low) where
        pub dropped-by-limit : all_keep tables.blocks node.set high low (tables.count - left) ≡ false → DroppedFrom tables left out node limit
        dropped-by-limit misses day p rest d t at l law =
            unless _ _ (λ k. clash (decided-could t at l law bounds k) misses)

        -- WHAT IS OUT: what was before, a child of a block that is gone, and an undecided block that misses its limit at the best prices within reach
        module _ (le : left ≤ tables.count) (r : ℕ) (is : RuledOut tables.blocks tables.count (tables.count - left) node.set out high low r)
            {day : Day} {p rest : ℕ → ℕ} {d : List Bool} (at : At tables left node limit out day p rest d) (t : List Bool) (l : length t ≡ left)
            (law : lawful day (d ++ t) ≡ true) (less : loss_above day p rest (d ++ t) < limit) where
          here-is : tables.count - left ≡ length d
          here-is = omega (arith, at.size)

          set-closed : Closed at.known.parent (d ++ t)
          set-closed = lawful-closed at.known (d ++ t) (length-append d t ∙ rw l at.size) law

          -- so a block whose parent is gone is not taken, if none before it that is out is
          gone-not : (k : ℕ) → k < left → names_gone (parent_at tables.blocks (length d + k)) (length d) node.set r ≡ true →
              ((j : ℕ) → j < k → is_out r j ≡ true → get_or t j false ≡ false) → get_or t k false ≡ true → ⊥
          gone-not k inside gone before bit = by-which (gone-which name (length d) node.set r gone)
            where
              name : ℕ
              name = parent_at tables.blocks (length d + k)

              named : name ≡ suc (name - 1)
              named = let some = gone-named name (length d) node.set r gone in omega arith

              link : at.known.parent (length d + k) ≡ suc (name - 1)
              link = sym (at.known.parent_is (length d + k) (omega (arith, at.size))) ∙ named

              parent_in : get_or (d ++ t) (name - 1) false ≡ true
              parent_in = set-closed (length d + k) (name - 1) link (get_or-behind d t k ∙ bit)

              by-which : ((name - 1 < length d) × (eqb (node.set / 2 ^ (name - 1) % 2) 1 ≡ false)) ⊎
                  ((length d ≤ name - 1) × (is_out r (name - 1 - length d) ≡ true)) → ⊥
              by-which (inl (early, zero_bit)) =
                  clash (sym (get_or-append d t false (name - 1) early) ∙ parent_in)
                  (decided-bit at.branch (name - 1) early ∙ zero_bit)
              by-which (inr (late, outs)) =
                  let e : length d + (name - 1 - length d) ≡ name - 1 = omega arith in
                  clash (sym (get_or-behind d t (name - 1 - length d)) ∙ rw e parent_in)
                  (before (name - 1 - length d) (omega (arith, link, at.known.parents.before (length d + k))) outs)

          ruled-not : (n k : ℕ) → k < n → k < left → is_out r k ≡ true → get_or t k false ≡ false
          unfolding is_ruled_out
          ruled-not zero k a inside ruled = absurd (omega arith)
          ruled-not (suc n) k a inside ruled =
              by-test (λ u. get_or t k false ≡ u → u ≡ false) (get_or t k false)
              (λ bit _.
              let keeps = rest-could t at l law bounds less k inside bit in
              let was = sym (is k (omega arith)) ∙ ruled in
              by-which bit (λ j b outs. ruled-not n j (omega arith) (omega arith) outs) (either-out (is_out out k) _ _ keeps was))
              (λ _ _. refl) refl
            where
              by-which : get_or t k false ≡ true → ((j : ℕ) → j < k → is_out r j ≡ true → get_or t j false ≡ false) → (is_out out k ≡ true) ⊎
                  (names_gone (parent_at tables.blocks (tables.count - left + k)) (tables.count - left) node.set r ≡ true) → true ≡ false
              by-which bit before (inl was) = sym bit ∙ at.out_of t k l law less inside was
              by-which bit before (inr gone) = absurd (gone-not k inside (rw here-is at gone) before bit)

        module _ (le : left ≤ tables.count) (r : ℕ) (is : RuledOut tables.blocks tables.count (tables.count - left) node.set out high low r) where
          pub out-of-it : JudgedFrom tables left out node limit (Some r)
          out-of-it day p rest d at t k l law less inside ruled = ruled-not le r is at t l law less (suc k) k (omega arith) inside ruled

          -- or the branch is dropped: what they would gain and the least gaps come to as much
          module _ {gaps more : ℕ} (gapped : gaps ≡ sum_over tables.change (least_gap tables.gaps tables.turn from to))
              (mores : more ≡ out_gains tables.blocks (tables.count - left) r (tables.count - (tables.count - left))) where
            pub dropped-by-gains : limit ≤ node.loss + gaps + more → DroppedFrom tables left out node limit
            dropped-by-gains much day p rest d t at l law = unless _ _ (λ less. absurd (omega (
              arith,
              gaps-least t at l law less more (avoided-lost t at l law r mores
                  (λ k inside ruled. ruled-not le r is at t l law less (suc k) k (omega arith) inside ruled)),
            )))

            -- so it is judged: dropped where that comes to the limit, else these are out
            pub judged-open : (leb limit (node.loss + gaps + more) ≡ true → JudgedFrom tables left out node limit None)
                × (leb limit (node.loss + gaps + more) ≡ false → JudgedFrom tables left out node limit (Some r))
            judged-open = (λ much. dropped-by-gains (leb-true _ _ much), λ less. out-of-it)
