-- What the blocks of a set are worth, one block at a time, and how much they trade in an hour at most. Assumes nothing.
use Prim.Native.Nat.{ℕ, suc, ◌+◌, ◌-◌, ◌*◌, ◌/◌, ◌%◌, ◌≤◌, ◌<◌}
use mathlib.Core.Path.{◌≡◌, refl, ◌∙◌}
use mathlib.Core.List.{List}
use mathlib.Core.Bool.{Bool, true, false}
use native.Mathlib.Omega.{arith}
use native.Mathlib.Numerals.{add-one}
use lib.Dec.{eqb}
use lib.ListN.{length, drop, get_or, drop_of_length-le}
use lib.Seq.{drop-cons}
use Rattle.records.specs.Records.{number, portfolio}
use Rattle.fields.specs.Hours.{counted_hours}
use Rattle.roots.proofs.SizeLaws.{limit-fits}
use Rattle.rules.specs.Orders.{Side, buy, sell, Block, max_price}
use Rattle.rules.specs.Hour.{by_side, when}
use Rattle.rules.specs.Day.{autumn_hours, taken, decisions, over_blocks, blocks_value, blocks_cost}
use Rattle.rules.specs.Day as day
use Rattle.orders.specs.Columns.{side_for, block_of, blocks_from}
use Rattle.orders.proofs.BridgeLaws.{hour-count}
use Rattle.clearing.specs.Publish.{WorthOf, TradersSized, sales_at, buys_at}
use Rattle.book.specs.Bounds.{most_blocks}
use Rattle.places.specs.Layout.{most_quantity, most_limit, last_place}
use Rattle.rules.proofs.CurveLaws.{by_side-le}
use Rattle.rules.proofs.TradeBounds.{take-one}
use Rattle.rules.proofs.BoundsLaws.{product_le}
use Rattle.pricing.proofs.TraderLaws.{traders-within}

-- ONE BLOCK, on a day of so many hours
module _ (d p q x : ℕ) (fd : d ≤ autumn_hours) (fp : p ≤ max_price) (fq : q ≤ most_quantity) where
  pub worth-fits : (c : ℕ) → c ≡ counted_hours d x → (p * c ≤ most_limit) × (q * (p * c) ≤ most_quantity * most_limit)
  worth-fits c e =
      let limit : p * c ≤ most_limit = rw e (limit-fits p d x fd fp) in
      (limit, product_le q (p * c) most_quantity most_limit fq limit)

-- ALL BLOCKS
first-when : (t : Bool) (side : Side) (w : ℕ) → when t (by_side side w 0) ≡ by_side side (when t w) 0
first-when true side w = refl
first-when false buy w = refl
first-when false sell w = refl

second-when : (t : Bool) (side : Side) (w : ℕ) → when t (by_side side 0 w) ≡ by_side side 0 (when t w)
second-when true side w = refl
second-when false buy w = refl
second-when false sell w = refl

module _ (d : ℕ) (sides hours prices quantities : List ℕ) where
  -- the blocks not yet counted, with what is left of the set
  abbrev rest_from : List ℕ → List ℕ → ℕ → ℕ → List Block
  rest_from b records i rest =
      taken (blocks_from b (drop i records) (drop i sides) (drop i hours) (drop i prices) (drop i quantities)) (decisions (length sides - i) rest)

  abbrev all_from : List ℕ → List ℕ → ℕ → List Block
  all_from b records set = taken (blocks_from b records sides hours prices quantities) (decisions (length sides) set)

  pub record Worthed (set value-r cost-r rest i : ℕ) : Type 0 where
    pub inside : i ≤ length sides
    pub value_is : (b records : List ℕ) → length records ≡ length sides →
        blocks_value d (all_from b records set) ≡ value-r + blocks_value d (rest_from b records i rest)
    pub cost_is : (b records : List ℕ) → length records ≡ length sides →
        blocks_cost d (all_from b records set) ≡ cost-r + blocks_cost d (rest_from b records i rest)
    pub value_fits : value-r ≤ i * (most_quantity * most_limit)
    pub cost_fits : cost-r ≤ i * (most_quantity * most_limit)

  module _ (sized : TradersSized sides hours quantities) (as_many : length sides ≡ length prices) where
    rest_more : (f : Block → ℕ) (b records : List ℕ) (i rest : ℕ) → length records ≡ length sides → i < length sides →
        over_blocks f (rest_from b records i rest)
        ≡ when (eqb (rest % 2) 1) (f (block_of (number b (get_or records i 0)) (portfolio b (get_or records i 0)) (get_or sides i 0) (get_or hours i 0) (get_or prices i 0) (get_or quantities i 0)))
        + over_blocks f (rest_from b records (i + 1) (rest / 2))
    unfolding blocks_from decisions
    rest_more f b records i rest same k =
        let kr : i < length records = omega arith in
        let kh : i < length hours = omega (arith, sized.as_many_hours) in
        let kp : i < length prices = omega arith in
        let kq : i < length quantities = omega (arith, sized.as_many_quantities) in
        let e : length sides - i ≡ suc (length sides - (i + 1)) = omega arith in
        rw (e, add-one i, drop-cons records i 0 kr, drop-cons sides i 0 k, drop-cons hours i 0 kh, drop-cons prices i 0 kp, drop-cons quantities i 0 kq)
        (take-one f (block_of (number b (get_or records i 0)) (portfolio b (get_or records i 0)) (get_or sides i 0) (get_or hours i 0) (get_or prices i 0) (get_or quantities i 0))
        (blocks_from b (drop (suc i) records) (drop (suc i) sides) (drop (suc i) hours) (drop (suc i) prices) (drop (suc i) quantities))
        (eqb (rest % 2) 1) (decisions (length sides - suc i) (rest / 2)))

    rest-none : (f : Block → ℕ) (b records : List ℕ) (i rest : ℕ) → length records ≡ length sides → length sides ≤ i →
        over_blocks f (rest_from b records i rest) ≡ 0
    unfolding blocks_from
    rest-none f b records i rest same k = let e : length records ≤ i = omega arith in rw (drop_of_length-le records e)

    module _ (i rest : ℕ) (k : i < length sides) where
      abbrev side : Side
      side = side_for (get_or sides i 0)

      abbrev w : ℕ
      w = get_or quantities i 0 * (get_or prices i 0 * counted_hours d (get_or hours i 0))

      value-more : (b records : List ℕ) → length records ≡ length sides →
          blocks_value d (rest_from b records i rest)
          ≡ by_side side (when (eqb (rest % 2) 1) w) 0 + blocks_value d (rest_from b records (i + 1) (rest / 2))
      unfolding blocks_value
      value-more b records same =
          rest_more (λ b. by_side b.side (b.quantity * (b.price * day.hour_count d b)) 0) b records i rest same k
          ∙ rw (hour-count d (number b (get_or records i 0)) (portfolio b (get_or records i 0)) (get_or sides i 0) (get_or hours i 0) (get_or prices i 0) (get_or quantities i 0), first-when)

      cost-more : (b records : List ℕ) → length records ≡ length sides →
          blocks_cost d (rest_from b records i rest)
          ≡ by_side side 0 (when (eqb (rest % 2) 1) w) + blocks_cost d (rest_from b records (i + 1) (rest / 2))
      unfolding blocks_cost
      cost-more b records same =
          rest_more (λ b. by_side b.side 0 (b.quantity * (b.price * day.hour_count d b))) b records i rest same k
          ∙ rw (hour-count d (number b (get_or records i 0)) (portfolio b (get_or records i 0)) (get_or sides i 0) (get_or hours i 0) (get_or prices i 0) (get_or quantities i 0), second-when)

    pub worthed-next : (set v c rest i worth v' c' : ℕ) → Worthed set v c rest i → i < length sides → worth ≤ most_quantity * most_limit →
        worth ≡ when (eqb (rest % 2) 1) (get_or quantities i 0 * (get_or prices i 0 * counted_hours d (get_or hours i 0))) →
        v' ≡ v + by_side (side_for (get_or sides i 0)) worth 0 →
        c' ≡ c + by_side (side_for (get_or sides i 0)) 0 worth → Worthed set v' c' (rest / 2) (i + 1)
    worthed-next set v c rest i worth v' c' s k small ew ev ec =
        let sd = side_for (get_or sides i 0) in
        record {
          inside = omega arith;
          value_is = λ b records same. s.value_is b records same ∙ rw (value-more i rest k b records same, ev, ew) (omega arith);
          cost_is = λ b records same. s.cost_is b records same ∙ rw (cost-more i rest k b records same, ec, ew) (omega arith);
          value_fits = omega (arith, s.value_fits, by_side-le sd worth);
          cost_fits = omega (arith, s.cost_fits, by_side-le sd worth);
        }

    value_none : (b records : List ℕ) (i rest : ℕ) → length records ≡ length sides → length sides ≤ i →
        blocks_value d (rest_from b records i rest) ≡ 0
    unfolding blocks_value
    value_none b records i rest same k = rest-none _ b records i rest same k

    cost-none : (b records : List ℕ) (i rest : ℕ) → length records ≡ length sides → length sides ≤ i →
        blocks_cost d (rest_from b records i rest) ≡ 0
    unfolding blocks_cost
    cost-none b records i rest same k = rest-none _ b records i rest same k

    pub worthed-all : (set v c rest i : ℕ) → Worthed set v c rest i → length sides ≤ i → WorthOf d sides hours prices quantities set v c
    worthed-all set v c rest i s k =
        record {
          value_is = λ b records same. omega (arith, s.value_is b records same, value_none b records i rest same k);
          cost_is = λ b records same. omega (arith, s.cost_is b records same, cost-none b records i rest same k);
          value_fits = omega (arith, s.value_fits, s.inside, sized.few);
          cost_fits = omega (arith, s.cost_fits, s.inside, sized.few);
        }

-- IN AN HOUR the blocks of a set trade so much each at most
pub trades-fit : (sides hours quantities : List ℕ) (set h : ℕ) → TradersSized sides hours quantities →
    (sales_at sides hours quantities set h ≤ last_place) × (buys_at sides hours quantities set h ≤ last_place)
unfolding sales_at buys_at
trades-fit sides hours quantities set h sized =
    let all = traders-within most_quantity most_blocks h sides hours quantities (decisions (length sides) set) sized.few (λ i k. sized.quantities_fit i) in
    (omega (arith, all), omega (arith, all))
