-- WHAT EACH BLOCK GAINS out of the bytes of a result is its gain of the rules, where it is taken. Assumes nothing.
use Prim.Native.Nat.{ℕ, zero, suc, ◌+◌, ◌-◌, ◌*◌, ◌^◌, ◌≤◌, ◌<◌}
use mathlib.Core.Bool.{Bool, true, false}
use mathlib.Core.Path.{◌≡◌, refl, sym, ap, ◌∙◌}
use mathlib.Core.List.{List, [], ◌∷◌, ◌++◌, map}
use native.Mathlib.Omega.{arith}
use native.Mathlib.Nat.{le_trans, lt_of_not-le, zero-mul}
use native.Mathlib.Decide.{dec_le}
use native.Mathlib.Numerals.{add-one}
use lib.ListN.{length, take, get_or, set as put, length-map, get_or-eq_default}
use lib.Seq.{take-length, take-suc-set, get_or-take}
use borrow.Author.Tests.{ne_eqb}
use Rattle.rules.specs.Orders.{buy, Block, max_price}
use Rattle.rules.specs.Hour.{when}
use Rattle.rules.specs.Day.{autumn_hours, change_hour, weight, is_counted, day_sum, taken, set_prices, hour_count, price_sum}
use Rattle.rules.specs.Contender.{Counts}
use Rattle.rules.specs.Outcome.{outcome, for_hours}
use Rattle.rules.specs.Families.{distance, block_gain}
use Rattle.rules.proofs.HourSums.{day_sum-le}
use Rattle.rules.proofs.CurveLaws.{when-le}
use Rattle.rules.proofs.BoundsLaws.{weight-small, product_le, price-small}
use Rattle.rules.proofs.FamilyBounds.{count-few}
use Rattle.records.specs.Records.{day_hours, holds_hour, block_at}
use Rattle.chains.specs.Chains.{block_order}
use Rattle.book.specs.Refusals.{Accepted}
use Rattle.fields.specs.Hours.{counted_hours}
use Rattle.chains.proofs.Members.{each-place}
use Rattle.book.proofs.Accepted.{BlockRecord, block-records}
use Rattle.orders.specs.Bridge.{block_on, day_from}
use Rattle.orders.specs.Columns.{block_records, block_side_at, block_hours_at, block_price_at, block_quantity_at, block_of, padded, BlockColumns}
use Rattle.orders.proofs.BridgeLaws.{
  day-blocks,
  day-hours-read,
  day-short,
  prices-in-range,
  BlockInRange,
  blocks-in-range,
  block_same,
  hour-count,
}
use Rattle.orders.proofs.FrontLaws.{block-records-front}
use Rattle.orders.proofs.RecordLaws.{block-as-read, blocks-all}
use Rattle.places.specs.Hours.{sum_of_hours, Small}
use Rattle.places.proofs.CountedLaws.{block-sum}
use Rattle.result.specs.Result.{price_in, row_in, result_bytes}
use Rattle.result.specs.Promise.{RowsInFull}
use Rattle.result.proofs.RowsLaws.{published_blocks}
use Rattle.result.proofs.PromiseLaws.{result_says, taken_is, promise-kept, hours-length, hour-at}
use Rattle.gains.specs.Gains.{prices_in, counted_prices_in, gain_among, gain_at, gain_column}

-- THE PRICES, read one after another
pub prices-none : (result l : List ℕ) → take 0 l ≡ for_hours 0 (price_in result)
unfolding for_hours
prices-none result l = refl

pub prices-more : (result l : List ℕ) (h v : ℕ) → h < length l → v ≡ price_in result (h + 1) → take h l ≡ for_hours h (price_in result) →
    take (h + 1) (put l h v) ≡ for_hours (h + 1) (price_in result)
unfolding for_hours
prices-more result l h v inside e so_far = rw (add-one, take-suc-set l h v inside, so_far) (ap (λ x. for_hours h (price_in result) ++ (x ∷ [])) (e ∙ rw add-one))

pub prices-all : (result l : List ℕ) → length l ≡ 24 → take 24 l ≡ for_hours 24 (price_in result) → l ≡ prices_in result
unfolding prices_in
prices-all result l size e = sym (rw size at (take-length l)) ∙ e

-- NUMBERS THAT FIT
pub limit-small : (day x price : ℕ) → day ≤ autumn_hours → price ≤ max_price → price * counted_hours day x ≤ 7500000
unfolding counted_hours hour_count
limit-small day x price few small =
    product_le price _ max_price 25 small (count-few day few (record { number = 0; portfolio = 0; side = buy; price = 0; quantity = 0; runs = holds_hour x }))

pub gain-fits : (row d : ℕ) → row < 2 ^ 32 → d < 2 ^ 32 → row * d < 2 ^ 64
gain-fits row d r s = omega (arith, product_le row d 4294967295 4294967295 (omega arith) (omega arith))

-- A COLUMN OF THE BLOCKS: the number at place j
pub column-at : (n : ℕ) (f : ℕ → ℕ) (l : List ℕ) (j : ℕ) → j < length l → get_or (padded n (map f l)) j 0 ≡ f (get_or l j 0)
unfolding padded
column-at n f [] j inside = absurd (omega arith)
column-at n f (k ∷ l) zero inside = refl
column-at n f (k ∷ l) (suc j) inside = in-front f l _ j (omega arith)
  where
    in-front : (f : ℕ → ℕ) (l m : List ℕ) (j : ℕ) → j < length l → get_or (map f l ++ m) j 0 ≡ f (get_or l j 0)
    in-front f [] m j inside = absurd (omega arith)
    in-front f (k ∷ l) m zero inside = refl
    in-front f (k ∷ l) m (suc j) inside = in-front f l m j (omega arith)

mapped_at : {A : Type 0} (f : ℕ → A) (l : List ℕ) (j : ℕ) (other : A) → j < length l → get_or (map f l) j other ≡ f (get_or l j 0)
mapped_at f [] j other inside = absurd (omega arith)
mapped_at f (k ∷ l) zero other inside = refl
mapped_at f (k ∷ l) (suc j) other inside = mapped_at f l j other (omega arith)

-- THE ROW of a block is its quantity where it is taken, else 0
row_at : (b result l : List ℕ) (chosen : List Bool) (j : ℕ) → RowsInFull b result l chosen → j < length l →
    row_in result (get_or l j 0) ≡ when (get_or chosen j false) (block_at b (get_or l j 0)).quantity
row_at b result [] chosen j rows inside = absurd (omega arith)
row_at b result (k ∷ l) [] j rows inside = absurd rows
row_at b result (k ∷ l) (true ∷ chosen) zero rows inside = rows.0
row_at b result (k ∷ l) (false ∷ chosen) zero rows inside = rows.0
row_at b result (k ∷ l) (t ∷ chosen) (suc j) rows inside = row_at b result l chosen j rows.1 (omega arith)

when-times : (t : Bool) (q d : ℕ) → when t q * d ≡ when t (q * d)
when-times true q d = refl
when-times false q d = zero-mul d

-- a block, for places past the end
nobody : Block
nobody = record { number = 0; portfolio = 0; side = buy; price = 0; quantity = 0; runs = λ h. false }

-- THE PRICES that a result has are those of the published set, in every hour that counts
module _ (b : List ℕ) (a : Accepted b) where
  abbrev result : List ℕ
  result = result_bytes b

  abbrev set_price : ℕ → ℕ
  set_price = set_prices (day_from b) (published_blocks b)

  price-counted : (h : ℕ) → Counts (day_from b).hours h → price_in result h ≡ set_price h
  unfolding is_counted
  price-counted h c =
      (result_says b a).price_read h c.first c.last ∙ rw (ne_eqb (weight (day_from b).hours h) 0 (omega (arith, c.counted)))

  price-listed : (h : ℕ) → 1 ≤ h → h ≤ 24 → get_or (prices_in result) (h - 1) 0 ≡ price_in result h
  unfolding prices_in
  price-listed h first last = hour-at 24 (price_in result) h first last

  pub prices-length : length (prices_in (result_bytes b)) ≡ 24
  unfolding prices_in
  prices-length = hours-length 24 (price_in result)

  -- so the sums over a block's hours are the same
  sum_same : (x : ℕ) → day_sum (day_from b).hours (λ h. when (holds_hour x h) (set_price h))
      ≡ sum_of_hours (counted_prices_in b result) x
  sum_same x =
      let to = day_sum-le (day_from b).hours (λ h. when (holds_hour x h) (get_or (prices_in result) (h - 1) 0)) (λ h. when (holds_hour x h) (set_price h))
      (λ h c. rw (price-listed h c.first c.last, price-counted h c) (omega arith)) in
      let from = day_sum-le (day_from b).hours (λ h. when (holds_hour x h) (set_price h)) (λ h. when (holds_hour x h) (get_or (prices_in result) (h - 1) 0))
      (λ h c. rw (price-listed h c.first c.last, price-counted h c) (omega arith)) in
      rw (← (day-hours-read b)) (omega (arith, to, from, block-sum (day_from b).hours (prices_in result) x prices-length))

  -- THE GAIN of a block at its place
  module _ (other : Block) (j : ℕ) (inside : j < length (day_from b).blocks) where
    abbrev k : ℕ
    k = get_or (block_order b) j 0

    on_chain : j < length (block_order b)
    on_chain = omega (arith, ap length (day-blocks b), length-map (block_order b) (block_on b))

    block-record : BlockRecord b k
    block-record = each-place (BlockRecord b) (block_order b) j 0 (block-records b a) on_chain

    block_here : get_or (day_from b).blocks j other
        ≡ block_of (Rattle.records.specs.Records.number b k) (Rattle.records.specs.Records.portfolio b k) (block_side_at b k) (block_hours_at b k) (block_price_at b k) (block_quantity_at b k)
    block_here = rw (day-blocks b) (mapped_at (block_on b) (block_order b) j other on_chain ∙ block_same b k block-record)

    row_here : row_in result k ≡ when (get_or (outcome (day_from b)) j false) (block_quantity_at b k)
    row_here =
        rw (block-as-read b k block-record).quantity
        (row_at b result (block_order b) (outcome (day_from b)) j (rw (taken_is b result a (result_says b a)) at (promise-kept b a).blocks_in_full) on_chain)

    gain-block : block_gain (day_from b).hours set_price (get_or (day_from b).blocks j other)
        ≡ block_quantity_at b k
        * distance (sum_of_hours (counted_prices_in b result) (block_hours_at b k)) (block_price_at b k * counted_hours (day_hours b) (block_hours_at b k))
    unfolding block_gain price_sum
    gain-block =
        let x = block_hours_at b k in
        let hours : counted_hours (day_from b).hours x ≡ counted_hours (day_hours b) x = ap (λ d. counted_hours d x) (day-hours-read b) in
        rw (block_here, sum_same x, hour-count, hours)

    gain-here : gain_at b result k ≡ when (get_or (outcome (day_from b)) j false) (block_gain (day_from b).hours set_price (get_or (day_from b).blocks j other))
    unfolding gain_at
    gain-here = rw (gain-block, row_here) (when-times (get_or (outcome (day_from b)) j false) (block_quantity_at b k) _)

    pub gains-read : get_or (gain_column b (result_bytes b)) j 0
        ≡ when (get_or (outcome (day_from b)) j false)
        (block_gain (day_from b).hours (set_prices (day_from b) (taken (day_from b).blocks (outcome (day_from b)))) (get_or (day_from b).blocks j other))
    unfolding gain_column
    gains-read =
        rw (blocks-all b a) (column-at 32 (gain_at b result) (block_order b) j on_chain ∙ gain-here)

  -- THE PRICES ARE SMALL
  pub prices-small : Small max_price (prices_in (result_bytes b))
  prices-small i = elim (dec_le 24 i) [
    | yes past ↦ let beyond : length (prices_in result) ≤ i = omega (arith, prices-length) in rw (get_or-eq_default (prices_in result) 0 beyond) (omega arith)
    | no less ↦
        let inside : i < 24 = lt_of_not-le less in
        let one : suc i - 1 ≡ i = omega arith in
        let listed : get_or (prices_in result) i 0 ≡ price_in result (suc i) = rw one at (price-listed (suc i) (omega arith) (omega arith)) in
        rw (listed, (result_says b a).price_read (suc i) (omega arith) (omega arith))
        (le_trans (when-le (is_counted (day_from b).hours (suc i)) (set_price (suc i))) (price-small (day_from b) (prices-in-range b a) (published_blocks b) (suc i)))
  ]

  -- THE NUMBERS OF THE CALL
  pub day-few : day_hours b ≤ autumn_hours
  day-few = rw (← (day-hours-read b)) (day-short b a)

  pub often-few : (day : ℕ) → day ≡ day_hours b → weight day change_hour ≤ 2
  often-few day e = weight-small day change_hour (rw e day-few)

  module _ (count : ℕ) (records sides hours prices quantities : List ℕ) (bc : BlockColumns 32 b count records sides hours prices quantities) (i : ℕ) (inside : i < count) where
    here : i < length (block_records b)
    here = omega (arith, bc.counted)

    pub record_is : get_or records i 0 ≡ get_or (block_records b) i 0
    record_is = sym (get_or-take count records i 0 inside) ∙ rw (block-records-front bc)

    pub hours-are : get_or hours i 0 ≡ block_hours_at b (get_or (block_records b) i 0)
    hours-are = rw bc.hours_are (column-at 32 (block_hours_at b) (block_records b) i here)

    price-is : get_or prices i 0 ≡ block_price_at b (get_or (block_records b) i 0)
    price-is = rw bc.prices_are (column-at 32 (block_price_at b) (block_records b) i here)

    pub price-few : get_or prices i 0 ≤ max_price
    price-few =
        let whole : length (day_from b).blocks ≡ length (block_records b) = rw (day-blocks b, length-map, blocks-all b a) in
        let on-day : i < length (day_from b).blocks = omega (arith, here) in
        let range = each-place BlockInRange (day_from b).blocks i nobody (blocks-in-range b a) on-day in
        rw (price-is, blocks-all b a) (rw (block_here nobody i on-day) at range.price.1)

    -- what is read of block i is its gain
    pub gain-read : (any : List ℕ) (row v : ℕ) → row ≡ row_in any (get_or records i 0) →
        v ≡ gain_among (day_hours b) (counted_prices_in b any) (get_or hours i 0) (get_or prices i 0) row → v ≡ gain_at b any (get_or (block_records b) i 0)
    unfolding gain_at
    gain-read any row v r e = e ∙ rw (r, record_is, hours-are, price-is)
