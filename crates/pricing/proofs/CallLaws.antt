-- A pricing call: the hour's columns and N are the hour of the book's day under the set, and the refusals come in their order. Assumes nothing.
use Prim.Native.Nat.{ℕ, zero, suc, ◌+◌, ◌-◌, ◌/◌, ◌^◌, ◌≤◌, ◌<◌}
use mathlib.Core.Path.{◌≡◌, refl, sym, ap, subst, ◌∙◌}
use mathlib.Core.List.{List, [], ◌∷◌, ◌++◌}
use mathlib.Core.Bool.{Bool, true, false, cond, not, ◌&&◌, ◌||◌}
use native.Mathlib.Omega.{arith}
use native.Mathlib.Nat.{le-div_iff_mul-le, div-lt_iff_lt-mul}
use lib.Pow.{pow_pos, pow_mono}
use lib.Dec.{eqb, leb}
use lib.ListN.{length, take, drop, get_or, length-drop}
use lib.Seq.{slice, length-take-le, get_or-take}
use borrow.Author.Tests.{eq-eqb, ne_eqb, lt-leb, not-false}
use Rattle.fields.specs.Tests.{within}
use Rattle.chains.specs.Chains.{block_order}
use Rattle.book.specs.Refusals.{Accepted, refusal, first_cause, own_causes}
use Rattle.book.proofs.Accepted.{accepted, accepted-zero, blocks-few}
use Rattle.book.proofs.Refused.{bounds, refusal-then, answer-accepted, answer-refused, answered_some, number-of-causes, own-have, have-append}
use Rattle.rules.specs.Orders.{Block, most_block_quantity}
use Rattle.orders.specs.Layout.{block_places}
use Rattle.rules.specs.Hour.{pricing}
use Rattle.records.specs.Records.{day_hours}
use Rattle.chains.proofs.Laws.{or_left, and_left}
use Rattle.rules.specs.Day.{is_counted, steps_in, taken, decisions, over_blocks, sells, buys}
use Rattle.rules.specs.Contender.{PricesInRange}
use Rattle.rules.proofs.Tests.{by_le}
use Rattle.rules.proofs.PricingLaws.{pricing-net}
use Rattle.rules.proofs.ChainLaws.{prices-in}
use Rattle.orders.specs.Bridge.{day_from}
use Rattle.orders.specs.Columns.{StepColumns, BlockColumns, steps_from}
use Rattle.orders.proofs.HourLaws.{hour-from-columns}
use Rattle.orders.proofs.BridgeLaws.{prices-in-range, blocks-from-columns, block-count}
use Rattle.orders.proofs.PlaceLaws.{block-place}
use Rattle.pricing.proofs.TraderLaws.{traders-same, traders-within}
use Rattle.pricing.specs.Curves.{bias, most_traded, traders_from, TradesOf}
use Rattle.pricing.specs.Answers.{answer_for, AnswerOf, blocks_of, NetOf, hour_answered, has_hour, wrong_call, price_causes, hour_answer}
use Rattle.std.specs.Prelude.{Option, Ok, Err}
use Rattle.book.specs.Numbers.{refusal_numbered, answered, number_of}
use Rattle.book.specs.Answers.{reading}
use Rattle.book.specs.declared.Counted.{Counted}
use Rattle.book.specs.declared.refusal.Refusal.{Refusal}
use Rattle.book.specs.declared.refusal.Refusal.TheVariants.{WrongCall}
use Rattle.pricing.specs.declared.HourPrice.{HourPrice}

-- TRADES
module _ (b : List ℕ) (a : Accepted b) (count : ℕ) (records sides hours prices quantities : List ℕ)
    (columns : BlockColumns 32 b count records sides hours prices quantities)
    (er : length records ≡ 32) (es : length sides ≡ 32) (eh : length hours ≡ 32) (ep : length prices ≡ 32) (eq : length quantities ≡ 32)
    (set h sales bought : ℕ) (trades : TradesOf (take count sides) (take count hours) (take count quantities) set h sales bought) where
  size : (l : List ℕ) → length l ≡ 32 → length (take count l) ≡ count
  size l e = length-take-le count l (omega (arith, columns.few))

  -- they are few enough to be added to and taken off the bias
  pub trades-fit : (sales ≤ most_traded) × (bought ≤ most_traded)
  trades-fit =
      let small : (i : ℕ) → i < length (take count sides) → get_or (take count quantities) i 0 ≤ most_block_quantity = λ i k.
      let j : i < count = omega (arith, size sides es) in
      rw (get_or-take count quantities i 0 j) (block-place b count records sides hours prices quantities columns a i j).quantity_range.1 in
      let few : length (take count sides) ≤ 32 = omega (arith, size sides es, columns.few) in
      let all =
      traders-within most_block_quantity block_places h (take count sides) (take count hours) (take count quantities) (decisions (length (take count sides)) set) few small in
      (omega (arith, trades.sold, all), omega (arith, trades.bought, all))

  abbrev S : List Block
  S = taken (day_from b).blocks (decisions (length (day_from b).blocks) set)

  trades-are : (over_blocks (sells h) S ≡ sales) × (over_blocks (buys h) S ≡ bought)
  trades-are =
      let c = block-count b count records sides hours prices quantities columns a in
      let traders = traders_from (take count sides) (take count hours) (take count quantities) in
      let sold : over_blocks (sells h) (taken traders (decisions count set)) ≡ sales =
      subst (λ n. over_blocks (sells h) (taken traders (decisions n set)) ≡ sales) (size sides es) (sym trades.sold) in
      let purchased : over_blocks (buys h) (taken traders (decisions count set)) ≡ bought =
      subst (λ n. over_blocks (buys h) (taken traders (decisions n set)) ≡ bought) (size sides es) (sym trades.bought) in (
        rw (c, blocks-from-columns b count records sides hours prices quantities columns a)
            (traders-same (sells h) (λ n m s x p q. refl) b (take count records) (take count sides) (take count hours) (take count prices) (take count quantities)
            (size sides es ∙ sym (size records er)) (size hours eh ∙ sym (size records er)) (size prices ep ∙ sym (size records er))
            (size quantities eq ∙ sym (size records er)) (decisions count set) ∙ sold),
        rw (c, blocks-from-columns b count records sides hours prices quantities columns a)
            (traders-same (buys h) (λ n m s x p q. refl) b (take count records) (take count sides) (take count hours) (take count prices) (take count quantities)
            (size sides es ∙ sym (size records er)) (size hours eh ∙ sym (size records er)) (size prices ep ∙ sym (size records er))
            (size quantities eq ∙ sym (size records er)) (decisions count set) ∙ purchased),
      )

  pub net-is : NetOf b set h (bias + sales - bought)
  net-is = omega (arith, trades-are, trades-fit)

-- THE HOUR by its columns and N
-- a part of a column, as code takes it and as the columns' laws say it
abbrev pub part : ℕ → ℕ → List ℕ → List ℕ
part from to l = take (to - from) (drop from l)

part_slice : (from to : ℕ) (l : List ℕ) → part from to l ≡ slice from to l
part_slice zero to l = let e : to - 0 ≡ to = omega arith in ap (λ n. take n l) e
part_slice (suc from) zero l = let e : 0 - suc from ≡ 0 = omega arith in ap (λ n. take n (drop (suc from) l)) e
part_slice (suc from) (suc to) [] = none (suc to - suc from)
  where
    none : (n : ℕ) → ◌≡◌ {A = List ℕ} (take n []) []
    none zero = refl
    none (suc n) = refl
part_slice (suc from) (suc to) (x ∷ l) = let e : suc to - suc from ≡ to - from = omega arith in ap (λ n. take n (drop from l)) e ∙ part_slice from to l

pub part_length : (from to : ℕ) (l : List ℕ) → from ≤ to → to ≤ length l → length (part from to l) ≡ to - from
part_length from to l k j = length-take-le (to - from) (drop from l) (omega (arith, length-drop from l))

pub answer-is : (b : List ℕ) → Accepted b → (ends records sides prices quantities : List ℕ) → StepColumns b ends records sides prices quantities →
    (h n : ℕ) → 1 ≤ h → h ≤ 24 → (r : Option HourPrice) →
    AnswerOf (part (get_or ends (h - 1) 0) (get_or ends h 0) sides) (part (get_or ends (h - 1) 0) (get_or ends h 0) prices)
    (part (get_or ends (h - 1) 0) (get_or ends h 0) quantities) n r →
    r ≡ answer_for (pricing record { steps = steps_in h (day_from b).steps; block_sales = n; block_buys = bias })
answer-is b a ends records sides prices quantities steps h n first last r answer =
    let at = part_slice (get_or ends (h - 1) 0) (get_or ends h 0) in
    let l : steps_in h (day_from b).steps ≡ steps_from h (part (get_or ends (h - 1) 0) (get_or ends h 0) sides) (part (get_or ends (h - 1) 0) (get_or ends h 0) prices)
    (part (get_or ends (h - 1) 0) (get_or ends h 0) quantities) =
    rw (at sides, at prices, at quantities) (hour-from-columns b ends records sides prices quantities steps a h first last) in
    let range : PricesInRange (steps_in h (day_from b).steps) = prices-in h (day_from b).steps (prices-in-range b a) in
    answer h (rw l at range) ∙ rw (← l)

-- N alone decides
pub hour-answered : (b : List ℕ) (set h n : ℕ) → NetOf b set h n →
    answer_for (pricing record { steps = steps_in h (day_from b).steps; block_sales = n; block_buys = bias }) ≡ answer_for (hour_answered b set h)
unfolding hour_answered
hour-answered b set h n e =
    ap answer_for (pricing-net (steps_in h (day_from b).steps) n bias (over_blocks (sells h) (blocks_of b set)) (over_blocks (buys h) (blocks_of b set)) (omega arith))

-- REFUSALS
pub absent-named : (set count : ℕ) → not (eqb (set / 2 ^ count) 0) ≡ leb (2 ^ count) set
absent-named set count =
    by_le (λ t. not (eqb (set / 2 ^ count) 0) ≡ t) (2 ^ count) set
    (λ k. let z : 1 ≤ set / 2 ^ count = (le-div_iff_mul-le (pow_pos count)).1 (omega arith) in rw (ne_eqb (set / 2 ^ count) 0 (omega arith)))
    (λ k. let z : set / 2 ^ count < 1 = (div-lt_iff_lt-mul (pow_pos count)).1 (omega arith) in rw (eq-eqb (set / 2 ^ count) 0 (omega arith)))

pub bits-enough : (set count : ℕ) → set < 2 ^ 32 → 32 ≤ count → leb (2 ^ count) set ≡ false
bits-enough set count room k = lt-leb (2 ^ count) set (omega (arith, pow_mono {i = 32} {j = count} k))

-- THE CALL: the book's own refusals, then 8, then the answer
pub call-refused : (b : List ℕ) (set hour : ℕ) (why : Refusal) → reading b ≡ Err why → hour_answer b set hour ≡ Err why
unfolding hour_answer price_causes
call-refused b set hour why e =
    let r = answer-refused b why e in
    let first : first_cause (own_causes b ++ ((wrong_call b set hour, 8) ∷ [])) ≡ refusal b =
    refusal-then b ((wrong_call b set hour, 8) ∷ []) ∙ rw (ne_eqb (refusal b) 0 r.0) in
    rw (first) (answered_some (refusal b) (answer_for (hour_answered b set hour)) r.0 ∙ ap Err (sym r.2))

module _ (b : List ℕ) (a : Accepted b) (set hour : ℕ) where
  causes-are : first_cause (price_causes b set hour) ≡ cond (wrong_call b set hour) 8 0
  unfolding price_causes first_cause
  causes-are = refusal-then b ((wrong_call b set hour, 8) ∷ []) ∙ rw (accepted-zero b a)

  pub call-wrong : wrong_call b set hour ≡ true → hour_answer b set hour ≡ Err WrongCall
  unfolding hour_answer answered refusal_numbered
  call-wrong e = rw (causes-are, e)

  pub call-answered : wrong_call b set hour ≡ false → hour_answer b set hour ≡ Ok (answer_for (hour_answered b set hour))
  unfolding hour_answer answered
  call-answered e = rw (causes-are, e)

  pub call-bounds : wrong_call b set hour ≡ false → (1 ≤ hour) × (hour ≤ 24)
  unfolding wrong_call has_hour
  call-bounds e =
      let t = within 1 hour 24 in
      bounds 1 hour 24 (and_left t _ (not-false _ (or_left (not (t && is_counted (day_hours b) hour)) _ e)))

  -- the code's test for 8
  pub wrong-is : (has absent : Bool) → has ≡ has_hour (day_hours b) hour → absent ≡ leb (2 ^ length (block_order b)) set → (not has || absent) ≡ wrong_call b set hour
  unfolding wrong_call
  wrong-is has absent h e = rw (h, e)

-- the test by what the code's calls give, where the book is read as accepted
pub tested-is : (b : List ℕ) (set hour : ℕ) (counts : Counted) → Ok counts ≡ reading b → (day count : ℕ) (has absent : Bool) → day ≡ day_hours b
    → has ≡ has_hour day hour → count ≡ counts.blocks → (count ≤ block_places → absent ≡ leb (2 ^ count) set)
    → Accepted b × ((not has || absent) ≡ wrong_call b set hour)
tested-is b set hour counts read day count has absent d h n e =
    let k = answer-accepted b counts (sym read) in
    let a = accepted b k.0 in
    let m : count ≡ length (block_order b) = n ∙ ap (λ (c : Counted). c.blocks) k.1 in (
      a,
      wrong-is b a set hour has absent (h ∙ ap (λ (t : ℕ). has_hour t hour) d)
          (e (omega (arith, m, blocks-few b a)) ∙ ap (λ (t : ℕ). leb (2 ^ t) set) m),
    )

-- THE NUMBER of an answer is that of the first cause that holds, 0 where the hour is answered
pub number-answered : (b : List ℕ) (set hour : ℕ) → number_of (hour_answer b set hour) ≡ first_cause (price_causes b set hour)
unfolding hour_answer price_causes first_cause refusal_numbered
number-answered b set hour =
    number-of-causes (own_causes b ++ ((wrong_call b set hour, 8) ∷ [])) (answer_for (hour_answered b set hour))
    (have-append (own_causes b) ((wrong_call b set hour, 8) ∷ []) (own-have b) (refl, tt))
