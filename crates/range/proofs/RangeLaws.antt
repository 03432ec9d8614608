-- The laws that the functions' proofs cite: one entry more, the columns of a corner as its steps, and the answer from the two corners' prices.
-- Assumes nothing.
use Prim.Native.Nat.{ℕ, zero, suc, ◌+◌, ◌*◌, ◌/◌, ◌%◌, ◌≤◌, ◌<◌}
use mathlib.Core.Path.{◌≡◌, refl, ap, sym, ◌∙◌}
use mathlib.Core.List.{List, [], ◌∷◌, ◌++◌, map}
use mathlib.Core.Bool.{Bool, true, false, cond, not, ◌&&◌, ◌||◌}
use native.Mathlib.Omega.{arith}
use native.Mathlib.Numerals.{add-one}
use borrow.Author.Tests.{leb-true, ltb-false, not-false, ne_eqb}
use lib.Dec.{eqb, leb}
use lib.ListN.{length, take, set, length-set}
use lib.Seq.{take-suc-set, length-take-le}
use Rattle.rules.specs.Orders.{Step, max_price}
use Rattle.rules.specs.Hour.{by_side, Pricing, cleared, does_not_clear, pricing, answered_price}
use Rattle.rules.specs.Contender.{PricesInRange}
use Rattle.rules.specs.Uncertain.{UncertainStep, steps_at, middle_price, least_price, greatest_price, IsLeastPrice, IsGreatestPrice, FiguresInRange}
use Rattle.rules.specs.Uncertain.{least_corner, greatest_corner}
use Rattle.rules.proofs.Tests.{by-test}
use Rattle.rules.proofs.PricingLaws.{pricing-net}
use Rattle.rules.proofs.UncertainLaws.{prices-in-range, least-price, greatest-price, least-price-corner, greatest-price-corner}
use Rattle.records.specs.Layout.{last_side}
use Rattle.fields.specs.Tests.{within, some_below}
use Rattle.chains.proofs.Laws.{and_left, and_right, or_left, or_right}
use Rattle.chains.proofs.Members.{Each, each_append, none_below}
use Rattle.chains.proofs.StepCounts.{one_passes}
use Rattle.book.proofs.Refused.{bounds}
use Rattle.orders.specs.Columns.{side_for, steps_from}
use Rattle.pricing.specs.Curves.{bias, hour_with, Columns}
use Rattle.pricing.specs.Answers.{answer_for, AnswerOf}
use Rattle.std.specs.Prelude.{Option, Some, None, Result, Ok, Err}
use Rattle.book.specs.Numbers.{number_of}
use Rattle.book.specs.declared.refusal.Refusal.{Refusal}
use Rattle.book.specs.declared.refusal.Refusal.TheVariants.{WrongList}
use Rattle.pricing.specs.declared.HourPrice.{HourPrice}
use Rattle.range.specs.Layout.{entry_size, most_entries, most_figure}
use Rattle.range.specs.Range.{entry_at, entry_fits, uncertain_of, entry_count, below, uncertain_steps, wrong_size, out_of_range, wrong_list, range_of}
use Rattle.range.specs.Corners.{side_number, least_quantity, greatest_quantity, InFront, Decoded, PriceOf}
use Rattle.range.specs.declared.Entry.{Entry}
use Rattle.range.specs.declared.PriceRange.{PriceRange}
use Rattle.range.proofs.Cases

-- ONE ENTRY MORE
map-append : {A : Type 0} (f : ℕ → A) (l m : List ℕ) → map f (l ++ m) ≡ map f l ++ map f m
map-append f [] m = refl
map-append f (x ∷ l) m = ap (λ k. f x ∷ k) (map-append f l m)

-- in front of a column of so many places
abbrev pub Filled : (Entry → ℕ) → List ℕ → ℕ → List ℕ → Type 0
Filled f b i column = (length column ≡ most_entries) × InFront f b i column

pub filled_next : (f : Entry → ℕ) (b : List ℕ) (i : ℕ) (column : List ℕ) (v : ℕ) → i < most_entries → v ≡ f (entry_at b i)
    → Filled f b i column → Filled f b (i + 1) (set column i v)
unfolding below
filled_next f b i column v h e given = (
  rw length-set given.0,
  rw (add-one, take-suc-set column i v (omega (arith, given.0)), given.1, e) (sym (map-append (λ i. f (entry_at b i)) (below i) (i ∷ []))),
)

-- among those tested
pub tested-next : (b : List ℕ) (i : ℕ) (fits : Bool) → fits ≡ entry_fits (entry_at b i) → fits ≡ true → some_below i (out_of_range b) ≡ false
    → some_below (i + 1) (out_of_range b) ≡ false
unfolding some_below out_of_range
tested-next b i fits e t w = rw (add-one, ← e, t, w)

pub tested-wrong : (b : List ℕ) (n i : ℕ) (fits : Bool) → i < n → fits ≡ entry_fits (entry_at b i) → fits ≡ false → some_below n (out_of_range b) ≡ true
unfolding out_of_range
tested-wrong b n i fits h e t = one_passes n (out_of_range b) i h (rw (← e, t))

-- A CORNER'S COLUMNS ARE ITS STEPS
side_same : (n : ℕ) → side_for (cond (eqb n 0) 0 1) ≡ side_for n
side_same zero = refl
side_same (suc n) = rw (ne_eqb (suc n) 0 (λ e. omega arith))

-- a side that is not 0 is a sell's
pub by-sell : (side forBuy forSell : ℕ) → (side ≡ 0 → ⊥) → forSell ≡ by_side (side_for side) forBuy forSell
by-sell zero forBuy forSell h = absurd (h refl)
by-sell (suc n) forBuy forSell h = refl

-- the steps of entries
abbrev steps_of : List ℕ → List ℕ → List UncertainStep
steps_of b = map (λ i. uncertain_of (entry_at b i))

-- the columns with any quantities f are the steps at these quantities ..
columns-steps : (f : Entry → ℕ) (b l : List ℕ) →
    steps_from 1 (map (λ i. side_number (entry_at b i)) l) (map (λ i. (entry_at b i).price) l) (map (λ i. f (entry_at b i)) l)
    ≡ steps_at (steps_of b l) (map (λ i. f (entry_at b i)) l)
unfolding steps_from steps_at
columns-steps f b [] = refl
columns-steps f b (i ∷ l) = rw (side_same (entry_at b i).side, columns-steps f b l)

-- .. and a corner's quantities are its own
least-corner : (b l : List ℕ) → map (λ i. least_quantity (entry_at b i)) l ≡ least_corner (steps_of b l)
unfolding least_corner
least-corner b [] = refl
least-corner b (i ∷ l) = ap (λ (m : List ℕ). least_quantity (entry_at b i) ∷ m) (least-corner b l)

greatest-corner : (b l : List ℕ) → map (λ i. greatest_quantity (entry_at b i)) l ≡ greatest_corner (steps_of b l)
unfolding greatest_corner
greatest-corner b [] = refl
greatest-corner b (i ∷ l) = ap (λ (m : List ℕ). greatest_quantity (entry_at b i) ∷ m) (greatest-corner b l)

-- AN ACCEPTED LIST has its figures in range
figures-fit : (e : Entry) → entry_fits e ≡ true → (1 ≤ e.price) × (e.price ≤ max_price) × (e.low ≤ e.high)
unfolding entry_fits
figures-fit e t =
    let priced = within 1 e.price max_price in
    let sided = leb e.side last_side in
    let low = leb e.low most_figure in
    let high = leb e.high most_figure in
    let four = and_left (sided && priced && low && high) (leb e.low e.high) t in
    let p = bounds 1 e.price max_price (and_right sided priced (and_left (sided && priced) low (and_left (sided && priced && low) high four))) in
    (p.0, p.1, leb-true _ _ (and_right (sided && priced && low && high) (leb e.low e.high) t))

each_below : (P : ℕ → Type 0) (n : ℕ) → ((j : ℕ) → j < n → P j) → Each P (below n)
unfolding below
each_below P zero h = tt
each_below P (suc n) h = each_append P (below n) (n ∷ []) (each_below P n (λ j k. h j (omega arith))) (h n (omega arith), tt)

figures-each : (b l : List ℕ) → Each (λ i. out_of_range b i ≡ false) l → FiguresInRange (steps_of b l)
unfolding out_of_range
figures-each b [] k = tt
figures-each b (i ∷ l) k =
    let f = figures-fit (entry_at b i) (not-false _ k.0) in (f.0, f.1, f.2, figures-each b l k.1)

pub figures-in-range : (b : List ℕ) → some_below (entry_count b) (out_of_range b) ≡ false → FiguresInRange (uncertain_steps b)
unfolding uncertain_steps
figures-in-range b e = figures-each b (below (entry_count b)) (each_below _ (entry_count b) (none_below (entry_count b) (out_of_range b) e))

-- THE PRICE OF COLUMNS without blocks, out of what the price finder answers for the bias
abbrev pub price_in : Option HourPrice → ℕ
price_in (Some found) = found.price
price_in None = 0

price-answered : (p : Pricing) → price_in (answer_for p) ≡ answered_price p
price-answered (cleared low high price) = refl
price-answered does_not_clear = refl

pub answer-price : (sides prices quantities : List ℕ) (r : Option HourPrice) → AnswerOf sides prices quantities bias r
    → PriceOf sides prices quantities (price_in r)
answer-price sides prices quantities r a k =
    ap price_in (a 1 k) ∙ price-answered (pricing (hour_with 1 sides prices quantities bias))
    ∙ ap answered_price (pricing-net (steps_from 1 sides prices quantities) bias bias 0 0 (omega arith))

-- THE ANSWER, one law for each way out
pub refused-size : (b : List ℕ) → wrong_size b ≡ true → range_of b ≡ Err WrongList
unfolding range_of wrong_list
refused-size b e = rw e

pub refused-field : (b : List ℕ) → wrong_size b ≡ false → some_below (entry_count b) (out_of_range b) ≡ true → range_of b ≡ Err WrongList
unfolding range_of wrong_list
refused-field b s e = rw (s, e)

pub entries-few : (b : List ℕ) → wrong_size b ≡ false → entry_count b ≤ most_entries
unfolding wrong_size
entries-few b e = let short = ltb-false (entry_size * most_entries) (length b) (or_left _ (not (eqb (length b % entry_size) 0)) e) in omega (arith, short)

-- the corners' columns in front of arrays
pub columns-front : (n : ℕ) (sides prices quantities : List ℕ) → n ≤ most_entries → length sides ≡ most_entries → length prices ≡ most_entries
    → length quantities ≡ most_entries → Columns (take n sides) (take n prices) (take n quantities)
columns-front n sides prices quantities few s p q =
    let size : (l : List ℕ) → length l ≡ most_entries → length (take n l) ≡ n = λ l e. length-take-le n l (omega arith) in
    record {
      as_many_prices = size sides s ∙ sym (size prices p);
      as_many_quantities = size sides s ∙ sym (size quantities q);
      not_too_many = omega (arith, size sides s);
    }

module _ (b sides prices low high : List ℕ) (right : wrong_size b ≡ false) (columns : Decoded b (entry_count b) sides prices low high) where
  abbrev steps : List UncertainStep
  steps = steps_of b (below (entry_count b))

  in-range : FiguresInRange steps
  unfolding uncertain_steps
  in-range = figures-in-range b columns.in_range

  -- a column's price is the middle price at its quantities
  priced : (f : Entry → ℕ) (column : List ℕ) → InFront f b (entry_count b) column → (p : ℕ)
      → PriceOf (take (entry_count b) sides) (take (entry_count b) prices) (take (entry_count b) column) p
      → p ≡ middle_price steps (map (λ i. f (entry_at b i)) (below (entry_count b)))
  unfolding middle_price
  priced f column front p k =
      let at = rw (columns.sides_are, columns.prices_are, front, columns-steps f b (below (entry_count b))) at k in
      at (prices-in-range steps (map (λ i. f (entry_at b i)) (below (entry_count b))) in-range)

  pub range-answered : (least greatest : ℕ) → PriceOf (take (entry_count b) sides) (take (entry_count b) prices) (take (entry_count b) low) least
      → PriceOf (take (entry_count b) sides) (take (entry_count b) prices) (take (entry_count b) high) greatest → Ok (record { least = least; greatest = greatest }) ≡ range_of b
  unfolding range_of wrong_list uncertain_steps
  range-answered least greatest l g =
      let n = entry_count b in
      let el : least ≡ least_price steps =
      priced least_quantity low columns.least_are least l ∙ ap (middle_price steps) (least-corner b (below n)) ∙ sym (least-price-corner steps in-range) in
      let eg : greatest ≡ greatest_price steps =
      priced greatest_quantity high columns.greatest_are greatest g ∙ ap (middle_price steps) (greatest-corner b (below n))
      ∙ sym (greatest-price-corner steps in-range) in
      rw (right, columns.in_range, ← el, ← eg)

-- WHAT AN ANSWER OF TWO PRICES SAYS: no quantities between a list's figures have a middle price outside them, and both are met by some
pub range-says : (b : List ℕ) (found : PriceRange) → range_of b ≡ Ok found
    → IsLeastPrice (uncertain_steps b) found.least × IsGreatestPrice (uncertain_steps b) found.greatest
unfolding range_of wrong_list
range-says b found e =
    by-test (λ t. cond t (Err WrongList) (Ok (record { least = least_price (uncertain_steps b); greatest = greatest_price (uncertain_steps b) })) ≡ Ok found
    → IsLeastPrice (uncertain_steps b) found.least × IsGreatestPrice (uncertain_steps b) found.greatest)
    (wrong_size b || some_below (entry_count b) (out_of_range b))
    (λ w k. absurd (cc))
    (λ w k.
    let r = figures-in-range b (or_right (wrong_size b) _ w) in
    let same : record { least = least_price (uncertain_steps b); greatest = greatest_price (uncertain_steps b) } ≡ found = cc in
    let el : least_price (uncertain_steps b) ≡ found.least = ap (λ (p : PriceRange). p.least) same in
    let eg : greatest_price (uncertain_steps b) ≡ found.greatest = ap (λ (p : PriceRange). p.greatest) same in
    (rw el at (least-price (uncertain_steps b) r), rw eg at (greatest-price (uncertain_steps b) r)))
    e

-- THE NUMBER of an answer is 17 where the list is wrong, else 0
pub number-answered : (b : List ℕ) → number_of (range_of b) ≡ cond (wrong_list b) 17 0
unfolding range_of
number-answered b =
    by-test (λ t. number_of {A = PriceRange} (cond t (Err WrongList) (Ok (record { least = least_price (uncertain_steps b); greatest = greatest_price (uncertain_steps b) }))) ≡ cond t 17 0)
    (wrong_list b) (λ _. refl) (λ _. refl)
