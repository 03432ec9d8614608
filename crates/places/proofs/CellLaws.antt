-- What the tables have at the hours' places: their gaps, their prices, their least gaps within reach, hour by hour. Assumes nothing.
use Prim.Native.Nat.{ℕ, suc, ◌+◌, ◌-◌, ◌*◌, ◌/◌, ◌^◌, ◌≤◌, ◌<◌}
use mathlib.Core.Path.{◌≡◌, refl}
use mathlib.Core.List.{List}
use mathlib.Core.Bool.{true, false, ◌||◌}
use native.Mathlib.Omega.{arith}
use native.Mathlib.Numerals.{add-one, sub-one}
use native.Mathlib.Nat.{mul-le-mul_left, mul-le-mul_right, suc-mul}
use lib.Dec.{ltb}
use lib.ListN.{length, get_or, set, length-set, replicate}
use borrow.Author.Tests.{ltb-false, le-ltb}
use Rattle.rules.specs.Orders.{max_price}
use Rattle.rules.specs.Day.{sum_to}
use Rattle.rules.specs.Shift.{last_shift, shifted}
use Rattle.rules.proofs.Tests.{clash}
use Rattle.chains.proofs.Laws.{or_left, or_right}
use Rattle.places.specs.Layout.{hour_places, last_place, most_gaps}
use Rattle.places.specs.Hours.{Small, row_width, last_in, HasRows, cell, of_hour, PlacesClear, SumOf, PricesBy, PricesOf, nearest, least_gap}
use Rattle.places.proofs.NumberLaws.{below_next}

-- ROWS: one stands behind another, and the last within the table
pub rows_apart : (w j h n : ℕ) → j < h → n ≤ w → j * w + n ≤ h * w
rows_apart w j h n k fits = let next : suc j * w ≤ h * w = mul-le-mul_right w k in omega (arith, next, suc-mul j w)

pub row_fits : (table : List ℕ) (h n : ℕ) → h < hour_places → n ≤ row_width table → h * row_width table + n ≤ length table
row_fits table h n k fits =
    let whole : hour_places * (length table / hour_places) ≤ length table = omega arith in
    omega (arith, rows_apart (row_width table) h hour_places n k fits, whole)

-- a place of a row with the place above it, and within the numbers of an index
pub place_inside : (table : List ℕ) (h i : ℕ) → HasRows table → h < hour_places → i ≤ last_in table →
    (h * row_width table + i + 1 < length table) × (length table < hour_places * (last_place + 3))
place_inside table h i rows k fits =
    (omega (arith, row_fits table h (i + 2) k (omega (arith, rows.0))), omega (arith, rows.1))

-- GAPS
module _ (gap first last places : List ℕ) where
  abbrev ClearsAt : ℕ → Type 0
  ClearsAt k = (get_or first k 0 ≤ get_or places k 0) × (get_or places k 0 ≤ get_or last k 0)

  pub record GapsTo (h sum : ℕ) : Type 0 where
    pub inside : h ≤ hour_places
    pub ranges : (k : ℕ) → k < h → ClearsAt k
    pub is : sum ≡ sum_to h (λ k. cell gap k (of_hour places k))
    pub fits : sum ≤ h * 2 ^ 32

  pub gaps-start : GapsTo 0 0
  unfolding sum_to
  gaps-start = record { inside = omega arith; ranges = λ k a. absurd (omega arith); is = refl; fits = omega arith }

  pub gaps-next : (h sum : ℕ) → GapsTo h sum → h < hour_places → (ltb (get_or places h 0) (get_or first h 0) || ltb (get_or last h 0) (get_or places h 0)) ≡ false →
      get_or gap (h * row_width gap + get_or places h 0) 0 < 2 ^ 32 → GapsTo (h + 1) (sum + get_or gap (h * row_width gap + get_or places h 0) 0)
  unfolding sum_to
  gaps-next h sum g k t small =
      let here : ClearsAt h = (
        ltb-false _ _ (or_left _ (ltb (get_or last h 0) (get_or places h 0)) t),
        ltb-false _ _ (or_right (ltb (get_or places h 0) (get_or first h 0)) _ t),
      ) in
      record {
        inside = omega arith;
        ranges = λ j a. below_next ClearsAt h j (g.ranges j) here (rw add-one at a);
        is = rw (g.is, add-one, sub-one);
        fits = omega (arith, g.fits);
      }

  pub gaps-out : (h : ℕ) → h < hour_places → (ltb (get_or places h 0) (get_or first h 0) || ltb (get_or last h 0) (get_or places h 0)) ≡ true →
      PlacesClear first last places → ⊥
  gaps-out h k t r =
      let a : ClearsAt h = rw sub-one at (r (suc h) (omega arith) (omega arith)) in
      clash t (rw (le-ltb _ _ a.0, le-ltb _ _ a.1))

  pub gaps-all : (h sum : ℕ) → GapsTo h sum → hour_places ≤ h → SumOf (sum_to hour_places) most_gaps gap first last places sum
  gaps-all h sum g k =
      let e : h ≡ hour_places = omega (arith, g.inside) in
      record { in_range = λ j a b. g.ranges (j - 1) (omega arith); sum_is = rw (g.is, e); fits = omega (arith, g.fits) }

-- PRICES, each made of L and H, which stand one above the other
-- made of two prices it is a price
abbrev pub Priced : ((low high : ℕ) → ℕ) → Type 0
Priced price = (low high : ℕ) → low ≤ max_price → high ≤ max_price → price low high ≤ max_price

module _ (gives : (low high price : ℕ) → Type 0) (unit_prices places : List ℕ) where
  abbrev GivenHere : ℕ → ℕ → Type 0
  GivenHere k p =
      gives (get_or unit_prices (k * row_width unit_prices + get_or places k 0 + 1) 0) (get_or unit_prices (k * row_width unit_prices + get_or places k 0) 0) p

  pub record PricesTo (h : ℕ) (prices : List ℕ) : Type 0 where
    pub inside : h ≤ hour_places
    pub size : length prices ≡ hour_places
    pub done : (k : ℕ) → k < h → GivenHere k (get_or prices k 0)

  pub prices-all : (h : ℕ) (prices : List ℕ) → PricesTo h prices → hour_places ≤ h → PricesBy gives unit_prices places prices
  prices-all h prices g k =
      let e : h ≡ hour_places = omega (arith, g.inside) in
      record {
        are = λ j a b.
            let at : (j - 1) * row_width unit_prices + (of_hour places j + 1) ≡ (j - 1) * row_width unit_prices + of_hour places j + 1 = omega arith in
            rw at (g.done (j - 1) (omega arith));
        size = g.size;
      }

  -- where what is given is one price, made of the two, they are the prices
  pub prices-by : (price : (low high : ℕ) → ℕ) (prices : List ℕ) → PricesBy gives unit_prices places prices → Small max_price unit_prices → Priced price →
      ((low high p : ℕ) → low ≤ max_price → high ≤ max_price → gives low high p → p ≡ price low high) → PricesOf price unit_prices places prices
  prices-by price prices by small priced one =
      record {
        are = λ h a b. one _ _ _ (small _) (small _) (by.are h a b);
        size = by.size;
        small = λ i. fits i (native.Mathlib.Decide.dec_le hour_places i);
      }
    where
      fits : (i : ℕ) → Dec (hour_places ≤ i) → get_or prices i 0 ≤ max_price
      fits i (yes a) = let z : length prices ≤ i = omega (arith, by.size) in rw (lib.ListN.get_or-eq_default prices 0 z) (omega arith)
      fits i (no a) =
          rw (rw sub-one at (one _ _ _ (small _) (small _) (by.are (suc i) (omega arith) (omega (arith, native.Mathlib.Nat.lt_of_not-le a)))))
          (priced _ _ (small _) (small _))

-- a shifted price is a price
pub shifted-priced : (t : ℕ) → t ≤ last_shift → Priced (shifted t)
unfolding shifted
shifted-priced t k low high a b =
    let part : (high - low) * t ≤ (high - low) * last_shift = mul-le-mul_left (high - low) k in
    omega (arith, part)

-- places in range are small
pub places-small : (m : ℕ) (first last places : List ℕ) → PlacesClear first last places → Small m last → length places ≡ hour_places → Small m places
places-small m first last places r small e i = at (native.Mathlib.Decide.dec_le hour_places i)
  where
    at : Dec (hour_places ≤ i) → get_or places i 0 ≤ m
    at (yes k) = let z : length places ≤ i = omega arith in rw (lib.ListN.get_or-eq_default places 0 z) (omega arith)
    at (no k) =
        let a = rw sub-one at (r (suc i) (omega arith) (omega (arith, native.Mathlib.Nat.lt_of_not-le k))) in
        omega (arith, a.1, small i)

-- the hours one after the other
module _ (gap turn from to : List ℕ) where
  pub record LeastTo (h sum : ℕ) : Type 0 where
    pub inside : h ≤ hour_places
    pub is : sum ≡ sum_to h (least_gap gap turn from to)
    pub fits : sum ≤ h * 2 ^ 32

  pub least_start : LeastTo 0 0
  unfolding sum_to
  least_start = record { inside = omega arith; is = refl; fits = omega arith }

  pub least-next : (h sum near : ℕ) → LeastTo h sum → h < hour_places → near ≡ nearest (get_or turn h 0) (get_or from h 0) (get_or to h 0) →
      get_or gap (h * row_width gap + near) 0 < 2 ^ 32 → LeastTo (h + 1) (sum + get_or gap (h * row_width gap + near) 0)
  unfolding sum_to
  least-next h sum near g k e small = record { inside = omega arith; is = rw (g.is, e, add-one, sub-one); fits = omega (arith, g.fits) }
