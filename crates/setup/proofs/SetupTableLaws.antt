-- The tables of the search, filled row after row: the price tables, the ranges and the gap tables of the hours. Assumes nothing.
use Prim.Native.Nat.{ℕ, zero, suc, ◌+◌, ◌-◌, ◌*◌, ◌≤◌, ◌<◌}
use mathlib.Core.Path.{◌≡◌, sym, ap, ◌∙◌}
use mathlib.Core.List.{List, [], ◌∷◌, ◌++◌}
use native.Mathlib.Omega.{arith}
use native.Mathlib.Numerals.{add-one}
use native.Mathlib.Decide.{dec_le}
use native.Mathlib.Nat.{lt_of_not-le}
use lib.ListN.{length, take, drop, get_or, set, replicate, length-set, length-take, length-drop}
use lib.Seq.{length-take-le, take-take, take-nil, drop-nil, drop_at, take_at, get_or-set_same, get_or-set_other}
use borrow.Rule.Slice.PartMut.{put_mid, mid_of, take_put, same_len_mid}
use Rattle.places.specs.Layout.{hour_places, last_place}
use Rattle.rules.specs.Orders.{Step, buy, sell, max_price}
use Rattle.orders.specs.Columns.{steps_from}
use Rattle.orders.specs.HourSteps.{HourHeld}
use Rattle.tables.specs.Tables.{PriceTable, AllOf, ClearRange, NotRising, GapsFor, GapTable}
use Rattle.tables.proofs.LevelLaws.{table-not-rising, table-in-range}
use Rattle.places.specs.Hours.{Small, row_width, last_in}
use Rattle.setup.specs.Setup.{StepsHeld, hour_part, row_places, table_row, RowsFit, RowIs, Ranged, RangedAt}
use Rattle.places.proofs.NumberLaws.{below_next}
use Rattle.places.proofs.StepLaws.{small-take, small-drop}
use Rattle.places.proofs.CellLaws.{rows_apart, row_fits}
use Rattle.roots.proofs.SizeLaws.{set-small}

-- PARTS
pub take-drop : (m k : ℕ) (l : List ℕ) → take k (drop m l) ≡ drop m (take (m + k) l)
take-drop zero k l = let e : 0 + k ≡ k = omega arith in rw e
take-drop (suc m) k [] = rw (take-nil, take-nil, drop-nil)
take-drop (suc m) k (x ∷ l) = let e : suc m + k ≡ suc (m + k) = omega arith in rw e (take-drop m k l)

-- a part that lies in front depends on the front alone
part-front : (m k n : ℕ) (l r : List ℕ) → m + k ≤ n → take n l ≡ take n r → take k (drop m l) ≡ take k (drop m r)
part-front m k n l r a e =
    take-drop m k l ∙ ap (drop m) (sym (take-take (m + k) n l a) ∙ ap (take (m + k)) e ∙ take-take (m + k) n r a) ∙ sym (take-drop m k r)

-- SMALL NUMBERS in lists put together
small-append : (m : ℕ) (a b : List ℕ) → Small m a → Small m b → Small m (a ++ b)
small-append m [] b sa sb i = sb i
small-append m (x ∷ a) b sa sb zero = sa 0
small-append m (x ∷ a) b sa sb (suc i) = small-append m a b (λ j. sa (suc j)) sb i

-- each hour stands within columns as they are held
pub hour-held : (sides prices quantities ends : List ℕ) (h : ℕ) → length ends ≡ hour_places + 1 → StepsHeld sides prices quantities ends → h < hour_places →
    HourHeld ends sides prices quantities h
hour-held sides prices quantities ends h size held k =
    let inside = held.inside (h + 1) (omega arith) in
    record {
      inside = record { an_hour = k; ordered = held.rising h k; fits = omega (arith, inside, held.not_too_many) };
      has_end = omega (arith, size);
      in_sides = inside;
      in_prices = omega (arith, inside, held.as_many_prices);
      in_quantities = omega (arith, inside, held.as_many_quantities);
    }

-- ROWS
module _ (w : ℕ) (table row : List ℕ) (h k most : ℕ) (room : h * w + row_places most ≤ length table) (full : length row ≡ row_places most)
    (wide : k ≡ row_places most) where
  pub row_put : table_row w (put_mid (h * w) k table row) h most ≡ row
  row_put =
      let n : h * w ≤ length table = omega (arith, room) in
      rw (
        drop_at (take (h * w) table) (row ++ drop k (drop (h * w) table)) (h * w) (length-take-le (h * w) table n),
        take_at row (drop k (drop (h * w) table)) (row_places most) full,
      )

  pub row_before : (j n : ℕ) → j * w + row_places n ≤ h * w → table_row w (put_mid (h * w) k table row) j n ≡ table_row w table j n
  row_before j n apart =
      part-front (j * w) (row_places n) (h * w) (put_mid (h * w) k table row) table apart (take_put (h * w) k table row (omega (arith, room)))

  pub put-size : length (put_mid (h * w) k table row) ≡ length table
  put-size =
      let e : length row ≡ length (mid_of (h * w) k table) = rw (wide, full) (simp (length-take, length-drop) (omega (arith, room))) in
      same_len_mid (h * w) k table row e

  -- what is small stays so
  pub put_small : (m : ℕ) → Small m table → Small m row → Small m (put_mid (h * w) k table row)
  put_small m small rowSmall =
      small-append m (take (h * w) table) (row ++ drop k (drop (h * w) table)) (small-take m (h * w) table (λ i _. small i))
      (small-append m row (drop k (drop (h * w) table)) rowSmall (small-drop m k (drop (h * w) table) (small-drop m (h * w) table small)))

pub row-length : (w : ℕ) (table : List ℕ) (h most : ℕ) → h * w + row_places most ≤ length table → length (table_row w table h most) ≡ row_places most
row-length w table h most room = simp (length-take, length-drop) (omega (arith, room))

pub row-wide : (w h most : ℕ) → h * w + most + 2 - h * w ≡ row_places most
row-wide w h most = omega arith

pub part_length : (w : ℕ) (table : List ℕ) (h most : ℕ) → h * w + row_places most ≤ length table →
    length (take (h * w + most + 2 - h * w) (drop (h * w) table)) ≡ row_places most
part_length w table h most room = rw (row-wide w h most) (row-length w table h most room)

-- the part of a table that is lent is the row
pub part-row : (w : ℕ) (table : List ℕ) (h most : ℕ) → take (h * w + most + 2 - h * w) (drop (h * w) table) ≡ table_row w table h most
part-row w table h most = rw (row-wide w h most)

-- THE PRICE TABLES
module _ (before sides prices quantities ends off most : List ℕ) where
  pub record RowsTo (unit_prices : List ℕ) (h : ℕ) : Type 0 where
    pub inside : h ≤ hour_places
    pub size : length unit_prices ≡ length before
    pub small : Small max_price unit_prices
    pub done : (j : ℕ) → j < h → RowIs (row_width before) sides prices quantities ends off most unit_prices j

  -- a row of unit prices is small
  row_small : (h : ℕ) (row : List ℕ) → PriceTable (hour_part ends h sides) (hour_part ends h prices) (hour_part ends h quantities) (get_or off h 0) row → Small max_price row
  row_small h row t i = elim (dec_le (length row) i) [
    | yes k ↦ rw (lib.ListN.get_or-eq_default row 0 k) (omega arith)
    | no k ↦ table-in-range (steps_from 0 (hour_part ends h sides) (hour_part ends h prices) (hour_part ends h quantities)) (get_or off h 0) row (t 0) i (lt_of_not-le k)
  ]

  pub rows_next : RowsFit (row_width before) most → (unit_prices row : List ℕ) (h k : ℕ) → RowsTo unit_prices h → h < hour_places → length row ≡ row_places (get_or most h 0) → k ≡ row_places (get_or most h 0) →
      PriceTable (hour_part ends h sides) (hour_part ends h prices) (hour_part ends h quantities) (get_or off h 0) row →
      RowsTo (put_mid (h * row_width before) k unit_prices row) (h + 1)
  rows_next few unit_prices row h k r a full wide t =
      let w = row_width before in
      let room : h * w + row_places (get_or most h 0) ≤ length unit_prices = rw r.size (row_fits before h (row_places (get_or most h 0)) a (few h a)) in
      record {
        inside = omega arith;
        size = put-size w unit_prices row h k (get_or most h 0) room full wide ∙ r.size;
        small = put_small w unit_prices row h k (get_or most h 0) room full wide max_price r.small (row_small h row t);
        done = λ j b. below_next (RowIs w sides prices quantities ends off most (put_mid (h * w) k unit_prices row)) h j
            (λ c. rw (row_before w unit_prices row h k (get_or most h 0) room full wide j (get_or most j 0)
            (rows_apart w j h (row_places (get_or most j 0)) c (few j (omega arith)))) (r.done j c))
            (rw (row_put w unit_prices row h k (get_or most h 0) room full wide) t) (rw add-one at b);
      }

-- ONE HOUR'S RANGE: it has the place off
pub range-holds : (buys sells off most first last : ℕ) → ClearRange buys sells off most first last → off ≤ most → (first ≤ off) × (off ≤ last)
range-holds buys sells off most first last r k =
    let l : List Step = record { hour = 1; side = buy; price = 1; quantity = buys } ∷ record { hour = 1; side = sell; price = 1; quantity = sells } ∷ [] in
    (r.clearing l (omega arith) (omega arith) off k).1 (record { buys_suffice = omega arith; sells_suffice = omega arith })

module _ (sides prices quantities : List ℕ) (off most price : ℕ) (row : List ℕ) (table : PriceTable sides prices quantities off row)
    (size : length row ≡ row_places most) (small : off ≤ most) (few : most ≤ last_place) (top : price ≤ max_price) where
  pub hour-room : (buys sells first last : ℕ) (gap : List ℕ) → length gap ≡ row_places most → ClearRange buys sells off most first last →
      GapsFor row price first last gap × NotRising row
  hour-room buys sells first last gap e r =
      let l = steps_from 0 sides prices quantities in (
        record {
          ordered = omega (arith, range-holds buys sells off most first last r small);
          inside = omega (arith, r.inside);
          as_many = size ∙ sym e;
          few = omega arith;
          in_range = table-in-range l off row (table 0);
          price_in_range = top;
        },
        table-not-rising l off row (table 0),
      )

  pub hour-ranged : (buys sells first last turn : ℕ) (gap : List ℕ) → AllOf sides prices quantities buys sells →
      ClearRange buys sells off most first last → GapTable row price first last turn gap →
      ((first ≤ most) × (last ≤ most) × (turn ≤ most)) × Ranged sides prices quantities off most price first last turn row gap
  hour-ranged buys sells first last turn gap a r g = (
    (omega (arith, range-holds buys sells off most first last r small), omega (arith, r.inside), omega (arith, g.to, r.inside)),
    record { bought = buys; sold = sells; all = a; range = r; gaps = g },
  )

-- THE RANGES AND THE GAP TABLES
module _ (before sides prices quantities ends off most root unit_prices : List ℕ) where
  pub record RangesTo (gap first last turn : List ℕ) (h : ℕ) : Type 0 where
    pub inside : h ≤ hour_places
    pub size : length gap ≡ length before
    pub first_size : length first ≡ hour_places
    pub last_size : length last ≡ hour_places
    pub turn_size : length turn ≡ hour_places
    pub small : Small (last_in before) last
    pub done : (j : ℕ) → j < h → RangedAt (row_width before) sides prices quantities ends off most root unit_prices gap first last turn j

  pub ranges-next : RowsFit (row_width before) most → (gap first last turn row : List ℕ) (h k f l m : ℕ) → RangesTo gap first last turn h → h < hour_places → length row ≡ row_places (get_or most h 0) → k ≡ row_places (get_or most h 0) → l ≤ get_or most h 0 →
      Ranged (hour_part ends h sides) (hour_part ends h prices) (hour_part ends h quantities) (get_or off h 0) (get_or most h 0) (get_or root h 0) f l m (table_row (row_width before) unit_prices h (get_or most h 0)) row →
      RangesTo (put_mid (h * row_width before) k gap row) (set first h f) (set last h l) (set turn h m) (h + 1)
  ranges-next few gap first last turn row h k f l m r a full wide small t =
      let in_f : h < length first = omega (arith, r.first_size) in
      let in_l : h < length last = omega (arith, r.last_size) in
      let in_t : h < length turn = omega (arith, r.turn_size) in
      let w = row_width before in
      let room : h * w + row_places (get_or most h 0) ≤ length gap = rw r.size (row_fits before h (row_places (get_or most h 0)) a (few h a)) in
      let top : l ≤ last_in before = omega (arith, few h a) in
      let new = put_mid (h * w) k gap row in
      record {
        inside = omega arith;
        size = put-size w gap row h k (get_or most h 0) room full wide ∙ r.size;
        first_size = rw length-set r.first_size;
        last_size = rw length-set r.last_size;
        turn_size = rw length-set r.turn_size;
        small = set-small (last_in before) last h l in_l top r.small;
        done = λ j b. below_next (RangedAt w sides prices quantities ends off most root unit_prices new (set first h f) (set last h l) (set turn h m)) h j
            (λ c. rw (
              row_before w gap row h k (get_or most h 0) room full wide j (get_or most j 0) (rows_apart w j h (row_places (get_or most j 0)) c (few j (omega arith))),
              get_or-set_other first h j f 0 (λ e. omega arith),
              get_or-set_other last h j l 0 (λ e. omega arith),
              get_or-set_other turn h j m 0 (λ e. omega arith),
            ) (r.done j c))
            (rw (
              row_put w gap row h k (get_or most h 0) room full wide,
              get_or-set_same first h f 0 in_f,
              get_or-set_same last h l 0 in_l,
              get_or-set_same turn h m 0 in_t,
            ) t) (rw add-one at b);
      }
