-- The hours one after another: what an hour's orders get goes to its part of the columns, and so hour after hour. Assumes nothing.
use Prim.Native.Nat.{ℕ, ◌+◌, ◌-◌, ◌*◌, ◌≤◌, ◌<◌}
use mathlib.Core.Path.{◌≡◌, refl, sym, ap₂, ◌∙◌}
use mathlib.Core.List.{List, ◌++◌, append_assoc}
use native.Mathlib.Omega.{arith}
use native.Mathlib.Numerals.{add-one}
use mathlib.Core.Bool.{cond, not}
use lib.Dec.{eqb}
use lib.ListN.{length, take, drop, get_or, set, length-set, length-append, take-append-drop}
use borrow.Author.Tests.{ne_eqb}
use lib.Seq.{get_or-set_same, get_or-set_other, slice, take-take, take_at, drop_at, length-take-le}
use borrow.Rule.Slice.PartMut.{put_mid, post_of, same_len_mid, mid_len, take_put}
use Rattle.rules.specs.Orders.{Step, Order}
use Rattle.records.specs.Layout.{last_hour}
use Rattle.rules.specs.Hour.{when}
use Rattle.rules.specs.Day.{change_hour, sum_to}
use Rattle.rules.proofs.Tests.{by-eq}
use Rattle.rules.proofs.BoundsLaws.{product_le}
use Rattle.rules.proofs.DualityLaws.{value, cost}
use Rattle.pricing.specs.Curves.{TradesOf}
use Rattle.places.specs.Layout.{last_place, change_row}
use Rattle.places.specs.Hours.{times_in, of_hour}
use Rattle.places.specs.Steps.{steps_at}
use Rattle.places.proofs.StepLaws.{mid-slice, steps_next}
use Rattle.clearing.specs.Publish.{most_worth, HourDone, HourPut, TradersSized, HoursDone, WhereCounted, sales_at, buys_at, in_turn, steps_get, orders_get, StandFor}
use Rattle.clearing.proofs.WorthLaws.{trades-fit}

-- what is put into a part stands there
slice-put : (a e : ℕ) (l out : List ℕ) → a ≤ e → e ≤ length l → length out ≡ e - a → slice a e (put_mid a (e - a) l out) ≡ out
slice-put a e l out h k n =
    let la = length-take-le a l (omega arith) in
    let whole : length (take a l ++ out) ≡ e = omega (arith, length-append (take a l) out) in
    rw (← (append_assoc (take a l) out (post_of a (e - a) l)), take_at (take a l ++ out) (post_of a (e - a) l) e whole) (drop_at (take a l) out a la)

-- so an hour's part is put
pub hour-put : (sides prices quantities : List ℕ) (from to sales purchases price : ℕ) (before out : List ℕ) (v c : ℕ) → from ≤ to →
    to ≤ length before → length out ≡ to - from →
    HourDone (take (to - from) (drop from sides)) (take (to - from) (drop from prices)) (take (to - from) (drop from quantities)) sales purchases price out
    v c →
    HourPut sides prices quantities from to sales purchases price before (put_mid from (to - from) before out) v c
hour-put sides prices quantities from to sales purchases price before out v c h k n d =
    record {
      same_length = same_len_mid from (to - from) before out (n ∙ sym (mid_len from to before k));
      front = take_put from (to - from) before out (omega arith);
      done = rw (slice-put from to before out h k n, ← (mid-slice from to sides h), ← (mid-slice from to prices h), ← (mid-slice from to quantities h)) d;
    }

-- a column with hour 3 taken out, and one with it left
pub change-out : (often : ℕ) (column : List ℕ) → length column ≡ last_hour → often ≡ 0 → WhereCounted often column (set column change_row 0)
change-out often column size none =
    record {
      size = length-set column change_row 0 ∙ size;
      are = λ h first last.
          by-eq (λ t. of_hour (set column change_row 0) h ≡ when (not (eqb (cond t often 1) 0)) (of_hour column h)) h change_hour
          (λ e. rw (e, none) (get_or-set_same column change_row 0 0 (omega arith)))
          (λ other. get_or-set_other column change_row (h - 1) 0 0 (omega arith));
    }

pub change-left : (often : ℕ) (column : List ℕ) → length column ≡ last_hour → (often ≡ 0 → ⊥) → WhereCounted often column column
change-left often column size some =
    record {
      size = size;
      are = λ h first last.
          by-eq (λ t. of_hour column h ≡ when (not (eqb (cond t often 1) 0)) (of_hour column h)) h change_hour (λ e. rw (ne_eqb often 0 some)) (λ other. refl);
    }

-- HOUR AFTER HOUR
take_split : (a e : ℕ) (l : List ℕ) → a ≤ e → take e l ≡ take a l ++ slice a e l
take_split a e l h = sym (take-append-drop a (take e l)) ∙ rw (take-take a e l h)

in_turn-more : (q : ℕ → List ℕ) (n : ℕ) → in_turn q (n + 1) ≡ in_turn q n ++ q (n + 1)
unfolding in_turn
in_turn-more q n = rw add-one

sum_to-more : (n : ℕ) (f : ℕ → ℕ) → sum_to (n + 1) f ≡ sum_to n f + f (n + 1)
unfolding sum_to
sum_to-more n f = rw add-one

pub trades-are : (sides hours quantities : List ℕ) (set h sales purchases : ℕ) → TradesOf sides hours quantities set h sales purchases →
    (sales ≡ sales_at sides hours quantities set h) × (purchases ≡ buys_at sides hours quantities set h)
unfolding sales_at buys_at
trades-are sides hours quantities set h sales purchases t = (t.sold, t.bought)

pub trades-most : (sides hours quantities : List ℕ) (set h sales purchases : ℕ) → TradersSized sides hours quantities →
    TradesOf sides hours quantities set h sales purchases → (sales ≤ last_place) × (purchases ≤ last_place)
trades-most sides hours quantities set h sales purchases z t =
    let e = trades-are sides hours quantities set h sales purchases t in
    let f = trades-fit sides hours quantities set h z in
    (omega arith, omega arith)

module _ (often : ℕ) (few : often ≤ 2) (ends sides prices quantities : List ℕ) (sales purchases price : ℕ → ℕ) where
  abbrev steps : ℕ → List Step
  steps = steps_at ends sides prices quantities

  abbrev gets : ℕ → List ℕ
  gets = steps_get (steps_at ends sides prices quantities) sales purchases price

  pub hours-none : (values : List ℕ) → get_or ends 0 0 ≡ 0 → HoursDone often ends (steps_at ends sides prices quantities) sales purchases price 0 values 0 0
  unfolding in_turn sum_to
  hours-none values e = record { gets = λ orders stand. rw e; value_is = refl; cost_is = refl; value_fits = omega arith; cost_fits = omega arith }

  pub hours-more : (h : ℕ) (values values' : List ℕ) (v c v' c' s u p times : ℕ) → h < 24 → times ≡ times_in often (h + 1) → times ≤ 2 →
      s ≡ sales (h + 1) → u ≡ purchases (h + 1) → p ≡ price (h + 1) → get_or ends h 0 ≤ get_or ends (h + 1) 0 →
      HoursDone often ends (steps_at ends sides prices quantities) sales purchases price h values v c →
      HourPut sides prices quantities (get_or ends h 0) (get_or ends (h + 1) 0) s u p values values' v' c' →
      HoursDone often ends (steps_at ends sides prices quantities) sales purchases price (h + 1) values' (v + times * v') (c + times * c')
  hours-more h values values' v c v' c' s u p times k et most es eu ep rise d put =
      let from = get_or ends h 0 in
      let to = get_or ends (h + 1) 0 in
      let next = steps_next ends sides prices quantities h in
      let got : (orders : ℕ → List Order) → StandFor steps orders (h + 1) → slice from to values' ≡ orders_get orders sales purchases price (h + 1) =
      λ orders stand. put.done.gets (h + 1) (orders (h + 1)) (stand (h + 1) (omega arith) (omega arith) ∙ next) ∙ rw (es, eu, ep) in
      let value-is : v' ≡ value (steps (h + 1)) (gets (h + 1)) = put.done.value_is (h + 1) ∙ rw (next, es, eu, ep) in
      let cost-is : c' ≡ cost (steps (h + 1)) (gets (h + 1)) = put.done.cost_is (h + 1) ∙ rw (next, es, eu, ep) in
      record {
        gets = λ orders stand.
            take_split from to values' rise
            ∙ rw (
              put.front,
              d.gets orders (λ j a k. stand j a (omega arith)),
              got orders stand,
              in_turn-more (orders_get orders sales purchases price) h,
            );
        value_is = omega (arith, d.value_is, ap₂ ◌*◌ et value-is, sum_to-more h (λ j. times_in often j * value (steps j) (gets j)));
        cost_is = omega (arith, d.cost_is, ap₂ ◌*◌ et cost-is, sum_to-more h (λ j. times_in often j * cost (steps j) (gets j)));
        value_fits = omega (arith, d.value_fits, product_le times v' 2 most_worth most put.done.value_fits);
        cost_fits = omega (arith, d.cost_fits, product_le times c' 2 most_worth most put.done.cost_fits);
      }
