-- The leftover tenths of a side, given by a cut; and the whole: what every step gets is the rules' shares. Assumes nothing.
use Prim.Native.Nat.{ℕ, zero, suc, ◌+◌, ◌-◌, ◌*◌, ◌/◌, ◌%◌, ◌≤◌, ◌<◌}
use mathlib.Core.Bool.{Bool, true, false}
use mathlib.Core.Path.{◌≡◌, refl, sym, ap, ap₂, ◌∙◌}
use mathlib.Core.List.{List, [], ◌∷◌, map}
use native.Mathlib.Omega.{arith}
use native.Mathlib.Decide.{dec_le}
use native.Mathlib.Nat.{lt_of_not-le, div-add-mod', mul-le-mul_left, le_of_mul-le-mul_right, mul-zero, zero-div}
use lib.Dec.{ltb, eqb}
use lib.ListN.{length, get_or, length-map}
use borrow.Author.Tests.{le-ltb}
use Rattle.rules.specs.Orders.{Step}
use Rattle.rules.specs.Hour.{by_side, total}
use Rattle.rules.specs.Execution.{test_side, in_full, buying_at, selling_at, plus, sum_of, floors, remainders, at_least, extras, in_proportion, shares}
use Rattle.rules.proofs.CurveLaws.{by_side-le}
use Rattle.rules.proofs.ShareLaws.{when-le, at_least-none, at_least-length, leftover-few, length-extras, shares-none, shares-some}
use Rattle.rules.proofs.CutLaws.{by_cut, Cut, extras-cut, none_over}
use Rattle.rules.proofs.ExecutionLaws.{sum-map}
use Rattle.orders.specs.Columns.{side_for, steps_from}
use Rattle.pricing.specs.Curves.{Columns, QuantitiesInRange}
use Rattle.shares.specs.Shares.{
  AmountsFit,
  AmountsHeld,
  holding,
  holdings,
  buy_floor,
  sell_floor,
  first_share,
  LeftOver,
  Room,
  shared_out,
  SharedOut,
}

-- THE LEFTOVER TENTHS of a side
-- where none is left, nobody gets one
extras-zero : (lower rest : List ℕ) → extras 0 lower rest ≡ map (λ r. 0) rest
unfolding extras
extras-zero lower [] = refl
extras-zero lower (r ∷ rest) = ap₂ ◌∷◌ (rw (le-ltb (at_least r lower + at_least (suc r) rest) 0 (omega arith))) (extras-zero (r ∷ lower) rest)

plus-zero : (l rest : List ℕ) → length l ≡ length rest → l ≡ plus l (map (λ r. 0) rest)
plus-zero [] rest e = refl
plus-zero (a ∷ l) [] e = absurd (omega arith)
plus-zero (a ∷ l) (r ∷ rest) e = ap₂ ◌∷◌ (omega arith) (plus-zero l rest (omega arith))

pub none_left : (out rest : List ℕ) (left : ℕ) → left ≡ 0 → length out ≡ length rest → out ≡ plus out (extras left [] rest)
none_left out rest left z e = rw (z, extras-zero [] rest) (plus-zero out rest e)

-- where some are left, the cut gives them out
module _ (amount t left : ℕ) (owns rs : List ℕ) (o : LeftOver amount t left owns) (some : left ≡ 0 → ⊥) (r : rs ≡ remainders amount t owns) where
  positive : 0 < sum_of owns
  positive = omega (arith, o.held, o.whole, o.is)

  pub left-few : left ≤ length rs
  left-few =
      let w = o.whole in
      let few : left ≤ at_least 1 (remainders amount t owns) = rw (o.is, w) (leftover-few amount owns positive) in
      rw r (omega (arith, few, at_least-length 1 (remainders amount t owns)))

  pub none-over-total : at_least (suc t) rs ≤ left
  none-over-total =
      let z : at_least (suc t) (remainders amount t owns) ≡ 0 = rw o.whole (none_over amount owns positive) in
      rw r (omega (arith, z))

  pub given-by-cut : (cut over : ℕ) (old out : List ℕ) → at_least (suc cut) rs ≤ left → left ≤ at_least cut rs → over ≡ at_least (suc cut) rs →
      out ≡ plus old (by_cut cut (left - over) rs) → out ≡ plus old (extras left [] (remainders amount t owns))
  given-by-cut cut over old out a b e g =
      let c : Cut cut left [] rs = record { above = omega (arith, at_least-none (suc cut)); from = omega (arith, at_least-none cut) } in
      let same : left - (at_least cut [] + at_least (suc cut) rs) ≡ left - over = omega (arith, at_least-none cut) in
      g ∙ ap (plus old) (ap (λ m. by_cut cut m rs) (sym same) ∙ sym (extras-cut cut left [] rs c) ∙ ap (extras left []) r)

pub holdings-long : (buys : Bool) (price : ℕ) (sides prices quantities : List ℕ) → Columns sides prices quantities →
    length (holdings buys price sides prices quantities) ≡ length sides
unfolding holdings steps_from
holdings-long buys price sides prices quantities columns =
    length-map (steps_from 0 sides prices quantities) (holding buys price)
    ∙ steps-long sides prices quantities columns.as_many_prices columns.as_many_quantities
  where
    steps-long : (sides prices quantities : List ℕ) → length sides ≡ length prices → length sides ≡ length quantities →
        length (steps_from 0 sides prices quantities) ≡ length sides
    steps-long [] prices quantities ep eq = refl
    steps-long (s ∷ sides) [] quantities ep eq = absurd (omega arith)
    steps-long (s ∷ sides) (p ∷ prices) [] ep eq = absurd (omega arith)
    steps-long (s ∷ sides) (p ∷ prices) (q ∷ quantities) ep eq = ap suc (steps-long sides prices quantities (omega arith) (omega arith))

-- as many remainders as steps
pub rests-long : (buys : Bool) (price amount t : ℕ) (sides prices quantities : List ℕ) → Columns sides prices quantities →
    length (remainders amount t (holdings buys price sides prices quantities)) ≡ length sides
unfolding remainders
rests-long buys price amount t sides prices quantities columns =
    length-map (holdings buys price sides prices quantities) (λ own. own * amount % t) ∙ holdings-long buys price sides prices quantities columns

-- THE RULE in proportion, also where nobody holds anything
pub shares-held : (amount : ℕ) (owns : List ℕ) → amount ≤ sum_of owns → shares amount owns ≡ in_proportion amount (sum_of owns) owns
unfolding in_proportion floors remainders
shares-held amount owns h = elim (dec_le 1 (sum_of owns)) [
  | yes k ↦ shares-some amount owns k
  | no k ↦
      let z : sum_of owns ≡ 0 = omega (arith, lt_of_not-le k) in
      let a : amount ≡ 0 = omega arith in
      shares-none amount owns z ∙ rw (z, a) (nothing owns)
]
  where
    zeros : (l : List ℕ) → map (λ own. own * 0 / 0) l ≡ map (λ own. 0) l
    zeros [] = refl
    zeros (own ∷ l) = ap₂ ◌∷◌ (rw mul-zero (zero-div 0)) (zeros l)

    long : (l : List ℕ) → length (map {B = ℕ} (λ own. 0) l) ≡ length (map (λ own. own * 0 % 0) l)
    long l = length-map l (λ own. 0) ∙ sym (length-map l (λ own. own * 0 % 0))

    nothing : (l : List ℕ) →
        map (λ own. 0) l ≡ plus (map (λ own. own * 0 / 0) l) (extras (0 - sum_of (map (λ own. own * 0 / 0) l)) [] (map (λ own. own * 0 % 0) l))
    nothing l = rw (zeros l) (none_left (map (λ own. 0) l) (map (λ own. own * 0 % 0) l) (0 - sum_of (map (λ own. 0) l)) (omega arith) (long l))

-- LISTS OF NUMBERS of each step
-- a number that does not depend on the step's hour
hour-free : (f : Step → ℕ) (h : ℕ) →
    ((s p q : ℕ) → f record { hour = h; side = side_for s; price = p; quantity = q } ≡ f record { hour = 0; side = side_for s; price = p; quantity = q }) →
    (sides prices quantities : List ℕ) → map f (steps_from h sides prices quantities) ≡ map f (steps_from 0 sides prices quantities)
unfolding steps_from
hour-free f h same [] prices quantities = refl
hour-free f h same (s ∷ sides) [] quantities = refl
hour-free f h same (s ∷ sides) (p ∷ prices) [] = refl
hour-free f h same (s ∷ sides) (p ∷ prices) (q ∷ quantities) = ap₂ ◌∷◌ (same s p q) (hour-free f h same sides prices quantities)

pub map-map : (g : ℕ → ℕ) (f : Step → ℕ) (l : List Step) → map g (map f l) ≡ map (λ s. g (f s)) l
map-map g f [] = refl
map-map g f (s ∷ l) = ap (λ m. g (f s) ∷ m) (map-map g f l)

-- extras added after the quotients of both sides, or to each side's own
spread : (f g k : Step → ℕ) (l : List Step) (eb es : List ℕ) → length eb ≡ length l → length es ≡ length l →
    plus (plus (map (λ s. f s + (g s + k s)) l) eb) es ≡ plus (map f l) (plus (plus (map g l) eb) (plus (map k l) es))
spread f g k [] eb es a b = refl
spread f g k (s ∷ l) [] es a b = absurd (omega arith)
spread f g k (s ∷ l) (x ∷ eb) [] a b = absurd (omega arith)
spread f g k (s ∷ l) (x ∷ eb) (y ∷ es) a b = ap₂ ◌∷◌ (omega arith) (spread f g k l eb es (omega arith) (omega arith))

-- A SIDE'S SHARES: its quotients and its leftover tenths
side-shares : (b : Bool) (price amount t left : ℕ) (l : List Step) → amount ≤ t → t ≡ sum_of (map (holding b price) l) →
    left ≡ amount - total (λ s. holding b price s * amount / t) l →
    shares amount (map (holding b price) l)
    ≡ plus (map (λ s. holding b price s * amount / t) l) (extras left [] (remainders amount t (map (holding b price) l)))
unfolding in_proportion floors
side-shares b price amount t left l held whole el =
    shares-held amount (map (holding b price) l) (omega (arith, whole))
    ∙ rw (
      ← whole,
      map-map (λ own. own * amount / t) (holding b price) l,
      sum-map (λ s. holding b price s * amount / t) l,
      ← el,
    )

extras-long : (b : Bool) (price amount t left : ℕ) (l : List Step) →
    length (extras left [] (remainders amount t (map (holding b price) l))) ≡ length l
unfolding remainders
extras-long b price amount t left l =
    length-extras left [] (remainders amount t (map (holding b price) l))
    ∙ length-map (map (holding b price) l) (λ own. own * amount % t)
    ∙ length-map l (holding b price)

-- the remainders of a side, one for each step
pub remainders-are : (b : Bool) (price amount t : ℕ) (sides prices quantities : List ℕ) →
    map (λ s. holding b price s * amount % t) (steps_from 0 sides prices quantities) ≡ remainders amount t (holdings b price sides prices quantities)
unfolding remainders holdings
remainders-are b price amount t sides prices quantities =
    sym (map-map (λ own. own * amount % t) (holding b price) (steps_from 0 sides prices quantities))

-- THE NUMBERS FIT
holding-le : (buys : Bool) (p : ℕ) (s : Step) → holding buys p s ≤ s.quantity
holding-le true p s = omega (arith, when-le (eqb s.price p) (by_side s.side s.quantity 0), by_side-le s.side s.quantity)
holding-le false p s = omega (arith, when-le (eqb s.price p) (by_side s.side 0 s.quantity), by_side-le s.side s.quantity)

held_small : (buys : Bool) (p : ℕ) (sides prices quantities : List ℕ) → QuantitiesInRange quantities →
    sum_of (map (holding buys p) (steps_from 0 sides prices quantities)) ≤ length sides * 99999
unfolding steps_from
held_small buys p [] prices quantities small = omega arith
held_small buys p (s ∷ sides) [] quantities small = omega arith
held_small buys p (s ∷ sides) (x ∷ prices) [] small = omega arith
held_small buys p (s ∷ sides) (x ∷ prices) (q ∷ quantities) small =
    omega (
      arith,
      holding-le buys p (record { hour = 0; side = side_for s; price = x; quantity = q }),
      small 0,
      held_small buys p sides prices quantities (λ i. small (suc i)),
    )

quotient_le : (own amount t : ℕ) → amount ≤ t → own * amount / t ≤ own
quotient_le own amount t h = elim (dec_le 1 t) [
  | yes k ↦ le_of_mul-le-mul_right {k = t} (omega (arith, div-add-mod' (own * amount) t, mul-le-mul_left own h)) k
  | no k ↦
      let z : t ≡ 0 = omega (arith, lt_of_not-le k) in
      let a : amount ≡ 0 = omega arith in
      rw (z, a, mul-zero own, zero-div 0) (omega arith)
]

module _ (price buys demand sells offer : ℕ) (hb : buys ≤ demand) (hs : sells ≤ offer) where
  first-le : (s : Step) → first_share price buys demand sells offer s ≤ 3 * s.quantity
  first-le s =
      omega (
        arith,
        when-le (test_side s.side (ltb price s.price) (ltb s.price price)) s.quantity,
        quotient_le (buying_at price s) buys demand hb,
        quotient_le (selling_at price s) sells offer hs,
        holding-le true price s,
        holding-le false price s,
      )

  first_small : (sides prices quantities : List ℕ) → QuantitiesInRange quantities →
      (i : ℕ) → get_or (map (first_share price buys demand sells offer) (steps_from 0 sides prices quantities)) i 0 ≤ 299997
  unfolding steps_from
  first_small [] prices quantities small i = omega arith
  first_small (s ∷ sides) [] quantities small i = omega arith
  first_small (s ∷ sides) (x ∷ prices) [] small i = omega arith
  first_small (s ∷ sides) (x ∷ prices) (q ∷ quantities) small zero =
      omega (arith, first-le (record { hour = 0; side = side_for s; price = x; quantity = q }), small 0)
  first_small (s ∷ sides) (x ∷ prices) (q ∷ quantities) small (suc i) = first_small sides prices quantities (λ j. small (suc j)) i

-- an extra is one at most
extra-le : (left : ℕ) (lower l rest : List ℕ) (i : ℕ) → get_or (plus l (extras left lower rest)) i 0 ≤ get_or l i 0 + 1
unfolding extras
extra-le left lower [] rest i = omega arith
extra-le left lower (a ∷ l) [] i = omega arith
extra-le left lower (a ∷ l) (r ∷ rest) zero = omega (arith, when-le (ltb (at_least r lower + at_least (suc r) rest) left) 1)
extra-le left lower (a ∷ l) (r ∷ rest) (suc i) = extra-le left (r ∷ lower) l rest i

-- THE WHOLE, each need from what the passes before it ensure
module _ (sides prices quantities : List ℕ) (price buys demand sells offer : ℕ) (columns : Columns sides prices quantities)
    (held : AmountsHeld sides prices quantities price buys demand sells offer) where
  abbrev steps : List Step
  steps = steps_from 0 sides prices quantities

  pub amounts-fit : QuantitiesInRange quantities → AmountsFit buys demand sells offer
  unfolding holdings
  amounts-fit small = record {
    buys_held = held.buys_held;
    sells_held = held.sells_held;
    demand_fits = omega (arith, held.held_by_buys, held_small true price sides prices quantities small, columns.not_too_many);
    offer_fits = omega (arith, held.held_by_sells, held_small false price sides prices quantities small, columns.not_too_many);
  }

  -- the leftover tenths of each side
  pub buys-left-over : QuantitiesInRange quantities → (left : ℕ) → left ≡ buys - total (buy_floor price buys demand) steps →
      LeftOver buys demand left (holdings true price sides prices quantities)
  unfolding holdings floors
  buys-left-over small left e = record {
    held = held.buys_held;
    whole = held.held_by_buys;
    fits = (amounts-fit small).demand_fits;
    is = rw (map-map (λ own. own * buys / demand) (buying_at price) steps, sum-map (buy_floor price buys demand) steps) e;
  }

  pub sells-left-over : QuantitiesInRange quantities → (left : ℕ) → left ≡ sells - total (sell_floor price sells offer) steps →
      LeftOver sells offer left (holdings false price sides prices quantities)
  unfolding holdings floors
  sells-left-over small left e = record {
    held = held.sells_held;
    whole = held.held_by_sells;
    fits = (amounts-fit small).offer_fits;
    is = rw (map-map (λ own. own * sells / offer) (selling_at price) steps, sum-map (sell_floor price sells offer) steps) e;
  }

  -- room for them
  pub first-room : QuantitiesInRange quantities → (out : List ℕ) → out ≡ map (first_share price buys demand sells offer) steps → Room out
  first-room small out e i =
      let b = first_small price buys demand sells offer held.buys_held held.sells_held sides prices quantities small i in
      rw e (omega (arith, b))

  pub second-room : QuantitiesInRange quantities → (old out : List ℕ) (left : ℕ) → old ≡ map (first_share price buys demand sells offer) steps →
      out ≡ plus old (extras left [] (remainders buys demand (holdings true price sides prices quantities))) → Room out
  second-room small old out left e f i =
      let b = first_small price buys demand sells offer held.buys_held held.sells_held sides prices quantities small i in
      let x = extra-le left [] (map (first_share price buys demand sells offer) steps) (remainders buys demand (holdings true price sides prices quantities)) i in
      rw (f, e) (omega (arith, b, x))

  -- and all together
  pub shared-out : (left left' : ℕ) (first second out : List ℕ) → first ≡ map (first_share price buys demand sells offer) steps →
      left ≡ buys - total (buy_floor price buys demand) steps → left' ≡ sells - total (sell_floor price sells offer) steps →
      second ≡ plus first (extras left [] (remainders buys demand (holdings true price sides prices quantities))) →
      out ≡ plus second (extras left' [] (remainders sells offer (holdings false price sides prices quantities))) →
      SharedOut sides prices quantities price buys sells out
  unfolding shared_out holdings
  shared-out left left' first second out ef el el' es eo h =
      eo ∙ rw (
        es,
        ef,
        hour-free (in_full price) h (λ s p q. refl) sides prices quantities,
        hour-free (buying_at price) h (λ s p q. refl) sides prices quantities,
        hour-free (selling_at price) h (λ s p q. refl) sides prices quantities,
        buys-are,
        sells-are,
      ) (spread (in_full price) (buy_floor price buys demand) (sell_floor price sells offer) steps
      (extras left [] (remainders buys demand (map (holding true price) steps)))
      (extras left' [] (remainders sells offer (map (holding false price) steps)))
      (extras-long true price buys demand left steps) (extras-long false price sells offer left' steps))
    where
      buys-are : shares buys (map (buying_at price) steps)
          ≡ plus (map (buy_floor price buys demand) steps) (extras left [] (remainders buys demand (map (buying_at price) steps)))
      buys-are = side-shares true price buys demand left steps held.buys_held held.held_by_buys el

      sells-are : shares sells (map (selling_at price) steps)
          ≡ plus (map (sell_floor price sells offer) steps) (extras left' [] (remainders sells offer (map (selling_at price) steps)))
      sells-are = side-shares false price sells offer left' steps held.sells_held held.held_by_sells el'
