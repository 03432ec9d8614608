-- Columns of 24 numbers, one for each hour, and the hours of a block as bits. Assumes nothing.
use Prim.Native.Nat.{ℕ, suc, ◌+◌, ◌-◌, ◌*◌, ◌/◌, ◌%◌, ◌^◌, ◌≤◌, ◌<◌}
use mathlib.Core.Path.{◌≡◌, refl, sym, ◌∙◌}
use mathlib.Core.List.{List}
use mathlib.Core.Logic.{◌⊎◌, inl, inr}
use native.Mathlib.Omega.{arith}
use native.Mathlib.Nat.{le-suc_iff, div-one}
use native.Mathlib.Numerals.{add-one, sub-one}
use lib.Dec.{eqb}
use lib.ListN.{length, get_or, set, length-set}
use lib.Seq.{get_or-set_same, get_or-set_other}
use lib.Pow.{shr-shr}
use Rattle.rules.specs.Hour.{when}
use Rattle.rules.specs.Day.{sum_to}
use Rattle.rules.proofs.Tests.{by-eq}
use Rattle.rules.proofs.CurveLaws.{when-le}
use Rattle.records.specs.Records.{holds_hour}
use Rattle.places.specs.Layout.{hour_places, most_counted, most_limit}
use Rattle.places.specs.Hours.{Small, sum_of_hours}

-- a bit times a number
pub bit-times : (x n : ℕ) → x % 2 * n ≡ when (eqb (x % 2) 1) n
bit-times x n =
    by-eq (λ t. x % 2 * n ≡ when t n) (x % 2) 1
    (λ e. rw e (omega arith))
    (λ e. let z : x % 2 ≡ 0 = omega arith in rw z (omega arith))

pub bit-times-le : (x n : ℕ) → x % 2 * n ≤ n
bit-times-le x n = rw (bit-times x n) (when-le (eqb (x % 2) 1) n)

-- one hour further: the next bit
pub halved : (x h : ℕ) → x / 2 ^ h / 2 ≡ x / 2 ^ (h + 1)
halved x h = shr-shr x h 1

pub hour-bit : (hours h : ℕ) → holds_hour hours (suc h) ≡ eqb (hours / 2 ^ h % 2) 1
hour-bit hours h = rw sub-one

-- A QUANTITY ADDED in each hour of a block
pub record MovedTo (places : List ℕ) (hours quantity h rest : ℕ) (r : List ℕ) : Type 0 where
  pub bits : rest ≡ hours / 2 ^ h
  pub size : length r ≡ hour_places
  pub inside : h ≤ hour_places
  pub done : (k : ℕ) → k < h → get_or r k 0 ≡ get_or places k 0 + when (holds_hour hours (suc k)) quantity
  pub ahead : (k : ℕ) → h ≤ k → get_or r k 0 ≡ get_or places k 0

pub moved-next : (places : List ℕ) (hours quantity h rest : ℕ) (r : List ℕ) → MovedTo places hours quantity h rest r → h < hour_places →
    MovedTo places hours quantity (h + 1) (rest / 2) (set r h (get_or r h 0 + rest % 2 * quantity))
moved-next places hours quantity h rest r m k =
    let inside : h < length r = omega (arith, m.size) in
    record {
      bits = rw m.bits (halved hours h);
      size = rw length-set m.size;
      inside = omega arith;
      done = λ j a. at j (le-suc_iff.0 (rw add-one at a)) inside;
      ahead = λ j a. get_or-set_other r h j _ 0 (omega arith) ∙ m.ahead j (omega arith);
    }
  where
    at : (j : ℕ) → (suc j ≤ h) ⊎ (suc j ≡ suc h) → h < length r →
        get_or (set r h (get_or r h 0 + rest % 2 * quantity)) j 0 ≡ get_or places j 0 + when (holds_hour hours (suc j)) quantity
    at j (inl a) i = get_or-set_other r h j _ 0 (omega arith) ∙ m.done j a
    at j (inr a) i =
        let e : j ≡ h = omega arith in
        rw (e, get_or-set_same r h _ 0 i, m.ahead h (omega arith), bit-times rest quantity, m.bits, hour-bit hours h)

-- A SUM OVER THE HOURS of a block
pub record SummedTo (column : List ℕ) (hours h rest sum : ℕ) : Type 0 where
  pub bits : rest ≡ hours / 2 ^ h
  pub inside : h ≤ hour_places
  pub is : sum ≡ sum_to h (λ k. when (holds_hour hours k) (get_or column (k - 1) 0))
  pub fits : sum ≤ h * most_counted

pub sum-start : (column : List ℕ) (hours : ℕ) → SummedTo column hours 0 hours 0
unfolding sum_to
sum-start column hours = record { bits = sym (div-one hours); inside = omega arith; is = refl; fits = omega arith }

pub sum-next : (column : List ℕ) (hours h rest sum : ℕ) → Small most_counted column → SummedTo column hours h rest sum → h < hour_places →
    SummedTo column hours (h + 1) (rest / 2) (sum + rest % 2 * get_or column h 0)
unfolding sum_to
sum-next column hours h rest sum small m k =
    let e : rest % 2 * get_or column h 0 ≡ when (holds_hour hours (suc h)) (get_or column h 0) =
    rw (bit-times rest (get_or column h 0), m.bits, hour-bit hours h) in
    record {
      bits = rw m.bits (halved hours h);
      inside = omega arith;
      is = rw (e, m.is, add-one, sub-one);
      fits = omega (arith, m.fits, small h, when-le (holds_hour hours (suc h)) (get_or column h 0));
    }

pub sum-all : (column : List ℕ) (hours h rest sum : ℕ) → SummedTo column hours h rest sum → hour_places ≤ h → (sum ≡ sum_of_hours column hours) × (sum ≤ most_limit)
unfolding sum_of_hours
sum-all column hours h rest sum m k =
    let e : h ≡ hour_places = omega (arith, m.inside) in
    (rw (m.is, e), omega (arith, m.fits))
