-- The rows of the hours and of the records as they are written, and a row for each record as it is filled. Assumes nothing.
use mathlib.Core.Path.{◌≡◌, refl, sym, ◌∙◌}
use mathlib.Core.Bool.{Bool, true, false, cond}
use mathlib.Core.List.{List, [], ◌∷◌, ◌++◌, append_assoc, append-nil}
use Prim.Native.Nat.{ℕ, zero, suc, ◌+◌, ◌*◌, ◌-◌, ◌/◌, ◌%◌, ◌^◌, ◌≤◌, ◌<◌}
use native.Mathlib.Omega.{arith}
use native.Mathlib.Numerals.{add-one}
use native.Mathlib.Nat.{add-zero, add-suc, suc-add}
use lib.Dec.{eqb}
use lib.ListN.{length, take, drop, set, get_or, replicate, length-append, length-set}
use lib.Seq.{take_all, drop-cons, drop-length, get_or-set_same, get_or-set_other}
use borrow.Author.Count.{below_more}
use borrow.Author.Tests.{eq-eqb, ne_eqb, eqb-true, eqb-false}
use Rattle.orders.proofs.ColumnLaws.{zeros}
use Rattle.result.specs.Result.{bytes_of, hour_rows, record_rows, beside}
use Rattle.text.specs.Buffer.{splice}
use Rattle.result.proofs.ByteLaws.{length-bytes}
use Rattle.text.proofs.BufferLaws.{then, splice_all}

-- HOURS
pub length-hours : (prices traded : List ℕ) → length prices ≡ length traded → length (hour_rows prices traded) ≡ 8 * length prices
unfolding hour_rows
length-hours [] traded e = refl
length-hours (p ∷ prices) [] e = absurd (omega arith)
length-hours (p ∷ prices) (t ∷ traded) e =
    rw (length-append, length-append, length-bytes 4 p, length-bytes 4 t) (omega (arith, length-hours prices traded (omega arith)))

-- the first h hours
pub length-first : (h : ℕ) (prices traded : List ℕ) → h ≤ length prices → h ≤ length traded → length (hour_rows (take h prices) (take h traded)) ≡ 8 * h
unfolding hour_rows
length-first zero prices traded a b = refl
length-first (suc h) [] traded a b = absurd (omega arith)
length-first (suc h) (p ∷ prices) [] a b = absurd (omega arith)
length-first (suc h) (p ∷ prices) (t ∷ traded) a b =
    rw (length-append, length-append, length-bytes 4 p, length-bytes 4 t) (omega (arith, length-first h prices traded (omega arith) (omega arith)))

-- an hour more
hour-more : (h : ℕ) (prices traded : List ℕ) → h < length prices → h < length traded →
    hour_rows (take (suc h) prices) (take (suc h) traded)
    ≡ hour_rows (take h prices) (take h traded) ++ (bytes_of 4 (get_or prices h 0) ++ bytes_of 4 (get_or traded h 0))
unfolding hour_rows
hour-more h [] traded a b = absurd (omega arith)
hour-more h (p ∷ prices) [] a b = absurd (omega arith)
hour-more zero (p ∷ prices) (t ∷ traded) a b = rw append-nil
hour-more (suc h) (p ∷ prices) (t ∷ traded) a b = rw (hour-more h prices traded (omega arith) (omega arith), append_assoc, append_assoc)

-- a turn of the loop that writes the hours: m before it, k with the price, r with the quantity too
module _ (l prices traded : List ℕ) (fits : 200 ≤ length l) (lp : length prices ≡ 24) (lt : length traded ≡ 24) where
  pub hour-turn : (m k r : List ℕ) (h : ℕ) → h < 24 → m ≡ splice l 8 (hour_rows (take h prices) (take h traded)) →
      k ≡ splice m (8 + 8 * h) (bytes_of 4 (get_or prices h 0)) → r ≡ splice k (8 + 8 * h + 4) (bytes_of 4 (get_or traded h 0)) →
      r ≡ splice l 8 (hour_rows (take (h + 1) prices) (take (h + 1) traded))
  hour-turn m k r h g e f j =
      let n = length-first h prices traded (omega arith) (omega arith) in
      let p = bytes_of 4 (get_or prices h 0) in
      let t = bytes_of 4 (get_or traded h 0) in
      let p4 = length-bytes 4 (get_or prices h 0) in
      let t4 = length-bytes 4 (get_or traded h 0) in
      let done = hour_rows (take h prices) (take h traded) in
      let both = length-append done p in
      let one : k ≡ splice l 8 (done ++ p) = then l m k 8 (8 + 8 * h) done p (omega arith) e (omega arith) f in
      then l k r 8 (8 + 8 * h + 4) (done ++ p) t (omega arith) one (omega arith) j
      ∙ rw (append_assoc, ← (hour-more h prices traded (omega arith) (omega arith)), add-one)

  pub hours-done : (m : List ℕ) (h : ℕ) → 24 ≤ h → m ≡ splice l 8 (hour_rows (take h prices) (take h traded)) → m ≡ splice l 8 (hour_rows prices traded)
  hours-done m h g e = e ∙ rw (take_all h prices (omega arith), take_all h traded (omega arith))

-- RECORDS
pub length-records : (row : ℕ → ℕ) (n k : ℕ) → length (record_rows row n k) ≡ 4 * n
unfolding record_rows
length-records row zero k = refl
length-records row (suc n) k = rw (length-append, length-bytes) (omega (arith, length-records row n (suc k)))

-- a record more
record-more : (row : ℕ → ℕ) (n k : ℕ) → record_rows row (suc n) k ≡ record_rows row n k ++ bytes_of 4 (row (k + n))
unfolding record_rows
record-more row zero k = rw (append-nil, add-zero)
record-more row (suc n) k = rw (record-more row n (suc k), append_assoc, add-suc, suc-add)

-- two rows that agree on the records k to k + n - 1 are written alike
pub records-same : (row other : ℕ → ℕ) (n k : ℕ) → ((i : ℕ) → k ≤ i → i < k + n → row i ≡ other i) → record_rows row n k ≡ record_rows other n k
unfolding record_rows
records-same row other zero k e = refl
records-same row other (suc n) k e =
    rw (e k (omega arith) (omega arith), records-same row other n (suc k) (λ i a b. e i (omega arith) (omega arith)))

-- a turn of the loop that writes the records
pub record-turn : (l m r : List ℕ) (row : ℕ → ℕ) (count k : ℕ) → length l ≡ 196 + 4 * count → 1 ≤ k → k < count →
    m ≡ splice l 200 (record_rows row (k - 1) 1) → r ≡ splice m (196 + 4 * k) (bytes_of 4 (row k)) → r ≡ splice l 200 (record_rows row (k + 1 - 1) 1)
record-turn l m r row count k fits a b e f =
    let done = record_rows row (k - 1) 1 in
    let n = length-records row (k - 1) 1 in
    let four = length-bytes 4 (row k) in
    let next : k + 1 - 1 ≡ suc (k - 1) = omega arith in
    let here : 1 + (k - 1) ≡ k = omega arith in
    then l m r 200 (196 + 4 * k) done (bytes_of 4 (row k)) (omega arith) e (omega arith) f
    ∙ rw (next, record-more row (k - 1) 1, here)

-- THE WHOLE: the three parts one after another fill the buffer
pub parts_are : (l m k r prices traded : List ℕ) (row : ℕ → ℕ) (count w : ℕ) → 1 ≤ count → length l ≡ 196 + 4 * count →
    length prices ≡ 24 → length traded ≡ 24 → m ≡ splice l 0 (bytes_of 8 w) → k ≡ splice m 8 (hour_rows prices traded) →
    r ≡ splice k 200 (record_rows row (count - 1) 1) → r ≡ bytes_of 8 w ++ (hour_rows prices traded ++ record_rows row (count - 1) 1)
parts_are l m k r prices traded row count w a fits lp lt e f g =
    let head = bytes_of 8 w in
    let hours = hour_rows prices traded in
    let records = record_rows row (count - 1) 1 in
    let n8 = length-bytes 8 w in
    let nh = length-hours prices traded (lp ∙ sym lt) in
    let nr = length-records row (count - 1) 1 in
    let both = length-append head hours in
    let all = length-append (head ++ hours) records in
    let one : k ≡ splice l 0 (head ++ hours) = then l m k 0 8 head hours (omega arith) e (omega arith) f in
    then l k r 0 200 (head ++ hours) records (omega arith) one (omega arith) g
    ∙ splice_all l ((head ++ hours) ++ records) (omega arith) ∙ append_assoc head hours records

-- A ROW FOR EACH RECORD
-- what stands beside k, where the lists begin at i
beside-from : (k : ℕ) (records values : List ℕ) (other i : ℕ) → i < length records → length records ≡ length values →
    beside k (drop i records) (drop i values) other
    ≡ cond (eqb k (get_or records i 0)) (get_or values i 0) (beside k (drop (suc i) records) (drop (suc i) values) other)
unfolding beside
beside-from k records values other i g e =
    rw (drop-cons records i 0 g, drop-cons values i 0 (omega arith))

-- the rows once the values from i on are at their records
pub record Filled (rows records values filled : List ℕ) (i : ℕ) : Type 0 where
  pub room : length filled ≡ 2048
  pub at : (k : ℕ) → k < 2048 → get_or filled k 0 ≡ beside k (drop i records) (drop i values) (get_or rows k 0)

-- before the first turn
pub filled-start : (rows records values : List ℕ) → length rows ≡ 2048 → Filled rows records values rows (length records)
unfolding beside
filled-start rows records values n = record { room = n; at = λ k small. rw (drop-length records) }

-- a store at x, read at k
store_at : (l : List ℕ) (x v k : ℕ) → x < length l → get_or (set l x v) k 0 ≡ cond (eqb k x) v (get_or l k 0)
store_at l x v k h = by (eqb k x) refl
  where
    by : (t : Bool) → eqb k x ≡ t → get_or (set l x v) k 0 ≡ cond t v (get_or l k 0)
    by true e = rw (eqb-true k x e) (get_or-set_same l x v 0 h)
    by false e = get_or-set_other l x k v 0 (eqb-false k x e)

module _ (rows records values filled : List ℕ) (i j : ℕ) (same : length records ≡ length values) (here : j < length records) (next : i ≡ j + 1)
    (before : Filled rows records values filled i) where
  -- a turn that stores the value
  pub filled-stored : get_or records j 0 < 2048 → Filled rows records values (set filled (get_or records j 0) (get_or values j 0)) j
  filled-stored g = record {
    room = length-set filled _ _ ∙ before.room;
    at = λ k small.
        store_at filled (get_or records j 0) (get_or values j 0) k (omega (arith, before.room))
        ∙ rw (beside-from k records values (get_or rows k 0) j here same, before.at k small, next, add-one);
  }

  -- a turn that passes a record that is none
  pub filled-passed : 2048 ≤ get_or records j 0 → Filled rows records values filled j
  filled-passed g = record {
    room = before.room;
    at = λ k small.
        before.at k small
        ∙ rw (beside-from k records values (get_or rows k 0) j here same, ne_eqb k (get_or records j 0) (λ e. omega arith), next, add-one);
  }

-- THE BLOCKS' ROWS
-- the rows of the first i blocks, and 0 in the places after them
pub record Valued (quantities : List ℕ) (chosen : ℕ) (values : List ℕ) (i : ℕ) : Type 0 where
  pub room : length values ≡ 32
  pub done : (j : ℕ) → j < i → get_or values j 0 ≡ cond (eqb (chosen / 2 ^ j % 2) 1) (get_or quantities j 0) 0
  pub left : (j : ℕ) → i ≤ j → get_or values j 0 ≡ 0

module _ (quantities : List ℕ) (chosen : ℕ) where
  pub valued-start : Valued quantities chosen (replicate 32 0) 0
  valued-start = record { room = refl; done = λ j h. absurd (omega arith); left = λ j h. zeros 32 j }

  module _ (values : List ℕ) (i : ℕ) (before : Valued quantities chosen values i) where
    -- a turn at a block of the set
    pub valued-taken : i < 32 → chosen / 2 ^ i % 2 ≡ 1 → Valued quantities chosen (set values i (get_or quantities i 0)) (i + 1)
    valued-taken small bit = record {
      room = length-set values i _ ∙ before.room;
      done = below_more _ _ (λ j h. get_or-set_other values i j _ 0 (λ e. omega arith) ∙ before.done j h)
          (get_or-set_same values i _ 0 (omega (arith, before.room)) ∙ rw (eq-eqb (chosen / 2 ^ i % 2) 1 bit));
      left = λ j h. get_or-set_other values i j _ 0 (λ e. omega arith) ∙ before.left j (omega arith);
    }

    -- a turn at a block that is not in it
    pub valued-passed : (chosen / 2 ^ i % 2 ≡ 1 → ⊥) → Valued quantities chosen values (i + 1)
    valued-passed bit = record {
      room = before.room;
      done = below_more _ _ before.done (before.left i (omega arith) ∙ rw (ne_eqb (chosen / 2 ^ i % 2) 1 bit));
      left = λ j h. before.left j (omega arith);
    }
