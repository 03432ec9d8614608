-- The numbers of a result are read again from its bytes as they were written. Assumes nothing.
use mathlib.Core.Path.{◌≡◌, refl, sym, ◌∙◌}
use mathlib.Core.List.{List, [], ◌∷◌, ◌++◌, append_assoc}
use Prim.Native.Nat.{ℕ, zero, suc, ◌+◌, ◌*◌, ◌-◌, ◌/◌, ◌%◌, ◌^◌, ◌≤◌, ◌<◌}
use native.Mathlib.Omega.{arith}
use native.Mathlib.Nat.{add-zero, add_assoc}
use lib.ListN.{length, take, drop, get_or, length-append}
use lib.Seq.{get_or-append-add}
use Rattle.records.specs.Bytes.{u32_at}
use Rattle.result.specs.Result.{bytes_of, hour_rows, record_rows, welfare_in, price_in, traded_in}
use Rattle.result.proofs.ByteLaws.{length-bytes, bytes-append, four_are, four-cut}
use Rattle.result.proofs.RowLaws.{length-hours, length-first, length-records}

-- FOUR BYTES
pub four-read : (x : ℕ) (l : List ℕ) → x < 2 ^ 32 → u32_at (bytes_of 4 x ++ l) 0 ≡ x
unfolding u32_at
four-read x l small =
    let low : x / 256 * 256 + x % 256 ≡ x = omega arith in
    let middle : x / 65536 * 256 + x / 256 % 256 ≡ x / 256 = omega arith in
    let high : x / 16777216 * 256 + x / 65536 % 256 ≡ x / 65536 = omega arith in
    let top : x / 16777216 % 256 ≡ x / 16777216 = omega arith in
    rw (four_are x, top) (omega arith)

-- past the n bytes of a
past : (a b : List ℕ) (n i : ℕ) → length a ≡ n → u32_at (a ++ b) (n + i) ≡ u32_at b i
unfolding u32_at
past a b n i e =
    rw (
      ← e,
      add_assoc (length a) i 1,
      add_assoc (length a) i 2,
      add_assoc (length a) i 3,
      get_or-append-add a b i 0,
      get_or-append-add a b (i + 1) 0,
      get_or-append-add a b (i + 2) 0,
      get_or-append-add a b (i + 3) 0,
    )

-- THE WELFARE
pub welfare-read : (w : ℕ) (l : List ℕ) → w < 2 ^ 64 → welfare_in (bytes_of 8 w ++ l) ≡ w
unfolding welfare_in
welfare-read w l small =
    let high = bytes_of 4 (w / 4294967296) in
    let low = bytes_of 4 w in
    let whole : bytes_of 8 w ++ l ≡ high ++ (low ++ l) = rw (bytes-append 4 4 w, append_assoc) in
    let one : u32_at (bytes_of 8 w ++ l) 0 ≡ w / 4294967296 = rw whole (four-read (w / 4294967296) (low ++ l) (omega arith)) in
    let two : u32_at (bytes_of 8 w ++ l) 4 ≡ w % 4294967296 =
    rw whole (past high (low ++ l) 4 0 (length-bytes 4 (w / 4294967296)) ∙ rw (← (four-cut w)) (four-read (w % 4294967296) l (omega arith))) in
    rw (one, two) (omega arith)

-- THE HOURS
-- the rows before place i, its two numbers, and the rows after it
hour-split : (i : ℕ) (prices traded : List ℕ) → i < length prices → i < length traded →
    hour_rows prices traded
    ≡ hour_rows (take i prices) (take i traded)
    ++ (bytes_of 4 (get_or prices i 0) ++ (bytes_of 4 (get_or traded i 0) ++ hour_rows (drop (suc i) prices) (drop (suc i) traded)))
unfolding hour_rows
hour-split i [] traded a b = absurd (omega arith)
hour-split i (p ∷ prices) [] a b = absurd (omega arith)
hour-split zero (p ∷ prices) (t ∷ traded) a b = refl
hour-split (suc i) (p ∷ prices) (t ∷ traded) a b = rw (hour-split i prices traded (omega arith) (omega arith), append_assoc, append_assoc)

module _ (w : ℕ) (prices traded l : List ℕ) (h : ℕ) (lp : length prices ≡ 24) (lt : length traded ≡ 24) (first : 1 ≤ h) (last : h ≤ 24) where
  abbrev price : ℕ
  price = get_or prices (h - 1) 0

  abbrev quantity : ℕ
  quantity = get_or traded (h - 1) 0

  abbrev before : List ℕ
  before = bytes_of 8 w ++ hour_rows (take (h - 1) prices) (take (h - 1) traded)

  abbrev after : List ℕ
  after = hour_rows (drop (suc (h - 1)) prices) (drop (suc (h - 1)) traded) ++ l

  length_before : length before ≡ 8 * h
  length_before =
      rw (length-append, length-bytes) (omega (arith, length-first (h - 1) prices traded (omega arith) (omega arith)))

  whole_is : bytes_of 8 w ++ (hour_rows prices traded ++ l) ≡ before ++ (bytes_of 4 price ++ (bytes_of 4 quantity ++ after))
  whole_is = rw (hour-split (h - 1) prices traded (omega arith) (omega arith)) (simp append_assoc)

  pub price-read : get_or prices (h - 1) 0 < 2 ^ 32 → price_in (bytes_of 8 w ++ (hour_rows prices traded ++ l)) h ≡ get_or prices (h - 1) 0
  unfolding price_in
  price-read small =
      rw (whole_is, ← (add-zero (8 * h))) (past before _ (8 * h) 0 length_before ∙ four-read price (bytes_of 4 quantity ++ after) small)

  pub traded-read : get_or traded (h - 1) 0 < 2 ^ 32 → traded_in (bytes_of 8 w ++ (hour_rows prices traded ++ l)) h ≡ get_or traded (h - 1) 0
  unfolding traded_in
  traded-read small =
      rw whole_is
      (past before _ (8 * h) 4 length_before ∙ past (bytes_of 4 price) (bytes_of 4 quantity ++ after) 4 0 (length-bytes 4 price) ∙ four-read quantity after small)

-- THE RECORDS
record-read : (row : ℕ → ℕ) (n k i : ℕ) → i < n → row (k + i) < 2 ^ 32 → u32_at (record_rows row n k) (4 * i) ≡ row (k + i)
unfolding record_rows
record-read row zero k i a small = absurd (omega arith)
record-read row (suc n) k zero a small = rw add-zero (four-read (row k) _ (rw add-zero at small))
record-read row (suc n) k (suc i) a small =
    let next : 4 * suc i ≡ 4 + 4 * i = omega arith in
    let here : suc k + i ≡ k + suc i = omega arith in
    rw (next, ← here) (past (bytes_of 4 (row k)) (record_rows row n (suc k)) 4 (4 * i) (length-bytes 4 (row k))
    ∙ record-read row n (suc k) i (omega arith) (rw here small))

-- record k's row stands from byte 196 + 4 * k on
pub row_read_lem : (w : ℕ) (prices traded : List ℕ) (row : ℕ → ℕ) (n k : ℕ) → length prices ≡ 24 → length traded ≡ 24 → 1 ≤ k → k ≤ n → row k < 2 ^ 32 →
    u32_at (bytes_of 8 w ++ (hour_rows prices traded ++ record_rows row n 1)) (196 + 4 * k) ≡ row k
row_read_lem w prices traded row n k lp lt first last small =
    let head = bytes_of 8 w in
    let hours = hour_rows prices traded in
    let records = record_rows row n 1 in
    let n8 = length-bytes 8 w in
    let nh = length-hours prices traded (lp ∙ sym lt) in
    let front : length (head ++ hours) ≡ 200 = rw length-append (omega arith) in
    let place : 196 + 4 * k ≡ 200 + 4 * (k - 1) = omega arith in
    let here : 1 + (k - 1) ≡ k = omega arith in
    let read : u32_at records (4 * (k - 1)) ≡ row k = rw here at (record-read row n 1 (k - 1) (omega arith) (rw here small)) in
    rw (← (append_assoc head hours records), place) (past (head ++ hours) records 200 (4 * (k - 1)) front ∙ read)

-- THE SIZE
pub length-result : (w : ℕ) (prices traded : List ℕ) (row : ℕ → ℕ) (n : ℕ) → length prices ≡ 24 → length traded ≡ 24 →
    length (bytes_of 8 w ++ (hour_rows prices traded ++ record_rows row n 1)) ≡ 200 + 4 * n
length-result w prices traded row n lp lt =
    rw (length-append, length-append, length-bytes, length-hours prices traded (lp ∙ sym lt), length-records) (omega arith)
