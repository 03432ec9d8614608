-- A SHEET OUT OF THE RESULT'S BYTES IS THE SHEET, and no sheet has more than 781 bytes. Assumes nothing.
use mathlib.Core.Path.{◌≡◌, refl, sym, ◌∙◌}
use mathlib.Core.Bool.{Bool, true, false, cond}
use mathlib.Core.List.{List, [], ◌∷◌, ◌++◌, map}
use Prim.Native.Nat.{ℕ, zero, suc, ◌+◌, ◌*◌, ◌^◌, ◌≤◌, ◌<◌}
use native.Mathlib.Omega.{arith}
use lib.ListN.{length, take, drop, length-append}
use lib.Seq.{length-take-le, take_at}
use borrow.Author.Tests.{eq-eqb, ne_eqb}
use Rattle.records.specs.Bytes.{byte_at, u16_at}
use Rattle.records.specs.Records.{record_count, number, block_at}
use Rattle.chains.specs.Chains.{block_order}
use Rattle.book.specs.Refusals.{refusal, Accepted}
use Rattle.std.specs.Prelude.{Err}
use Rattle.book.specs.Numbers.{refusal_number}
use Rattle.book.specs.Answers.{reading}
use Rattle.book.specs.declared.refusal.Refusal.{Refusal}
use Rattle.book.proofs.Refused.{answer-refused}
use Rattle.book.proofs.Accepted.{accepted, accepted-zero}
use Rattle.rules.specs.Day.{is_counted, set_prices, traded}
use Rattle.rules.proofs.CurveLaws.{when-le}
use Rattle.rules.specs.Outcome.{published, outcome}
use Rattle.rules.proofs.BoundsLaws.{price-small, welfare-small, traded-small}
use Rattle.rules.proofs.Tests.{by-eq}
use Rattle.orders.specs.Bridge.{block_from, block_on, orders_of, day_from}
use Rattle.orders.specs.Columns.{block_records}
use Rattle.orders.proofs.BridgeLaws.{day-blocks, prices-in-range}
use Rattle.orders.proofs.RecordLaws.{blocks-all, block-records-fit}
use Rattle.result.specs.Result.{result_bytes, welfare_in, price_in, traded_in, taken_in}
use Rattle.result.proofs.PromiseLaws.{hour-at, result_says, result-welfare, taken_is}
use Rattle.result.proofs.RowsLaws.{published_blocks, chosen_is}
use Rattle.result.proofs.SizeLaws.{small-day}
use Rattle.text.specs.Text.{text, decimal_in, decimal, field, line_feed, HasRoom, Put}
use Rattle.sheet.specs.Sheet.{hour_line, hour_lines, of_hour, block_line, block_lines, outcome_sheet, refused_line, sheet_of}
use Rattle.sheet.specs.Lines.{taken_at, block_lines_in, lines_in}
use Rattle.text.proofs.TextLaws.{few-digits, any-digits}

-- THE SAME LINES
-- of hours with the same numbers
hours-same : (n : ℕ) (price price' traded traded' : ℕ → ℕ) → ((h : ℕ) → 1 ≤ h → h ≤ n → price h ≡ price' h) →
    ((h : ℕ) → 1 ≤ h → h ≤ n → traded h ≡ traded' h) → hour_lines n price traded ≡ hour_lines n price' traded'
unfolding hour_lines
hours-same zero price price' traded traded' p t = refl
hours-same (suc n) price price' traded traded' p t =
    rw (
      p (suc n) (omega arith) (omega arith),
      t (suc n) (omega arith) (omega arith),
      hours-same n price price' traded traded' (λ h f l. p h f (omega arith)) (λ h f l. t h f (omega arith)),
    )

-- of blocks, by their records
blocks-same : (b result l : List ℕ) → block_lines_in b result l ≡ block_lines (map (block_on b) l) (map (taken_at b result) l)
unfolding block_lines_in block_lines block_from block_at
blocks-same b result [] = refl
blocks-same b result (k ∷ l) = rw (blocks-same b result l)

module _ (b : List ℕ) (a : Accepted b) where
  abbrev result : List ℕ
  result = result_bytes b

  prices-same : (h : ℕ) → 1 ≤ h → h ≤ 24 → price_in result h ≡ of_hour (published (orders_of b)).prices h
  unfolding of_hour published day_from
  prices-same h first last = (result_says b a).price_read h first last ∙ sym (hour-at 24 _ h first last)

  traded-same : (h : ℕ) → 1 ≤ h → h ≤ 24 → traded_in result h ≡ of_hour (published (orders_of b)).traded h
  unfolding of_hour published day_from
  traded-same h first last = (result_says b a).traded_read h first last ∙ sym (hour-at 24 _ h first last)

  taken-same : map (taken_at b result) (block_order b) ≡ (published (orders_of b)).chosen
  unfolding taken_at taken_in
  taken-same = taken_is b result a (result_says b a) ∙ sym (chosen_is b)

  lines_are : lines_in b result ≡ outcome_sheet (day_from b).blocks (published (orders_of b))
  unfolding lines_in outcome_sheet
  lines_are =
      rw (
        hours-same 24 (price_in result) (of_hour (published (orders_of b)).prices) (traded_in result) (of_hour (published (orders_of b)).traded) prices-same
            traded-same,
        blocks-all b a,
        blocks-same b result (block_order b),
        taken-same,
        ← (day-blocks b),
        (result_says b a).welfare_read,
      )

  -- the sheet of an accepted book
  pub sheet-accepted : lines_in b (result_bytes b) ≡ sheet_of b
  unfolding sheet_of
  sheet-accepted = rw (eq-eqb (refusal b) 0 (accepted-zero b a)) lines_are

-- the line of a refused book
pub sheet-refused : (b : List ℕ) (n : ℕ) → refusal b ≡ n → (n ≡ 0 → ⊥) → refused_line n ≡ sheet_of b
unfolding sheet_of
sheet-refused b n e f = rw (e, ne_eqb n 0 f)

-- HOW LONG A SHEET IS
field-length : (n end : ℕ) → length (field n end) ≡ length (decimal n) + 1
unfolding field
field-length n end = length-append (decimal n) (end ∷ [])

hour-length : (h price traded : ℕ) →
    length (hour_line h price traded) ≡ length (decimal h) + length (decimal price) + length (decimal traded) + 3
unfolding hour_line
hour-length h price traded = rw (length-append, length-append, field-length, field-length, field-length) (omega arith)

-- at most: a price has 6 digits, a traded quantity 9
most : ℕ → ℕ
most zero = 0
most (suc n) = most n + (length (decimal (suc n)) + 18)

hours-short : (price traded : ℕ → ℕ) (n : ℕ) → ((h : ℕ) → 1 ≤ h → h ≤ n → (price h < 10 ^ 6) × (traded h < 10 ^ 9)) →
    length (hour_lines n price traded) ≤ most n
unfolding hour_lines most
hours-short price traded zero small = omega arith
hours-short price traded (suc n) small =
    let s = small (suc n) (omega arith) (omega arith) in
    omega (
      arith,
      length-append (hour_lines n price traded) (hour_line (suc n) (price (suc n)) (traded (suc n))),
      hour-length (suc n) (price (suc n)) (traded (suc n)),
      few-digits 5 (price (suc n)) s.0,
      few-digits 8 (traded (suc n)) s.1,
      hours-short price traded n (λ h first last. small h first (omega arith)),
    )

most-24 : most 24 ≡ 471
unfolding most decimal decimal_in
most-24 = refl

pub refused-short : (n : ℕ) → length (refused_line n) ≤ 29
unfolding refused_line text
refused-short n = omega (arith, field-length n line_feed, any-digits n)

pub refused-room : (n : ℕ) (out : List ℕ) → length out ≡ 781 → HasRoom out 0 (refused_line n)
unfolding HasRoom
refused-room n out whole = omega (arith, refused-short n)

-- a block's number has 5 digits, its flag one
flag-length : (taken : Bool) → length (decimal (cond taken 1 0)) ≤ 1
flag-length true = few-digits 0 1 (omega arith)
flag-length false = few-digits 0 0 (omega arith)

module _ (b : List ℕ) (bytes : (i : ℕ) → byte_at b i < 256) where
  number_small : (k : ℕ) → number b k < 10 ^ 5
  unfolding u16_at
  number_small k = omega (arith, bytes (16 * k + 4), bytes (16 * k + 4 + 1))

  block-short : (k : ℕ) (taken : Bool) → length (block_line (number b k) taken) ≤ 8
  unfolding block_line
  block-short k taken =
      rw (length-append, field-length, field-length) (omega (arith, few-digits 4 (number b k) (number_small k), flag-length taken))

  blocks-short : (result l : List ℕ) → length (block_lines_in b result l) ≤ 8 * length l
  unfolding block_lines_in
  blocks-short result [] = omega arith
  blocks-short result (k ∷ l) =
      omega (
        arith,
        length-append (block_line (number b k) (taken_at b result k)) (block_lines_in b result l),
        block-short k (taken_at b result k),
        blocks-short result l,
      )

  module _ (a : Accepted b) where
    hour-small : (h : ℕ) → 1 ≤ h → h ≤ 24 → (price_in (result_bytes b) h < 10 ^ 6) × (traded_in (result_bytes b) h < 10 ^ 9)
    hour-small h first last =
        let p = price-small (day_from b) (prices-in-range b a) (published_blocks b) h in
        let t = traded-small (day_from b) (small-day b a) (outcome (day_from b)) h in
        let q = when-le (is_counted (day_from b).hours h) (set_prices (day_from b) (published_blocks b) h) in
        let u = when-le (is_counted (day_from b).hours h) (traded (day_from b) (published_blocks b) h) in
        (rw ((result_says b a).price_read h first last) (omega arith), rw ((result_says b a).traded_read h first last) (omega (arith, t, u)))

    welfare-digits : length (decimal (welfare_in (result_bytes b))) ≤ 15
    welfare-digits =
        rw (result-welfare b a) (few-digits 14 _ (omega (arith, welfare-small (day_from b) (small-day b a) (outcome (day_from b)))))

    lines-short : length (lines_in b (result_bytes b)) ≤ 781
    unfolding lines_in text
    lines-short =
        let hours = hours-short (price_in (result_bytes b)) (traded_in (result_bytes b)) 24 hour-small in
        let heading : length (text "hour;cents;tenths\n") ≡ 18 = refl in
        let title : length (text "block;taken\n") ≡ 12 = refl in
        let word : length (text "welfare;") ≡ 8 = refl in
        rw (length-append, length-append, length-append, length-append, length-append, field-length)
        (omega (arith, heading, title, word, most-24, hours, blocks-short (result_bytes b) (block_records b), block-records-fit b, welfare-digits))

  -- NO SHEET HAS MORE THAN 781 BYTES
  pub sheet-short : length (sheet_of b) ≤ 781
  unfolding sheet_of
  sheet-short =
      by-eq (λ t. length (cond t (outcome_sheet (day_from b).blocks (published (orders_of b))) (refused_line (refusal b))) ≤ 781) (refusal b) 0
      (λ e. let a = accepted b e in rw (← (lines_are b a)) (lines-short a))
      (λ e. omega (arith, refused-short (refusal b)))

  pub put-short : (out after : List ℕ) (end : ℕ) → Put out 0 (sheet_of b) after end → end ≤ 781
  put-short out after end put = omega (arith, put.ends, sheet-short)

-- THE LINES of a result
module _ (b result : List ℕ) (a : Accepted b) (is : result ≡ result_bytes b) where
  lines-are : lines_in b result ≡ sheet_of b
  lines-are = rw is (sheet-accepted b a)

  -- they have room in 781 bytes, and are the sheet
  pub lines-room : ((i : ℕ) → byte_at b i < 256) → (out : List ℕ) → 781 ≤ length out → HasRoom out 0 (lines_in b result)
  unfolding HasRoom
  lines-room bytes out room = rw lines-are (omega (arith, sheet-short b bytes))

  pub lines-put : (out r : List ℕ) (q : ℕ) → Put out 0 (lines_in b result) r q → Put out 0 (sheet_of b) r q
  lines-put out r q put = rw lines-are at put

-- THE LINE of a refusal, for the book's own
pub refusal-put : (b : List ℕ) (why : Refusal) → reading b ≡ Err why → (out r : List ℕ) (q : ℕ) → Put out 0 (refused_line (refusal_number why)) r q
    → Put out 0 (sheet_of b) r q
refusal-put b why e out r q put = let refused = answer-refused b why e in rw (sheet-refused b _ refused.1 (λ z. refused.0 (refused.1 ∙ z))) at put
