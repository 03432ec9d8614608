-- THE CASH SHEET OUT OF THE ACCOUNTS IS THE CASH SHEET OF THE RULES, and no more than 22,564 bytes are written. Assumes nothing.
use mathlib.Core.Path.{◌≡◌, refl, sym, ap, ◌∙◌}
use mathlib.Core.Bool.{cond}
use mathlib.Core.List.{List, [], ◌∷◌, ◌++◌, append_assoc, append-nil}
use Prim.Native.Nat.{ℕ, zero, suc, ◌+◌, ◌*◌, ◌≤◌, ◌<◌}
use native.Mathlib.Omega.{arith}
use lib.Dec.{eqb}
use lib.ListN.{length, take, length-append}
use lib.Seq.{length-take-le}
use borrow.Author.Tests.{eq-eqb, ne_eqb}
use Rattle.rules.specs.Orders.{Orders}
use Rattle.rules.specs.Day.{day_of}
use Rattle.rules.specs.Cash.{Executed, Cash, CashLine, cash_of, owned_by, line_of, lines_to, executed_orders, published_price, cash_sheet}
use Rattle.rules.proofs.Tests.{by-eq}
use Rattle.records.specs.Records.{record_count}
use Rattle.book.specs.Refusals.{refusal, Accepted}
use Rattle.book.proofs.Accepted.{accepted, accepted-zero, record-count}
use Rattle.orders.specs.Bridge.{orders_of}
use Rattle.result.specs.Result.{result_bytes}
use Rattle.std.specs.Prelude.{Err}
use Rattle.book.specs.Numbers.{refusal_number}
use Rattle.book.specs.Answers.{reading}
use Rattle.book.specs.declared.refusal.Refusal.{Refusal}
use Rattle.book.proofs.Refused.{answer-refused}
use Rattle.text.specs.Text.{text, decimal, field, semicolon, line_feed, HasRoom, Put}
use Rattle.text.proofs.TextLaws.{few-digits, any-digits}
use Rattle.sheet.specs.Sheet.{refused_line}
use Rattle.sheet.proofs.SheetLaws.{refused-short}
use Rattle.accounts.specs.Accounts.{among, AccountsOf}
use Rattle.accounts.proofs.AccountLaws.{orders-are, cash-are}
use Rattle.cash.specs.CashSheet.{cash_fields, cash_line, cash_lines, cash_text, cash_sheet_of}
use Rattle.cash.specs.Lines.{cash_at, line_at, lines_up_to, text_in}

-- LINES OF LISTS, one after the other
lines-append : (k l : List CashLine) → cash_lines (k ++ l) ≡ cash_lines k ++ cash_lines l
unfolding cash_lines
lines-append [] l = refl
lines-append (line ∷ k) l = rw (lines-append k l, append_assoc)

-- HOW LONG A CASH SHEET IS: no number has more than 20 digits, a portfolio's no more than 3
field-short : (n end : ℕ) → length (field n end) ≤ 21
unfolding field
field-short n end = omega (arith, length-append (decimal n) (end ∷ []), any-digits n)

fields-short : (cash : Cash) → length (cash_fields cash) ≤ 84
unfolding cash_fields
fields-short cash =
    rw (length-append, length-append, length-append)
    (omega (
      arith,
      field-short cash.bought semicolon,
      field-short cash.sold semicolon,
      field-short cash.paid semicolon,
      field-short cash.received line_feed,
    ))

line-short : (line : CashLine) → line.portfolio < 1000 → length (cash_line line) ≤ 88
unfolding cash_line field
line-short line small =
    omega (
      arith,
      length-append (field line.portfolio semicolon) (cash_fields line.cash),
      length-append (decimal line.portfolio) (semicolon ∷ []),
      few-digits 2 line.portfolio small,
      fields-short line.cash,
    )

module _ (hours : ℕ) (price : ℕ → ℕ) where
  portfolio-short : (p : ℕ) (own : List Executed) → p < 1000 → length (cash_lines (line_of hours price p own)) ≤ 88
  unfolding line_of cash_lines
  portfolio-short p [] small = omega arith
  portfolio-short p (o ∷ own) small =
      let line : CashLine = record { portfolio = p; cash = cash_of hours price (o ∷ own) } in rw append-nil (line-short line small)

  lines-short : (n : ℕ) (l : List Executed) → n < 1000 → length (cash_lines (lines_to n hours price l)) ≤ 88 * n
  unfolding lines_to cash_lines
  lines-short zero l small = omega arith
  lines-short (suc n) l small =
      let own = line_of hours price (suc n) (owned_by (suc n) l) in
      rw (lines-append (lines_to n hours price l) own)
      (omega (
        arith,
        length-append (cash_lines (lines_to n hours price l)) (cash_lines own),
        lines-short n l (omega arith),
        portfolio-short (suc n) (owned_by (suc n) l) small,
      ))

text-short : (orders : Orders) → length (cash_text (cash_sheet orders)) ≤ 22564
unfolding cash_text cash_sheet text
text-short orders =
    let title : length (text "portfolio;bought;sold;paid;received\n") ≡ 36 = refl in
    let word : length (text "all;") ≡ 4 = refl in
    let hours = (day_of orders).hours in
    let price = published_price orders in
    rw (length-append, length-append, length-append)
    (omega (
      arith,
      title,
      word,
      lines-short hours price 255 (executed_orders orders) (omega arith),
      fields-short (cash_of hours price (executed_orders orders)),
    ))

pub cash-sheet-short : (b : List ℕ) → length (cash_sheet_of b) ≤ 22564
unfolding cash_sheet_of
cash-sheet-short b =
    by-eq (λ t. length (cond t (cash_text (cash_sheet (orders_of b))) (refused_line (refusal b))) ≤ 22564) (refusal b) 0 (λ e. text-short (orders_of b))
    (λ e. omega (arith, refused-short (refusal b)))

pub put-short : (b out after : List ℕ) (end : ℕ) → Put out 0 (cash_sheet_of b) after end → end ≤ 22564
put-short b out after end put = omega (arith, put.ends, cash-sheet-short b)

-- THE LINES ARE THE RULES'
-- a portfolio with an order has its line, whatever its orders got; one without has none
module _ (hours : ℕ) (price : ℕ → ℕ) where
  line-of : (p count : ℕ) (cash : Cash) (own : List Executed) → count ≡ length own → cash ≡ cash_of hours price own →
      cond (eqb count 0) [] (cash_line (record { portfolio = p; cash = cash })) ≡ cash_lines (line_of hours price p own)
  unfolding line_of cash_lines
  line-of p count cash [] n c = rw (eq-eqb count 0 n)
  line-of p count cash (o ∷ own) n c = rw (ne_eqb count 0 (λ e. omega arith), c) (sym (append-nil _))

module _ (b : List ℕ) (a : Accepted b) (accounts : List ℕ) (are : AccountsOf b (result_bytes b) accounts) where
  abbrev hours : ℕ
  hours = (day_of (orders_of b)).hours

  abbrev price : ℕ → ℕ
  price = published_price (orders_of b)

  abbrev orders : List Executed
  orders = executed_orders (orders_of b)

  cash-is : (p : ℕ) → p < 256 → cash_at accounts p ≡ cash_of hours price (among p orders)
  unfolding cash_at
  cash-is p small = rw (are.bought_at p small, are.sold_at p small, are.paid_at p small, are.received_at p small) (cash-are b a p)

  line-is : (p : ℕ) → suc p < 256 → line_at accounts (suc p) ≡ cash_lines (line_of hours price (suc p) (owned_by (suc p) orders))
  unfolding line_at among
  line-is p small =
      line-of hours price (suc p) _ _ (owned_by (suc p) orders) (are.orders_at (suc p) small ∙ rw (orders-are b a)) (cash-is (suc p) small)

  lines_are : (n : ℕ) → n < 256 → lines_up_to accounts n ≡ cash_lines (lines_to n hours price orders)
  unfolding lines_up_to lines_to cash_lines
  lines_are zero small = refl
  lines_are (suc n) small =
      rw (lines_are n (omega arith), line-is n small) (sym (lines-append (lines_to n hours price orders) (line_of hours price (suc n) (owned_by (suc n) orders))))

  text-is : text_in accounts ≡ cash_text (cash_sheet (orders_of b))
  unfolding text_in cash_text cash_sheet among
  text-is = rw (lines_are 255 (omega arith), cash-is 0 (omega arith))

  -- what is written of an accepted book
  pub text-accepted : text_in accounts ≡ cash_sheet_of b
  unfolding cash_sheet_of
  text-accepted = rw (eq-eqb (refusal b) 0 (accepted-zero b a)) text-is

  pub room-text : (out : List ℕ) → 22564 ≤ length out → HasRoom out 0 (text_in accounts)
  unfolding HasRoom
  room-text out large = rw text-accepted (omega (arith, cash-sheet-short b))

  pub text-put : (out after : List ℕ) (end : ℕ) → Put out 0 (text_in accounts) after end → Put out 0 (cash_sheet_of b) after end
  text-put out after end put = rw text-accepted at put

-- of a refused book
pub text-refused : (b : List ℕ) (n : ℕ) → refusal b ≡ n → (n ≡ 0 → ⊥) → refused_line n ≡ cash_sheet_of b
unfolding cash_sheet_of
text-refused b n e f = rw (e, ne_eqb n 0 f)

pub refused-has-room : (n : ℕ) (out : List ℕ) → 22564 ≤ length out → HasRoom out 0 (refused_line n)
unfolding HasRoom
refused-has-room n out large = omega (arith, refused-short n)

-- the line of the book's own refusal
pub refusal-put : (b : List ℕ) (why : Refusal) → reading b ≡ Err why → (out r : List ℕ) (q : ℕ) → Put out 0 (refused_line (refusal_number why)) r q
    → Put out 0 (cash_sheet_of b) r q
refusal-put b why e out r q put = let refused = answer-refused b why e in rw (text-refused b _ refused.1 (λ z. refused.0 (refused.1 ∙ z))) at put
