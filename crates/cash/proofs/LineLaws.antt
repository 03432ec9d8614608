-- THE LINES OF A CASH SHEET, written one after another. Assumes nothing.
use mathlib.Core.Path.{◌≡◌, refl, sym}
use mathlib.Core.List.{List, [], ◌++◌}
use Prim.Native.Nat.{ℕ, zero, suc, ◌+◌, ◌-◌, ◌≤◌, ◌<◌}
use native.Mathlib.Omega.{arith}
use native.Mathlib.Nat.{add-zero, add-suc}
use native.Mathlib.Numerals.{add-one}
use lib.ListN.{length, get_or, length-append}
use borrow.Author.Tests.{eq-eqb, ne_eqb}
use Rattle.rules.specs.Cash.{Cash}
use Rattle.text.specs.Text.{text, field, semicolon, line_feed, HasRoom, Put}
use Rattle.text.proofs.BufferLaws.{splice-none}
use Rattle.text.proofs.TextLaws.{room-first, room-then, put_then}
use Rattle.accounts.specs.Layout.{orders_column, place_in}
use Rattle.cash.specs.CashSheet.{cash_fields, cash_line}
use Rattle.cash.specs.Lines.{cash_at, line_at, lines_up_to, text_in}

-- nothing is put
pub put-none : (l : List ℕ) (at : ℕ) → Put l at [] l at
put-none l at = record { written = splice-none l at; ends = sym (add-zero at) }

-- FOUR FIELDS
module _ (l : List ℕ) (at : ℕ) (cash : Cash) (room : HasRoom l at (cash_fields cash)) where
  room_fields : HasRoom l at (field cash.bought semicolon ++ (field cash.sold semicolon ++ (field cash.paid semicolon ++ field cash.received line_feed)))
  unfolding cash_fields
  room_fields = room

  pub room-bought : HasRoom l at (field cash.bought semicolon)
  room-bought = room-first l at _ _ room_fields

  module _ (m₁ : List ℕ) (p₁ : ℕ) (put₁ : Put l at (field cash.bought semicolon) m₁ p₁) where
    rest₁ : HasRoom m₁ p₁ (field cash.sold semicolon ++ (field cash.paid semicolon ++ field cash.received line_feed))
    rest₁ = room-then l at _ _ room_fields m₁ p₁ put₁

    pub room-sold : HasRoom m₁ p₁ (field cash.sold semicolon)
    room-sold = room-first m₁ p₁ _ _ rest₁

    module _ (m₂ : List ℕ) (p₂ : ℕ) (put₂ : Put m₁ p₁ (field cash.sold semicolon) m₂ p₂) where
      rest₂ : HasRoom m₂ p₂ (field cash.paid semicolon ++ field cash.received line_feed)
      rest₂ = room-then m₁ p₁ _ _ rest₁ m₂ p₂ put₂

      pub room-paid : HasRoom m₂ p₂ (field cash.paid semicolon)
      room-paid = room-first m₂ p₂ _ _ rest₂

      module _ (m₃ : List ℕ) (p₃ : ℕ) (put₃ : Put m₂ p₂ (field cash.paid semicolon) m₃ p₃) where
        pub room-received : HasRoom m₃ p₃ (field cash.received line_feed)
        room-received = room-then m₂ p₂ _ _ rest₂ m₃ p₃ put₃

        pub put-fields : (r : List ℕ) (q : ℕ) → Put m₃ p₃ (field cash.received line_feed) r q → Put l at (cash_fields cash) r q
        unfolding cash_fields
        put-fields r q put₄ =
            put_then l at _ _ room_fields m₁ p₁ put₁ r q (put_then m₁ p₁ _ _ rest₁ m₂ p₂ put₂ r q (put_then m₂ p₂ _ _ rest₂ m₃ p₃ put₃ r q put₄))

-- THE LINE OF A PORTFOLIO
module _ (accounts : List ℕ) (p : ℕ) where
  -- none where it has no order
  pub line-none : get_or accounts (place_in orders_column p) 0 ≡ 0 → line_at accounts p ≡ []
  unfolding line_at
  line-none e = rw (eq-eqb (get_or accounts (place_in orders_column p) 0) 0 e)

  module _ (some : get_or accounts (place_in orders_column p) 0 ≡ 0 → ⊥) where
    line-is : line_at accounts p ≡ field p semicolon ++ cash_fields (cash_at accounts p)
    unfolding line_at cash_line
    line-is = rw (ne_eqb (get_or accounts (place_in orders_column p) 0) 0 some)

    module _ (l : List ℕ) (at : ℕ) (room : HasRoom l at (line_at accounts p)) where
      room-line : HasRoom l at (field p semicolon ++ cash_fields (cash_at accounts p))
      room-line = rw line-is at room

      pub room-number : HasRoom l at (field p semicolon)
      room-number = room-first l at _ _ room-line

      module _ (m : List ℕ) (q : ℕ) (put₁ : Put l at (field p semicolon) m q) where
        pub room-cash : HasRoom m q (cash_fields (cash_at accounts p))
        room-cash = room-then l at _ _ room-line m q put₁

        pub put-line : (r : List ℕ) (e : ℕ) → Put m q (cash_fields (cash_at accounts p)) r e → Put l at (line_at accounts p) r e
        put-line r e put₂ = rw line-is (put_then l at _ _ room-line m q put₁ r e put₂)

-- LINES
module _ (accounts : List ℕ) where
  pub no_lines : lines_up_to accounts 0 ≡ []
  unfolding lines_up_to
  no_lines = refl

  lines_more : (p : ℕ) → lines_up_to accounts (p + 1) ≡ lines_up_to accounts p ++ line_at accounts (p + 1)
  unfolding lines_up_to
  lines_more p = rw add-one

  -- the lines of fewer portfolios are shorter
  lines-shorter : (n m : ℕ) → length (lines_up_to accounts n) ≤ length (lines_up_to accounts (n + m))
  unfolding lines_up_to
  lines-shorter n zero = rw add-zero (omega arith)
  lines-shorter n (suc m) =
      rw add-suc (omega (arith, lines-shorter n m, length-append (lines_up_to accounts (n + m)) (line_at accounts (suc (n + m)))))

  module _ (p : ℕ) (below : p < 255) (l : List ℕ) (at : ℕ) (room : HasRoom l at (lines_up_to accounts 255)) where
    lines-room : HasRoom l at (lines_up_to accounts p ++ line_at accounts (p + 1))
    unfolding HasRoom
    lines-room =
        let e : p + 1 + (254 - p) ≡ 255 = omega arith in
        let n = rw e at (lines-shorter (p + 1) (254 - p)) in
        rw (← (lines_more p)) (omega arith)

    module _ (m : List ℕ) (q : ℕ) (before : Put l at (lines_up_to accounts p) m q) where
      -- the next line has room, and is put
      pub line-room : HasRoom m q (line_at accounts (p + 1))
      line-room = room-then l at _ _ lines-room m q before

      pub line-put : (r : List ℕ) (e : ℕ) → Put m q (line_at accounts (p + 1)) r e → Put l at (lines_up_to accounts (p + 1)) r e
      line-put r e line = rw (lines_more p) (put_then l at _ _ lines-room m q before r e line)

-- ALL LINES: the title, the portfolios, the totals
module _ (accounts l : List ℕ) (room : HasRoom l 0 (text_in accounts)) where
  room-all : HasRoom l 0 (text "portfolio;bought;sold;paid;received\n" ++ (lines_up_to accounts 255 ++ (text "all;" ++ cash_fields (cash_at accounts 0))))
  unfolding text_in
  room-all = room

  pub room-title : HasRoom l 0 (text "portfolio;bought;sold;paid;received\n")
  room-title = room-first l 0 _ _ room-all

  module _ (m₁ : List ℕ) (p₁ : ℕ) (put₁ : Put l 0 (text "portfolio;bought;sold;paid;received\n") m₁ p₁) where
    rest_lines : HasRoom m₁ p₁ (lines_up_to accounts 255 ++ (text "all;" ++ cash_fields (cash_at accounts 0)))
    rest_lines = room-then l 0 _ _ room-all m₁ p₁ put₁

    pub room-lines : HasRoom m₁ p₁ (lines_up_to accounts 255)
    room-lines = room-first m₁ p₁ _ _ rest_lines

    module _ (m₂ : List ℕ) (p₂ : ℕ) (put₂ : Put m₁ p₁ (lines_up_to accounts 255) m₂ p₂) where
      rest-totals : HasRoom m₂ p₂ (text "all;" ++ cash_fields (cash_at accounts 0))
      rest-totals = room-then m₁ p₁ _ _ rest_lines m₂ p₂ put₂

      pub room_word : HasRoom m₂ p₂ (text "all;")
      room_word = room-first m₂ p₂ _ _ rest-totals

      module _ (m₃ : List ℕ) (p₃ : ℕ) (put₃ : Put m₂ p₂ (text "all;") m₃ p₃) where
        pub room-totals : HasRoom m₃ p₃ (cash_fields (cash_at accounts 0))
        room-totals = room-then m₂ p₂ _ _ rest-totals m₃ p₃ put₃

        pub put_all : (r : List ℕ) (q : ℕ) → Put m₃ p₃ (cash_fields (cash_at accounts 0)) r q → Put l 0 (text_in accounts) r q
        unfolding text_in
        put_all r q put₄ =
            put_then l 0 _ _ room-all m₁ p₁ put₁ r q (put_then m₁ p₁ _ _ rest_lines m₂ p₂ put₂ r q (put_then m₂ p₂ _ _ rest-totals m₃ p₃ put₃ r q put₄))
