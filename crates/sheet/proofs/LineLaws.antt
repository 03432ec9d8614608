-- The lines of hours and of blocks, written one after another. Assumes nothing.
use mir.Val.{bool_byte}
use mathlib.Core.Path.{◌≡◌, refl, sym, ap, ◌∙◌}
use mathlib.Core.Bool.{Bool, true, false, cond}
use mathlib.Core.List.{List, [], ◌∷◌, ◌++◌, append_assoc, append-nil}
use Prim.Native.Nat.{ℕ, zero, suc, ◌+◌, ◌-◌, ◌≤◌, ◌<◌}
use native.Mathlib.Omega.{arith}
use native.Mathlib.Nat.{add-zero, add-suc}
use native.Mathlib.Numerals.{add-one}
use lib.ListN.{length, take, drop, get_or, length-append, take-append-drop}
use lib.Seq.{take-suc, get_or-take}
use Rattle.records.specs.Records.{number}
use Rattle.text.proofs.BufferLaws.{splice-none}
use Rattle.orders.specs.Columns.{block_records}
use Rattle.result.specs.Result.{welfare_in, price_in, traded_in}
use Rattle.text.specs.Text.{text, field, semicolon, line_feed, HasRoom, Put}
use Rattle.sheet.specs.Sheet.{hour_line, hour_lines, block_line}
use Rattle.sheet.specs.Lines.{taken_at, block_lines_in, lines_in}
use Rattle.text.proofs.TextLaws.{room-is, room-first, room-then, put_then}

-- nothing is put
pub put-none : (l : List ℕ) (at : ℕ) → Put l at [] l at
put-none l at = record { written = splice-none l at; ends = sym (add-zero at) }

-- A LINE OF AN HOUR: three fields
module _ (l : List ℕ) (at h price traded : ℕ) (room : HasRoom l at (hour_line h price traded)) where
  room-line : HasRoom l at (field h semicolon ++ (field price semicolon ++ field traded line_feed))
  unfolding hour_line
  room-line = room

  pub room-hour : HasRoom l at (field h semicolon)
  room-hour = room-first l at _ _ room-line

  module _ (m₁ : List ℕ) (p₁ : ℕ) (put₁ : Put l at (field h semicolon) m₁ p₁) where
    rest : HasRoom m₁ p₁ (field price semicolon ++ field traded line_feed)
    rest = room-then l at _ _ room-line m₁ p₁ put₁

    pub room-price : HasRoom m₁ p₁ (field price semicolon)
    room-price = room-first m₁ p₁ _ _ rest

    module _ (m₂ : List ℕ) (p₂ : ℕ) (put₂ : Put m₁ p₁ (field price semicolon) m₂ p₂) where
      pub room-traded : HasRoom m₂ p₂ (field traded line_feed)
      room-traded = room-then m₁ p₁ _ _ rest m₂ p₂ put₂

      pub put-hour-line : (r : List ℕ) (q : ℕ) → Put m₂ p₂ (field traded line_feed) r q → Put l at (hour_line h price traded) r q
      unfolding hour_line
      put-hour-line r q put₃ = put_then l at _ _ room-line m₁ p₁ put₁ r q (put_then m₁ p₁ _ _ rest m₂ p₂ put₂ r q put₃)

-- A test as a number
pub flag-is : (taken : Bool) → bool_byte taken ≡ cond taken 1 0
flag-is true = refl
flag-is false = refl

-- A LINE OF A BLOCK: two fields
module _ (l : List ℕ) (at number : ℕ) (taken : Bool) (room : HasRoom l at (block_line number taken)) where
  room-both : HasRoom l at (field number semicolon ++ field (cond taken 1 0) line_feed)
  unfolding block_line
  room-both = room

  pub room-number : HasRoom l at (field number semicolon)
  room-number = room-first l at _ _ room-both

  module _ (m : List ℕ) (p : ℕ) (put₁ : Put l at (field number semicolon) m p) (flag : ℕ) (is : flag ≡ cond taken 1 0) where
    pub room-flag : HasRoom m p (field flag line_feed)
    room-flag = rw is (room-then l at _ _ room-both m p put₁)

    pub put-block-line : (r : List ℕ) (q : ℕ) → Put m p (field flag line_feed) r q → Put l at (block_line number taken) r q
    unfolding block_line
    put-block-line r q put₂ = put_then l at _ _ room-both m p put₁ r q (rw is at put₂)

-- HOURS
module _ (price traded : ℕ → ℕ) where
  pub no-hours : hour_lines 0 price traded ≡ []
  unfolding hour_lines
  no-hours = refl

  hour-more : (h : ℕ) → hour_lines (h + 1) price traded ≡ hour_lines h price traded ++ hour_line (h + 1) (price (h + 1)) (traded (h + 1))
  unfolding hour_lines
  hour-more h = rw add-one

  -- the lines of fewer hours are shorter
  hours-shorter : (n m : ℕ) → length (hour_lines n price traded) ≤ length (hour_lines (n + m) price traded)
  unfolding hour_lines
  hours-shorter n zero = rw add-zero (omega arith)
  hours-shorter n (suc m) =
      let last = hour_line (suc (n + m)) (price (suc (n + m))) (traded (suc (n + m))) in
      rw add-suc (omega (arith, hours-shorter n m, length-append (hour_lines (n + m) price traded) last))

  module _ (l : List ℕ) (at h : ℕ) (below : h < 24) (room : HasRoom l at (hour_lines 24 price traded)) where
    hours-room : HasRoom l at (hour_lines h price traded ++ hour_line (h + 1) (price (h + 1)) (traded (h + 1)))
    unfolding HasRoom
    hours-room =
        let e : h + 1 + (23 - h) ≡ 24 = omega arith in
        let n = rw e at (hours-shorter (h + 1) (23 - h)) in
        rw (← (hour-more h)) (omega arith)

    module _ (m : List ℕ) (p : ℕ) (before : Put l at (hour_lines h price traded) m p) where
      -- the next line has room
      pub hour-room : HasRoom m p (hour_line (h + 1) (price (h + 1)) (traded (h + 1)))
      hour-room = room-then l at _ _ hours-room m p before

      -- and is put
      pub hour-put : (r : List ℕ) (q : ℕ) → Put m p (hour_line (h + 1) (price (h + 1)) (traded (h + 1))) r q →
          Put l at (hour_lines (h + 1) price traded) r q
      hour-put r q line = rw (hour-more h) (put_then l at _ _ hours-room m p before r q line)

-- BLOCKS
module _ (b result : List ℕ) where
  pub no_blocks : block_lines_in b result [] ≡ []
  unfolding block_lines_in
  no_blocks = refl

  blocks-append : (k l : List ℕ) → block_lines_in b result (k ++ l) ≡ block_lines_in b result k ++ block_lines_in b result l
  unfolding block_lines_in
  blocks-append [] l = refl
  blocks-append (x ∷ k) l = rw (blocks-append k l, append_assoc)

  blocks-one : (k : ℕ) → block_lines_in b result (k ∷ []) ≡ block_line (number b k) (taken_at b result k)
  unfolding block_lines_in
  blocks-one k = append-nil _

  -- the record in place i of a column whose front the records are
  module _ (records column : List ℕ) (count i : ℕ) (front : take count column ≡ records) (counted : count ≡ length records) (below : i < count) where
    abbrev k : ℕ
    k = get_or column i 0

    abbrev line : List ℕ
    line = block_line (number b k) (taken_at b result k)

    record_is : get_or records i 0 ≡ k
    record_is = rw (← front) (get_or-take count column i 0 below)

    block_more : block_lines_in b result (take (i + 1) records) ≡ block_lines_in b result (take i records) ++ line
    block_more =
        ap (block_lines_in b result) (rw (add-one, ← record_is) (take-suc records i 0 (omega arith)))
        ∙ blocks-append (take i records) (k ∷ []) ∙ rw (blocks-one k)

    module _ (l : List ℕ) (at : ℕ) (room : HasRoom l at (block_lines_in b result records)) where
      blocks-room : HasRoom l at (block_lines_in b result (take i records) ++ line)
      unfolding HasRoom
      blocks-room =
          let n = blocks-append (take (i + 1) records) (drop (i + 1) records) in
          let whole = ap (block_lines_in b result) (take-append-drop (i + 1) records) in
          rw (← block_more)
          (omega (
            arith,
            ap length (sym whole ∙ n),
            length-append (block_lines_in b result (take (i + 1) records)) (block_lines_in b result (drop (i + 1) records)),
            room-is l at (block_lines_in b result records) room,
          ))

      module _ (m : List ℕ) (p : ℕ) (before : Put l at (block_lines_in b result (take i records)) m p) where
        pub block_room : HasRoom m p (block_line (number b (get_or column i 0)) (taken_at b result (get_or column i 0)))
        block_room = room-then l at _ _ blocks-room m p before

        pub block-put : (r : List ℕ) (q : ℕ) → Put m p (block_line (number b (get_or column i 0)) (taken_at b result (get_or column i 0))) r q →
            Put l at (block_lines_in b result (take (i + 1) records)) r q
        block-put r q one = rw block_more (put_then l at _ _ blocks-room m p before r q one)

-- ALL LINES: each part has room behind those before it, and the five together are put
module _ (b result l : List ℕ) (room : HasRoom l 0 (lines_in b result)) where
  abbrev heading : List ℕ
  heading = text "hour;cents;tenths\n"

  abbrev hours : List ℕ
  hours = hour_lines 24 (price_in result) (traded_in result)

  abbrev title : List ℕ
  title = text "block;taken\n"

  abbrev blocks : List ℕ
  blocks = block_lines_in b result (block_records b)

  abbrev welfare : List ℕ
  welfare = text "welfare;" ++ field (welfare_in result) line_feed

  room-all : HasRoom l 0 (heading ++ (hours ++ (title ++ (blocks ++ welfare))))
  unfolding lines_in
  room-all = room

  pub room-heading : HasRoom l 0 (text "hour;cents;tenths\n")
  room-heading = room-first l 0 heading _ room-all

  module _ (m₁ : List ℕ) (p₁ : ℕ) (put₁ : Put l 0 (text "hour;cents;tenths\n") m₁ p₁) where
    rest₁ : HasRoom m₁ p₁ (hours ++ (title ++ (blocks ++ welfare)))
    rest₁ = room-then l 0 heading _ room-all m₁ p₁ put₁

    pub room-hours : HasRoom m₁ p₁ (hour_lines 24 (price_in result) (traded_in result))
    room-hours = room-first m₁ p₁ hours _ rest₁

    module _ (m₂ : List ℕ) (p₂ : ℕ) (put₂ : Put m₁ p₁ (hour_lines 24 (price_in result) (traded_in result)) m₂ p₂) where
      rest₂ : HasRoom m₂ p₂ (title ++ (blocks ++ welfare))
      rest₂ = room-then m₁ p₁ hours _ rest₁ m₂ p₂ put₂

      pub room-title : HasRoom m₂ p₂ (text "block;taken\n")
      room-title = room-first m₂ p₂ title _ rest₂

      module _ (m₃ : List ℕ) (p₃ : ℕ) (put₃ : Put m₂ p₂ (text "block;taken\n") m₃ p₃) where
        rest₃ : HasRoom m₃ p₃ (blocks ++ welfare)
        rest₃ = room-then m₂ p₂ title _ rest₂ m₃ p₃ put₃

        pub room-blocks : HasRoom m₃ p₃ (block_lines_in b result (block_records b))
        room-blocks = room-first m₃ p₃ blocks _ rest₃

        module _ (m₄ : List ℕ) (p₄ : ℕ) (put₄ : Put m₃ p₃ (block_lines_in b result (block_records b)) m₄ p₄) where
          pub room-welfare : HasRoom m₄ p₄ (text "welfare;" ++ field (welfare_in result) line_feed)
          room-welfare = room-then m₃ p₃ blocks welfare rest₃ m₄ p₄ put₄

          pub put_all : (r : List ℕ) (q : ℕ) → Put m₄ p₄ (text "welfare;" ++ field (welfare_in result) line_feed) r q →
              Put l 0 (lines_in b result) r q
          unfolding lines_in
          put_all r q put₅ =
              put_then l 0 heading _ room-all m₁ p₁ put₁ r q
              (put_then m₁ p₁ hours _ rest₁ m₂ p₂ put₂ r q
              (put_then m₂ p₂ title _ rest₂ m₃ p₃ put₃ r q (put_then m₃ p₃ blocks welfare rest₃ m₄ p₄ put₄ r q put₅)))
