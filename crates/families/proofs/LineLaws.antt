-- The lines of families, written one after another. Assumes nothing.
use mathlib.Core.Path.{◌≡◌, refl, sym}
use mathlib.Core.List.{List, [], ◌++◌}
use Prim.Native.Nat.{ℕ, zero, suc, ◌+◌, ◌-◌, ◌≤◌, ◌<◌}
use native.Mathlib.Omega.{arith}
use native.Mathlib.Nat.{add-zero, add-suc}
use native.Mathlib.Numerals.{add-one}
use lib.ListN.{length, get_or, length-append}
use borrow.Author.Tests.{eq-eqb, ne_eqb}
use Rattle.records.specs.Records.{number}
use Rattle.text.specs.Text.{field, semicolon, line_feed, HasRoom, Put}
use Rattle.text.proofs.BufferLaws.{splice-none}
use Rattle.text.proofs.TextLaws.{room-first, room-then, put_then}
use Rattle.families.specs.Report.{family_line}
use Rattle.families.specs.Visit.{visit_gain}
use Rattle.families.specs.Lines.{gain_of, line_at, lines_to}

-- nothing is put
pub put-none : (l : List ℕ) (at : ℕ) → Put l at [] l at
put-none l at = record { written = splice-none l at; ends = sym (add-zero at) }

-- A LINE: two fields
module _ (l : List ℕ) (at number gain : ℕ) (room : HasRoom l at (family_line number gain)) where
  room-both : HasRoom l at (field number semicolon ++ field gain line_feed)
  unfolding family_line
  room-both = room

  pub room-number : HasRoom l at (field number semicolon)
  room-number = room-first l at _ _ room-both

  module _ (m : List ℕ) (p : ℕ) (put₁ : Put l at (field number semicolon) m p) where
    pub room-gain : HasRoom m p (field gain line_feed)
    room-gain = room-then l at _ _ room-both m p put₁

    pub put-family-line : (r : List ℕ) (q : ℕ) → Put m p (field gain line_feed) r q → Put l at (family_line number gain) r q
    unfolding family_line
    put-family-line r q put₂ = put_then l at _ _ room-both m p put₁ r q put₂

-- LINES
module _ (b records parents gains : List ℕ) where
  pub no_lines : lines_to b records parents gains 0 ≡ []
  unfolding lines_to
  no_lines = refl

  lines_more : (i : ℕ) → lines_to b records parents gains (i + 1) ≡ lines_to b records parents gains i ++ line_at b records parents gains i
  unfolding lines_to
  lines_more i = rw add-one

  -- the lines of fewer blocks are shorter
  lines-shorter : (n m : ℕ) → length (lines_to b records parents gains n) ≤ length (lines_to b records parents gains (n + m))
  unfolding lines_to
  lines-shorter n zero = rw add-zero (omega arith)
  lines-shorter n (suc m) =
      rw add-suc (omega (arith, lines-shorter n m, length-append (lines_to b records parents gains (n + m)) (line_at b records parents gains (n + m))))

  -- a block without a parent has its line, another none
  pub line-root : (i : ℕ) → get_or parents i 0 ≡ 0 → line_at b records parents gains i ≡ family_line (number b (get_or records i 0)) (gain_of parents gains i)
  unfolding line_at
  line-root i e = rw (eq-eqb (get_or parents i 0) 0 e)

  pub line-none : (i : ℕ) → (get_or parents i 0 ≡ 0 → ⊥) → line_at b records parents gains i ≡ []
  unfolding line_at
  line-none i e = rw (ne_eqb (get_or parents i 0) 0 e)

  module _ (i : ℕ) (below : i < length gains) (l : List ℕ) (at : ℕ) (room : HasRoom l at (lines_to b records parents gains (length gains))) where
    lines-room : HasRoom l at (lines_to b records parents gains i ++ line_at b records parents gains i)
    unfolding HasRoom
    lines-room =
        let e : i + 1 + (length gains - 1 - i) ≡ length gains = omega arith in
        let n = rw e at (lines-shorter (i + 1) (length gains - 1 - i)) in
        rw (← (lines_more i)) (omega arith)

    module _ (m : List ℕ) (p : ℕ) (before : Put l at (lines_to b records parents gains i) m p) where
      -- the next line has room, and is put
      pub line-room : HasRoom m p (line_at b records parents gains i)
      line-room = room-then l at _ _ lines-room m p before

      pub line-put : (r : List ℕ) (q : ℕ) → Put m p (line_at b records parents gains i) r q → Put l at (lines_to b records parents gains (i + 1)) r q
      line-put r q line = rw (lines_more i) (put_then l at _ _ lines-room m p before r q line)

-- the gain that a visit gives
pub gain-is : (parents gains : List ℕ) (i : ℕ) → visit_gain parents gains (length gains - 1 - i) i ≡ gain_of parents gains i
unfolding gain_of
gain-is parents gains i = let e : length gains - 1 - i ≡ length gains - suc i = omega arith in rw e
