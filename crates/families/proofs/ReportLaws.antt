-- THE LINES OUT OF COLUMNS ARE THE FAMILY REPORT of the rules, where the columns are those of a day whose links stand; and how long they are. Assumes
-- nothing.
use mathlib.Core.Path.{◌≡◌, refl, ◌∙◌}
use mathlib.Core.Bool.{Bool, true, false, cond}
use mathlib.Core.List.{List, [], ◌∷◌, ◌++◌, append_assoc, append-nil}
use Prim.Native.Nat.{ℕ, zero, suc, ◌+◌, ◌-◌, ◌*◌, ◌^◌, ◌≤◌, ◌<◌}
use native.Mathlib.Omega.{arith}
use lib.Dec.{eqb}
use lib.ListN.{length, take, get_or, length-append}
use lib.Seq.{take-suc, take-length}
use Rattle.rules.specs.Orders.{Block}
use Rattle.rules.specs.Hour.{when}
use Rattle.rules.specs.Day.{Day, keep, taken, set_prices}
use Rattle.rules.specs.Contender.{LinksStand}
use Rattle.rules.specs.OutcomeRules.{EachBlock}
use Rattle.rules.specs.Families.{parent_of, block_gain, family_gain, Family, families_of}
use Rattle.rules.proofs.Tests.{by-test}
use Rattle.rules.proofs.LinkLaws.{number_at, parent_place}
use Rattle.rules.proofs.FamilyLaws.{root-test}
use Rattle.records.specs.Records.{number}
use Rattle.text.specs.Text.{text, field}
use Rattle.text.proofs.TextLaws.{few-digits}
use Rattle.families.specs.Report.{family_line, family_lines, report_text}
use Rattle.families.specs.Lines.{gain_of, line_at, lines_to, all_lines}
use Rattle.families.proofs.VisitLaws.{number-at, visit-gives}

-- LINES OF LISTS, one after the other
families-append : (day : Day) (set : List Bool) (k l : List Block) → families_of day set (k ++ l) ≡ families_of day set k ++ families_of day set l
unfolding families_of
families-append day set [] l = refl
families-append day set (b ∷ k) l =
    rw (families-append day set k l) (kept (eqb (parent_of day.links b.number) 0) _ (families_of day set k) (families_of day set l))
  where
    kept : (t : Bool) (family : Family) (k l : List Family) → keep t family (k ++ l) ≡ keep t family k ++ l
    kept true family k l = refl
    kept false family k l = refl

lines-append : (k l : List Family) → family_lines (k ++ l) ≡ family_lines k ++ family_lines l
unfolding family_lines
lines-append [] l = refl
lines-append (family ∷ k) l = rw (lines-append k l, append_assoc)

-- of one block
one_line : (t : Bool) (family : Family) → family_lines (keep t family []) ≡ cond t (family_line family.root family.gain) []
unfolding family_lines
one_line true family = append-nil _
one_line false family = refl

module _ (day : Day) (stand : LinksStand day) (set : List Bool) (other : Block) (b records parents gains : List ℕ)
    (whole : length gains ≡ length day.blocks)
    (numbersAre : (j : ℕ) → j < length day.blocks → number b (get_or records j 0) ≡ number_at day.blocks j)
    (parentsAre : (j : ℕ) → j < length day.blocks → get_or parents j 0 ≡ parent_place day j)
    (gainsAre : (j : ℕ) → j < length day.blocks →
    get_or gains j 0 ≡ when (get_or set j false) (block_gain day.hours (set_prices day (taken day.blocks set)) (get_or day.blocks j other))) where
  -- each block's family's gain
  pub gain-gives : (j : ℕ) → j < length day.blocks → gain_of parents gains j ≡ family_gain day set (number_at day.blocks j)
  unfolding gain_of
  gain-gives j inside = visit-gives day stand set other parents gains parentsAre gainsAre (length gains - suc j) j (omega arith)

  line-is : (j : ℕ) → j < length day.blocks → line_at b records parents gains j ≡ family_lines (families_of day set (get_or day.blocks j other ∷ []))
  unfolding line_at families_of
  line-is j inside =
      rw (
        parentsAre j inside,
        root-test day stand j,
        numbersAre j inside,
        gain-gives j inside,
        ← (number-at day.blocks j other inside),
        one_line (eqb (parent_of day.links (get_or day.blocks j other).number) 0) _,
      )

  lines-so-far : (n : ℕ) → n ≤ length day.blocks → lines_to b records parents gains n ≡ family_lines (families_of day set (take n day.blocks))
  unfolding lines_to families_of family_lines
  lines-so-far zero k = refl
  lines-so-far (suc n) k =
      rw (lines-so-far n (omega arith), line-is n (omega arith), take-suc day.blocks n other (omega arith), families-append, lines-append)

  -- THE LINES ARE THE REPORT'S
  pub lines_are : all_lines b records parents gains ≡ family_lines (families_of day set day.blocks)
  lines_are = rw whole (lines-so-far (length day.blocks) (omega arith) ∙ rw (take-length day.blocks))

-- HOW LONG THE LINES ARE: a number has 5 digits at most, a gain 11
module _ (day : Day) (set : List Bool) (small : (root : ℕ) → family_gain day set root < 10 ^ 11) where
  line-short : (number gain : ℕ) → number < 10 ^ 5 → gain < 10 ^ 11 → length (family_line number gain) ≤ 18
  unfolding family_line field
  line-short number gain n g = rw (length-append, length-append, length-append) (omega (arith, few-digits 4 number n, few-digits 10 gain g))

  lines-short : (l : List Block) → EachBlock (λ b. b.number < 10 ^ 5) l → length (family_lines (families_of day set l)) ≤ 18 * length l
  unfolding family_lines families_of
  lines-short [] each = omega arith
  lines-short (b ∷ l) each =
      by-test (λ t. length (family_lines (keep t (record { root = b.number; gain = family_gain day set b.number }) (families_of day set l))) ≤ 18 * suc (length l))
      (eqb (parent_of day.links b.number) 0)
      (λ e. omega (
        arith,
        length-append (family_line b.number (family_gain day set b.number)) (family_lines (families_of day set l)),
        line-short b.number (family_gain day set b.number) each.0 (small b.number),
        lines-short l each.1,
      ))
      (λ e. omega (arith, lines-short l each.1))

  pub report-short : (l : List Block) → EachBlock (λ b. b.number < 10 ^ 5) l → length (report_text (families_of day set l)) ≤ 11 + 18 * length l
  unfolding report_text text
  report-short l each =
      let title : length (text "block;gain\n") ≡ 11 = refl in
      rw length-append (omega (arith, title, lines-short l each))
