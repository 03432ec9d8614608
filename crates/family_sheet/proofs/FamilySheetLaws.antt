-- THE FAMILY REPORT OUT OF THE RESULT'S BYTES IS THE REPORT OF THE RULES, and no more than 587 bytes are written. Assumes nothing.
use mathlib.Core.Path.{◌≡◌, refl, ◌∙◌}
use mathlib.Core.Bool.{false, cond}
use mathlib.Core.List.{List, [], ◌∷◌, ◌++◌, map}
use Prim.Native.Nat.{ℕ, zero, suc, ◌+◌, ◌*◌, ◌^◌, ◌≤◌, ◌<◌}
use native.Mathlib.Omega.{arith}
use lib.ListN.{length, take, get_or, length-append, length-map}
use lib.Seq.{get_or-take}
use borrow.Author.Tests.{eq-eqb, ne_eqb}
use Rattle.records.specs.Bytes.{byte_at, u16_at}
use Rattle.records.specs.Records.{number, block_at}
use Rattle.chains.specs.Chains.{block_order}
use Rattle.book.specs.Refusals.{refusal, Accepted}
use Rattle.std.specs.Prelude.{Err}
use Rattle.book.specs.Numbers.{refusal_number}
use Rattle.book.specs.Answers.{reading}
use Rattle.book.specs.declared.refusal.Refusal.{Refusal}
use Rattle.book.proofs.Refused.{answer-refused}
use Rattle.book.proofs.Accepted.{accepted, accepted-zero}
use Rattle.rules.specs.Orders.{buy, Block}
use Rattle.rules.specs.Outcome.{outcome}
use Rattle.rules.specs.OutcomeRules.{EachBlock}
use Rattle.rules.specs.Families.{family_gain, families_of, family_report}
use Rattle.rules.proofs.Tests.{by-eq}
use Rattle.rules.proofs.LinkLaws.{number_at, parent_place}
use Rattle.rules.proofs.FamilyBounds.{family-small}
use Rattle.orders.specs.Bridge.{block_from, block_on, orders_of, day_from}
use Rattle.orders.specs.Columns.{block_records, parent_place_at, parent_column, padded, BlockColumns}
use Rattle.orders.proofs.BridgeLaws.{day-blocks, day-short, prices-in-range}
use Rattle.orders.proofs.RecordLaws.{blocks-all}
use Rattle.orders.proofs.ColumnLaws.{padded-front}
use Rattle.orders.proofs.FrontLaws.{block-records-front}
use Rattle.orders.proofs.LinkLaws.{links-stand, parents-read}
use Rattle.result.specs.Result.{result_bytes}
use Rattle.result.proofs.SizeLaws.{small-day}
use Rattle.text.specs.Text.{text, HasRoom, Put}
use Rattle.text.proofs.TextLaws.{room-first, room-then, put_then}
use Rattle.sheet.specs.Sheet.{refused_line}
use Rattle.sheet.proofs.SheetLaws.{refused-short}
use Rattle.gains.specs.Gains.{gain_at, gain_column}
use Rattle.gains.proofs.GainLaws.{gains-read}
use Rattle.families.specs.Report.{report_text, family_lines}
use Rattle.families.specs.Lines.{gain_of, all_lines, ColumnsHeld}
use Rattle.families.proofs.ReportLaws.{gain-gives, lines_are, report-short}
use Rattle.family_sheet.specs.FamilySheet.{family_sheet_of}
use Rattle.family_sheet.specs.Lines.{parents_in, gains_in, family_text_in}

-- THE COLUMNS of an accepted book
number-of-block : (b l : List ℕ) (j : ℕ) → j < length l → number b (get_or l j 0) ≡ number_at (map (block_on b) l) j
unfolding block_from block_at
number-of-block b [] j inside = absurd (omega arith)
number-of-block b (k ∷ l) zero inside = refl
number-of-block b (k ∷ l) (suc j) inside = number-of-block b l j (omega arith)

-- a block, for places past the end
nobody : Block
nobody = record { number = 0; portfolio = 0; side = buy; price = 0; quantity = 0; runs = λ h. false }

module _ (b : List ℕ) (a : Accepted b) where
  abbrev result : List ℕ
  result = result_bytes b

  abbrev count : ℕ
  count = length (block_records b)

  count-is : length (day_from b).blocks ≡ count
  count-is = rw (day-blocks b, length-map, blocks-all b a)

  parents-front : parents_in b ≡ map (parent_place_at b (block_records b)) (block_records b)
  unfolding parent_column
  parents-front = padded-front 32 count _ (parent_column b) (length-map (block_records b) _) refl

  gains-front : gains_in b result ≡ map (gain_at b result) (block_records b)
  unfolding gain_column
  gains-front = padded-front 32 count _ (gain_column b result) (length-map (block_records b) _) refl

  gains-length : length (gains_in b result) ≡ length (day_from b).blocks
  gains-length = rw (gains-front, length-map, count-is)

  numbers-are : (j : ℕ) → j < length (day_from b).blocks → number b (get_or (block_records b) j 0) ≡ number_at (day_from b).blocks j
  numbers-are j inside =
      rw (day-blocks b, ← (blocks-all b a)) (number-of-block b (block_records b) j (omega (arith, count-is)))

  parents-are : (j : ℕ) → j < length (day_from b).blocks → get_or (parents_in b) j 0 ≡ parent_place (day_from b) j
  parents-are j inside = get_or-take count (parent_column b) j 0 (omega (arith, count-is)) ∙ parents-read b a j

  -- each family's gain, and all lines
  gain-is : (j : ℕ) → j < length (day_from b).blocks →
      gain_of (parents_in b) (gains_in b result) j ≡ family_gain (day_from b) (outcome (day_from b)) (number_at (day_from b).blocks j)
  gain-is =
      gain-gives (day_from b) (links-stand b a) (outcome (day_from b)) nobody b (block_records b) (parents_in b) (gains_in b result) gains-length numbers-are
      parents-are (λ j inside. get_or-take count (gain_column b result) j 0 (omega (arith, count-is)) ∙ gains-read b a nobody j inside)

  every_line : all_lines b (block_records b) (parents_in b) (gains_in b result)
      ≡ family_lines (families_of (day_from b) (outcome (day_from b)) (day_from b).blocks)
  every_line =
      lines_are (day_from b) (links-stand b a) (outcome (day_from b)) nobody b (block_records b) (parents_in b) (gains_in b result) gains-length numbers-are
      parents-are (λ j inside. get_or-take count (gain_column b result) j 0 (omega (arith, count-is)) ∙ gains-read b a nobody j inside)

  text-is : family_text_in b result ≡ report_text (family_report (orders_of b))
  unfolding family_text_in report_text family_report day_from
  text-is = rw every_line

  -- what is written of an accepted book
  pub text-accepted : family_text_in b (result_bytes b) ≡ family_sheet_of b
  unfolding family_sheet_of
  text-accepted = rw (eq-eqb (refusal b) 0 (accepted-zero b a)) text-is

  family-fits : (root : ℕ) → family_gain (day_from b) (outcome (day_from b)) root < 10 ^ 11
  family-fits root =
      omega (
        arith,
        family-small (day_from b) (outcome (day_from b)) root (day-short b a) (prices-in-range b a) (small-day b a).small_blocks (small-day b a).few_blocks,
      )

  columns-held : ColumnsHeld (block_records b) (parents_in b) (gains_in b result)
  columns-held =
      record {
        records_size = omega (arith, gains-length, count-is);
        parents_size = rw (parents-front, length-map) (omega (arith, gains-length, count-is));
        gains_fit = λ j inside. rw (gain-is j (omega (arith, gains-length))) (omega (arith, family-fits (number_at (day_from b).blocks j)));
      }

-- of a refused one
pub text-refused : (b : List ℕ) (n : ℕ) → refusal b ≡ n → (n ≡ 0 → ⊥) → refused_line n ≡ family_sheet_of b
unfolding family_sheet_of
text-refused b n e f = rw (e, ne_eqb n 0 f)

-- the line of the book's own refusal
pub refusal-put : (b : List ℕ) (why : Refusal) → reading b ≡ Err why → (out r : List ℕ) (q : ℕ) → Put out 0 (refused_line (refusal_number why)) r q
    → Put out 0 (family_sheet_of b) r q
refusal-put b why e out r q put = let refused = answer-refused b why e in rw (text-refused b _ refused.1 (λ z. refused.0 (refused.1 ∙ z))) at put

pub refused-has-room : (n : ℕ) (out : List ℕ) → length out ≡ 587 → HasRoom out 0 (refused_line n)
unfolding HasRoom
refused-has-room n out whole = omega (arith, refused-short n)

-- NO MORE THAN 587 BYTES
module _ (b : List ℕ) (bytes : (i : ℕ) → byte_at b i < 256) where
  numbers-small : (l : List ℕ) → EachBlock (λ block. block.number < 10 ^ 5) (map (block_on b) l)
  unfolding block_from block_at u16_at
  numbers-small [] = tt
  numbers-small (k ∷ l) = (omega (arith, bytes (16 * k + 4), bytes (16 * k + 4 + 1)), numbers-small l)

  report-fits : Accepted b → length (report_text (family_report (orders_of b))) ≤ 587
  unfolding family_report day_from
  report-fits a =
      omega (
        arith,
        report-short (day_from b) (outcome (day_from b)) (family-fits b a) (day_from b).blocks (rw (day-blocks b) (numbers-small (block_order b))),
        (small-day b a).few_blocks,
      )

  pub family-sheet-short : length (family_sheet_of b) ≤ 587
  unfolding family_sheet_of
  family-sheet-short =
      by-eq (λ t. length (cond t (report_text (family_report (orders_of b))) (refused_line (refusal b))) ≤ 587) (refusal b) 0
      (λ e. report-fits (accepted b e)) (λ e. omega (arith, refused-short (refusal b)))

  pub put-short : (out after : List ℕ) (end : ℕ) → Put out 0 (family_sheet_of b) after end → end ≤ 587
  put-short out after end put = omega (arith, put.ends, family-sheet-short)

-- THE REPORT PUT: the title, and behind it the lines
module _ (b result : List ℕ) (a : Accepted b) (is : result ≡ result_bytes b) (count : ℕ) (records sides hours prices quantities parents gains : List ℕ)
    (bc : BlockColumns 32 b count records sides hours prices quantities) (ps : parents ≡ parent_column b) (gs : gains ≡ gain_column b result) where
  fronts : (take count records ≡ block_records b) × (take count parents ≡ parents_in b) × (take count gains ≡ gains_in b (result_bytes b))
  fronts = (block-records-front bc, rw (ps, bc.counted), rw (gs, is, bc.counted))

  -- so many of each are lent
  pub records-fit : count ≤ length records
  unfolding padded
  records-fit = rw (bc.records_are, length-append) (omega (arith, bc.counted))

  pub lent : (count ≡ length (take count records)) × (count ≡ length (take count parents)) × (count ≡ length (take count gains))
  lent =
      let held = columns-held b a in (
        rw fronts.0 bc.counted,
        rw fronts.1 (omega (arith, bc.counted, held.records_size, held.parents_size)),
        rw fronts.2 (omega (arith, bc.counted, held.records_size)),
      )

  pub report-held : ColumnsHeld (take count records) (take count parents) (take count gains)
  report-held = rw (fronts.0, fronts.1, fronts.2) (columns-held b a)

  module _ (bytes : (i : ℕ) → byte_at b i < 256) (out : List ℕ) (large : 587 ≤ length out) where
    room-all : HasRoom out 0 (text "block;gain\n" ++ all_lines b (take count records) (take count parents) (take count gains))
    unfolding HasRoom family_text_in
    room-all = rw (fronts.0, fronts.1, fronts.2, text-accepted b a) (omega (arith, family-sheet-short b bytes))

    pub room-title : HasRoom out 0 (text "block;gain\n")
    room-title = room-first out 0 (text "block;gain\n") _ room-all

    module _ (m : List ℕ) (p : ℕ) (title : Put out 0 (text "block;gain\n") m p) where
      pub room-lines : HasRoom m p (all_lines b (take count records) (take count parents) (take count gains))
      room-lines = room-then out 0 (text "block;gain\n") _ room-all m p title

      pub report-put : (r : List ℕ) (q : ℕ) → Put m p (all_lines b (take count records) (take count parents) (take count gains)) r q → Put out 0 (family_sheet_of b) r q
      unfolding family_text_in
      report-put r q lines =
          rw (fronts.0, fronts.1, fronts.2, text-accepted b a) at (put_then out 0 (text "block;gain\n") _ room-all m p title r q lines)
