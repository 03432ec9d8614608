-- WHAT IS WRITTEN OF A BOOK'S FAMILIES (document 02, P6: "The program family-print, reading, refusing and ending its lines as auction-print does"), of every
-- byte string. Definitions only. Assumes nothing.
use Rattle.std.specs.Prelude.{ℕ, cond, List, eqb}
use Rattle.book.specs.Refusals.{refusal}
use Rattle.rules.specs.Families.{family_report}
use Rattle.orders.specs.Bridge.{orders_of}
use Rattle.families.specs.Report.{report_text}
use Rattle.sheet.specs.Sheet.{refused_line}

-- The most bytes that are written.
abbrev pub most_family_sheet : ℕ
most_family_sheet = 587

-- What is written of a book: its family report, or the line of its refusal.
unfoldable pub family_sheet_of : List ℕ → List ℕ
family_sheet_of b = cond (eqb (refusal b) 0) (report_text (family_report (orders_of b))) (refused_line (refusal b))
