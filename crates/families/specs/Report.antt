-- THE FAMILY REPORT AS TEXT (document 02, P6: "writes `block;gain`, then such a line for each"). Definitions only. Assumes nothing.
use Rattle.std.specs.Prelude.{ℕ, List, [], ◌∷◌, ◌++◌}
use Rattle.rules.specs.Families.{Family}
use Rattle.text.specs.Text.{text, field, semicolon, line_feed}

-- A line of a family: the number of its block without a parent, its gain.
unfoldable pub family_line : ℕ → ℕ → List ℕ
family_line number gain = field number semicolon ++ field gain line_feed

-- A line for each family.
unfoldable pub family_lines : List Family → List ℕ
family_lines [] = []
family_lines (family ∷ l) = family_line family.root family.gain ++ family_lines l

-- The text of a family report.
unfoldable pub report_text : List Family → List ℕ
report_text families = text "block;gain\n" ++ family_lines families
