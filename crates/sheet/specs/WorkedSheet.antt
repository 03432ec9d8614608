-- S5'S SHEET (document 01, "Days to check by hand") to the byte. `proofs/WorkedSheetLaws.antt` proves that it is the sheet of S5's book.
-- Definitions only. Assumes nothing.
use Rattle.std.specs.Prelude.{ℕ, List, ◌++◌}
use Rattle.text.specs.Text.{text}

-- The sheet, as the paper has it.
unfoldable pub s5_sheet : List ℕ
s5_sheet =
    text "hour;cents;tenths\n1;3000;100\n2;3000;100\n3;150000;0\n4;150000;0\n5;150000;0\n6;150000;0\n7;150000;0\n8;150000;0\n9;150000;0\n"
    ++ (text "10;150000;0\n11;150000;0\n12;150000;0\n13;150000;0\n14;150000;0\n15;150000;0\n16;150000;0\n17;150000;0\n"
    ++ (text "18;150000;0\n19;150000;0\n20;150000;0\n21;150000;0\n22;150000;0\n23;150000;0\n24;150000;0\n" ++ text "block;taken\n1;1\nwelfare;410000\n"))
