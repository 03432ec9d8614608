-- S5'S CASH SHEET (document 02, P3: "For S5 with portfolio 1 buying, 2 selling and 3 owning the block") to the byte. `proofs/WorkedCashLaws.antt` proves that it
-- is the cash sheet of S5's book. Definitions only. Assumes nothing.
use Rattle.std.specs.Prelude.{ℕ, List}
use Rattle.text.specs.Text.{text}

-- The sheet, as the paper has it.
unfoldable pub s5_cash : List ℕ
s5_cash = text "portfolio;bought;sold;paid;received\n1;200;0;600000;0\n2;0;100;0;300000\n3;0;100;0;300000\nall;200;200;600000;600000\n"
