-- THE ORDER RECORDS OF A BOOK AS ITS RESULT HAS THEM EXECUTED (document 02, P3: "Each total equals the sum over the order records"). `proofs/CashRecordLaws.antt`
-- proves that they are the orders of the rules, and that each total of the cash sheet is the sum over the records. Definitions only. Assumes nothing.
use Rattle.std.specs.Prelude.{ℕ, cond, List, eqb}
use Rattle.records.specs.Layout.{step_kind, block_kind}
use Rattle.records.specs.Records.{kind, step_at, block_at}
use Rattle.rules.specs.Cash.{Executed}
use Rattle.orders.specs.Bridge.{side_from, block_on}
use Rattle.result.specs.Result.{row_in}

-- Record k of the step chain: in its hour, with the quantity of its row.
unfoldable pub step_executed : List ℕ → List ℕ → ℕ → Executed
step_executed b result k =
    record {
      portfolio = (step_at b k).portfolio;
      side = side_from (step_at b k).side;
      runs = eqb (step_at b k).hour;
      quantity = row_in result k;
    }

-- Record k of the block chain: in those of its hours that count, with the quantity of its row.
unfoldable pub block_executed : List ℕ → List ℕ → ℕ → Executed
block_executed b result k =
    record {
      portfolio = (block_at b k).portfolio;
      side = side_from (block_at b k).side;
      runs = (block_on b k).runs;
      quantity = row_in result k;
    }

-- A number of record k: of the order that it is, by its kind; 0 of a link, which is no order.
unfoldable pub of_record : (Executed → ℕ) → List ℕ → List ℕ → ℕ → ℕ
of_record f b result k =
    cond (eqb (kind b k) step_kind) (f (step_executed b result k)) (cond (eqb (kind b k) block_kind) (f (block_executed b result k)) 0)
