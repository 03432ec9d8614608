-- THE RESULT of a clearing in bytes (document 01, "Result: 8 bytes welfare; .."), and how it is read again. Definitions only. Assumes nothing.
use Rattle.std.specs.Prelude.{ℕ, zero, suc, ◌+◌, ◌-◌, ◌*◌, ◌/◌, ◌%◌, ◌^◌, Bool, cond, List, [], ◌∷◌, ◌++◌, map, eqb}
use Rattle.records.specs.Bytes.{u32_at}
use Rattle.records.specs.Records.{record_count, block_at}
use Rattle.chains.specs.Chains.{step_order, block_order}
use Rattle.result.specs.Layout.{welfare_size, half, hour_row_size, traded_offset, record_row_size, record_rows_offset}
use Rattle.rules.specs.Outcome.{published}
use Rattle.orders.specs.Bridge.{orders_of}

-- WRITTEN
-- A number as n bytes, high byte first.
unfoldable pub bytes_of : ℕ → ℕ → List ℕ
bytes_of zero x = []
bytes_of (suc n) x = (x / 256 ^ n % 256) ∷ bytes_of n x

-- The rows of the hours: 4 bytes price and 4 bytes traded quantity each.
unfoldable pub hour_rows : List ℕ → List ℕ → List ℕ
hour_rows [] traded = []
hour_rows (p ∷ prices) [] = []
hour_rows (p ∷ prices) (t ∷ traded) = bytes_of 4 p ++ (bytes_of 4 t ++ hour_rows prices traded)

-- What stands beside k in two lists of one length, or else the other number.
unfoldable pub beside : ℕ → List ℕ → List ℕ → ℕ → ℕ
beside k [] values other = other
beside k (x ∷ l) [] other = other
beside k (x ∷ l) (v ∷ values) other = cond (eqb k x) v (beside k l values other)

-- Each block's executed quantity per hour: its quantity if it is taken, else 0.
unfoldable pub block_rows : List ℕ → List ℕ → List Bool → List ℕ
block_rows b [] chosen = []
block_rows b (k ∷ l) [] = []
block_rows b (k ∷ l) (t ∷ chosen) = cond t (block_at b k).quantity 0 ∷ block_rows b l chosen

-- The executed quantity per hour of record k: on the step chain its order's, on the block chain its block's; a link's is 0.
unfoldable pub row_of : List ℕ → ℕ → ℕ
row_of b k =
    beside k (step_order b) (published (orders_of b)).executed
    (beside k (block_order b) (block_rows b (block_order b) (published (orders_of b)).chosen) 0)

-- A number of each record from k on, n of them, as 4 bytes each.
unfoldable pub record_rows : (ℕ → ℕ) → ℕ → ℕ → List ℕ
record_rows row zero k = []
record_rows row (suc n) k = bytes_of record_row_size (row k) ++ record_rows row n (suc k)

-- The result: 8 bytes welfare, the hours 1 to 24, the records 1 to R − 1.
unfoldable pub result_bytes : List ℕ → List ℕ
result_bytes b =
    bytes_of welfare_size (published (orders_of b)).welfare
    ++ (hour_rows (published (orders_of b)).prices (published (orders_of b)).traded ++ record_rows (row_of b) (record_count b - 1) 1)

-- READ AGAIN
-- The 8 bytes of the welfare.
unfoldable pub welfare_in : List ℕ → ℕ
welfare_in result = u32_at result 0 * 2 ^ 32 + u32_at result half

-- The price and the traded quantity of hour h.
unfoldable pub price_in : List ℕ → ℕ → ℕ
price_in result h = u32_at result (hour_row_size * h)

unfoldable pub traded_in : List ℕ → ℕ → ℕ
traded_in result h = u32_at result (hour_row_size * h + traded_offset)

-- The row of record k.
unfoldable pub row_in : List ℕ → ℕ → ℕ
row_in result k = u32_at result (record_rows_offset + record_row_size * k)

-- The executed quantities of the steps, in chain order.
unfoldable pub step_rows_in : List ℕ → List ℕ → List ℕ
step_rows_in b result = map (row_in result) (step_order b)

-- A block is taken where its row holds its quantity, and left out where its row is 0.
unfoldable pub taken_in : List ℕ → List ℕ → List Bool
taken_in b result = map (λ k. eqb (row_in result k) (block_at b k).quantity) (block_order b)
