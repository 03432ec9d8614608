-- THE COLUMNS PLACE BY PLACE: at place i of an accepted book's columns stand the numbers of one record, and they are in their ranges. Assumes nothing.
use Prim.Native.Nat.{ℕ, zero, suc, ◌≤◌, ◌<◌}
use mathlib.Core.Path.{◌≡◌, refl, sym, ◌∙◌}
use mathlib.Core.List.{List, [], ◌∷◌, map}
use native.Mathlib.Omega.{arith}
use lib.ListN.{length, take, get_or}
use lib.Seq.{get_or-take}
use native.Mathlib.Nat.{le_trans}
use Rattle.records.specs.Records.{day_hours, edition, side_byte, step_at, block_at}
use Rattle.fields.specs.Hours.{running_hours}
use Rattle.rules.specs.Orders.{most_block_quantity}
use Rattle.rules.proofs.BoundsLaws.{limits-small}
use Rattle.book.specs.Refusals.{Accepted}
use Rattle.chains.proofs.Members.{each-place}
use Rattle.book.proofs.Accepted.{StepRecord, BlockRecord}
use Rattle.orders.specs.Columns.{block_records, by_hour, step_side_at, step_price_at, step_quantity_at, block_side_at, block_hours_at, block_price_at, block_quantity_at}
use Rattle.orders.specs.Columns.{StepColumns, BlockColumns}
use Rattle.orders.proofs.ColumnLaws.{same, map_same}
use Rattle.orders.proofs.FrontLaws.{step-records-front, step-sides-front, step-prices-front, step-quantities-front}
use Rattle.orders.proofs.FrontLaws.{block-records-front, block-sides-front, block-hours-front, block-prices-front, block-quantities-front}
use Rattle.orders.proofs.RecordLaws.{by_hour-each, step-each, block-each, step-as-read, block-as-read}

map_at : (f : ℕ → ℕ) (l : List ℕ) (i : ℕ) → i < length l → get_or (map f l) i 0 ≡ f (get_or l i 0)
map_at f [] i h = absurd (omega arith)
map_at f (x ∷ l) zero h = refl
map_at f (x ∷ l) (suc i) h = map_at f l i (omega arith)

place_of : (f : ℕ → ℕ) (n : ℕ) (l column : List ℕ) → n ≡ length l → take n column ≡ map f l → (i : ℕ) → i < n → get_or column i 0 ≡ f (get_or l i 0)
place_of f n l column e given i h = sym (get_or-take n column i 0 h) ∙ rw given (map_at f l i (omega arith))

-- A step's numbers at one place of the columns: those of record k, which is a step of the book, each in its range
pub record StepPlace (b : List ℕ) (k side price quantity : ℕ) : Type 0 where
  pub known : StepRecord b k
  pub side_is : side ≡ side_byte b k
  pub price_is : price ≡ (step_at b k).price
  pub quantity_is : quantity ≡ (step_at b k).quantity
  pub side_range : side ≤ 1
  pub price_range : (1 ≤ price) × (price ≤ 300000)
  pub quantity_range : (1 ≤ quantity) × (quantity ≤ 99999)

step-placed : (b : List ℕ) (k side price quantity : ℕ) → StepRecord b k → side ≡ step_side_at b k → price ≡ step_price_at b k → quantity ≡ step_quantity_at b k
    → StepPlace b k side price quantity
step-placed b k side price quantity r s p q =
    let n = step-as-read b k r in
    record {
      known = r;
      side_is = s ∙ n.side;
      price_is = p ∙ n.price;
      quantity_is = q ∙ n.quantity;
      side_range = rw (s ∙ n.side) r.side;
      price_range = rw (p ∙ n.price) r.fields.price;
      quantity_range = rw (q ∙ n.quantity) r.fields.quantity;
    }

pub step-place : (b ends records sides prices quantities : List ℕ) → StepColumns b ends records sides prices quantities → Accepted b
    → (i : ℕ) → i < get_or ends 24 0 → StepPlace b (get_or records i 0) (get_or sides i 0) (get_or prices i 0) (get_or quantities i 0)
step-place b ends records sides prices quantities c a i h =
    let l = by_hour b 24 in
    let n = length l in
    let g : i < n = (let e = c.ends_at 24 (omega arith) in omega arith) in
    let k : get_or records i 0 ≡ get_or l i 0 = place_of same n l records refl (step-records-front c ∙ sym (map_same l)) i g in
    rw k
    (step-placed b (get_or l i 0) _ _ _
    (each-place (StepRecord b) l i 0 (by_hour-each (StepRecord b) b 24 (step-each b a)) g)
    (place_of (step_side_at b) n l sides refl (step-sides-front c) i g)
    (place_of (step_price_at b) n l prices refl (step-prices-front c) i g)
    (place_of (step_quantity_at b) n l quantities refl (step-quantities-front c) i g))

-- A block's numbers at one place of the columns: those of record k, which is a block of the book, each in its range
pub record BlockPlace (b : List ℕ) (k side hours price quantity : ℕ) : Type 0 where
  pub known : BlockRecord b k
  pub side_is : side ≡ side_byte b k
  pub hours_is : hours ≡ running_hours (day_hours b) (block_at b k).hours
  pub price_is : price ≡ (block_at b k).price
  pub quantity_is : quantity ≡ (block_at b k).quantity
  pub side_range : side ≤ 1
  pub price_range : (1 ≤ price) × (price ≤ 300000)
  pub quantity_range : (1 ≤ quantity) × (quantity ≤ most_block_quantity)

block-placed : (b : List ℕ) (k side hours price quantity : ℕ) → BlockRecord b k → side ≡ block_side_at b k → hours ≡ block_hours_at b k
    → price ≡ block_price_at b k → quantity ≡ block_quantity_at b k → BlockPlace b k side hours price quantity
block-placed b k side hours price quantity r s x p q =
    let n = block-as-read b k r in
    record {
      known = r;
      side_is = s ∙ n.side;
      hours_is = x ∙ n.hours;
      price_is = p ∙ n.price;
      quantity_is = q ∙ n.quantity;
      side_range = rw (s ∙ n.side) r.side;
      price_range = rw (p ∙ n.price) r.fields.price;
      quantity_range = rw (q ∙ n.quantity) (r.fields.quantity.0, le_trans r.fields.quantity.1 (limits-small (edition b)));
    }

pub block-place : {n : ℕ} (b : List ℕ) (count : ℕ) (records sides hours prices quantities : List ℕ)
    → BlockColumns n b count records sides hours prices quantities → Accepted b → (i : ℕ) → i < count
    → BlockPlace b (get_or records i 0) (get_or sides i 0) (get_or hours i 0) (get_or prices i 0) (get_or quantities i 0)
block-place b count records sides hours prices quantities c a i h =
    let l = block_records b in
    let e = c.counted in
    let k : get_or records i 0 ≡ get_or l i 0 = place_of same count l records e (block-records-front c ∙ sym (map_same l)) i h in
    rw k
    (block-placed b (get_or l i 0) _ _ _ _
    (each-place (BlockRecord b) l i 0 (block-each b a) (omega arith))
    (place_of (block_side_at b) count l sides e (block-sides-front c) i h)
    (place_of (block_hours_at b) count l hours e (block-hours-front c) i h)
    (place_of (block_price_at b) count l prices e (block-prices-front c) i h)
    (place_of (block_quantity_at b) count l quantities e (block-quantities-front c) i h))
