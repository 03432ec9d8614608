-- The fields of a book's records, and a record as a step, a block (document 01, "The book in bytes") or a link (document 02, P6).
-- Records have 16 bytes; record k starts at byte 16 × k. Whether a field is in its range is told in the crate book, Refusals. Assumes nothing.
use Rattle.std.specs.Prelude.{ℕ, zero, suc, ◌+◌, ◌-◌, ◌*◌, ◌/◌, ◌%◌, ◌^◌, List, Bool, cond, eqb, ltb, length}
use Rattle.records.specs.Bytes.{byte_at, u16_at, u24_at, u32_at, nonzero}
use Rattle.records.specs.Layout.{record_size, count_offset, first_step_offset, first_block_offset, first_link_offset, day_hours_offset, edition_offset}
use Rattle.records.specs.Layout.{step_kind, block_kind, link_kind, side_offset, next_offset, number_offset, hour_offset, portfolio_offset}
use Rattle.records.specs.Layout.{step_price_offset, step_quantity_offset, block_hours_offset, block_price_offset, block_quantity_offset}
use Rattle.records.specs.Layout.{parent_offset, link_rest_offset, link_rest_size}
use Rattle.records.specs.declared.Side.{Side}
use Rattle.records.specs.declared.Side.TheVariants.{Buy, Sell}
use Rattle.records.specs.declared.Step.{Step}
use Rattle.records.specs.declared.Block.{Block}
use Rattle.records.specs.declared.Link.{Link}
use Rattle.records.specs.declared.Record.{Record}
use Rattle.records.specs.declared.Record.TheVariants as record_of

-- The head, bytes 0 and 1: the record count R, head included
abbrev pub record_count : List ℕ → ℕ
record_count b = u16_at b count_offset

-- The head, bytes 2-3: the first step
abbrev pub first_step : List ℕ → ℕ
first_step b = u16_at b first_step_offset

-- The head, bytes 4-5: the first block
abbrev pub first_block : List ℕ → ℕ
first_block b = u16_at b first_block_offset

-- The head, bytes 8-9: the first link
abbrev pub first_link : List ℕ → ℕ
first_link b = u16_at b first_link_offset

-- The head, byte 6: the day's hours
abbrev pub day_hours : List ℕ → ℕ
day_hours b = byte_at b day_hours_offset

-- The head, byte 7: the edition
abbrev pub edition : List ℕ → ℕ
edition b = byte_at b edition_offset

-- Byte 0 of record k: its kind, 1 a step, 2 a block, 3 a link
abbrev pub kind : List ℕ → ℕ → ℕ
kind b k = byte_at b (record_size * k)

-- Byte 1: the side, 0 buy, 1 sell; 0 in a link
abbrev pub side_byte : List ℕ → ℕ → ℕ
side_byte b k = byte_at b (record_size * k + side_offset)

-- Bytes 2-3: the index of the following record of its chain, 0 at the end
abbrev pub next : List ℕ → ℕ → ℕ
next b k = u16_at b (record_size * k + next_offset)

-- Bytes 4-5: the order number; in a link the child's block number
abbrev pub number : List ℕ → ℕ → ℕ
number b k = u16_at b (record_size * k + number_offset)

-- Byte 6: a step's hour, 0 in a block
abbrev pub hour_byte : List ℕ → ℕ → ℕ
hour_byte b k = byte_at b (record_size * k + hour_offset)

-- Byte 7: the portfolio
abbrev pub portfolio : List ℕ → ℕ → ℕ
portfolio b k = byte_at b (record_size * k + portfolio_offset)

-- The side that a byte names: 0 buy, 1 sell (another byte is refusal 4)
abbrev pub side_of : ℕ → Side
side_of x = cond (eqb x 0) Buy Sell

-- Record k read as a step: price in bytes 8-11, quantity in 12-15
unfoldable pub step_at : List ℕ → ℕ → Step
step_at b k =
    record {
      side = side_of (side_byte b k);
      number = number b k;
      hour = hour_byte b k;
      portfolio = portfolio b k;
      price = u32_at b (record_size * k + step_price_offset);
      quantity = u32_at b (record_size * k + step_quantity_offset);
    }

-- Record k read as a block: hours in bytes 8-10, price in 11-13, quantity in 14-15
unfoldable pub block_at : List ℕ → ℕ → Block
block_at b k =
    record {
      side = side_of (side_byte b k);
      number = number b k;
      portfolio = portfolio b k;
      hours = u24_at b (record_size * k + block_hours_offset);
      price = u24_at b (record_size * k + block_price_offset);
      quantity = u16_at b (record_size * k + block_quantity_offset);
    }

-- Record k read as a link: the child's block number in bytes 4-5, the parent's in 6-7
unfoldable pub link_at : List ℕ → ℕ → Link
link_at b k = record { child = number b k; parent = u16_at b (record_size * k + parent_offset) }

-- The bytes 8-15 of record k, a link, are not all 0
unfoldable pub link_rest : List ℕ → ℕ → Bool
link_rest b k = nonzero b (record_size * k + link_rest_offset) link_rest_size

-- Record k as its kind says: a step, a block, a link, or none of them; none too where the book ends before the record does
unfoldable pub record_at : List ℕ → ℕ → Record
record_at b k =
    cond (ltb (length b) (record_size * k + record_size)) record_of.Other
    (cond (eqb (kind b k) step_kind) (record_of.Step (step_at b k))
    (cond (eqb (kind b k) block_kind) (record_of.Block (block_at b k))
    (cond (eqb (kind b k) link_kind) (record_of.Link (link_at b k)) record_of.Other)))

-- Hour h is among a block's hours x: 24 bits, hour h with the weight 2 to the power h − 1
abbrev pub holds_hour : ℕ → ℕ → Bool
holds_hour x h = eqb (x / 2 ^ (h - 1) % 2) 1

-- How many of the hours 1 to n are among a block's hours x
unfoldable pub hours_set : ℕ → ℕ → ℕ
hours_set zero x = 0
hours_set (suc n) x = hours_set n x + cond (holds_hour x (suc n)) 1 0
