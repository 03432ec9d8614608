-- The ranges of a record's fields: cause 4 at one record, in the words of document 01, "The book in bytes" (of links, document 02, P6). Assumes nothing.
use Rattle.std.specs.Prelude.{ℕ, List, Bool, true, not, ◌&&◌, eqb, leb}
use Rattle.rules.specs.Orders.{max_price, Limits, limits}
use Rattle.records.specs.Layout.{last_side, last_hour}
use Rattle.records.specs.Records.{edition, side_byte, hour_byte, record_at, link_rest, hours_set}
use Rattle.records.specs.declared.Step.{Step}
use Rattle.records.specs.declared.Block.{Block}
use Rattle.records.specs.declared.Record.{Record}
use Rattle.records.specs.declared.Record.TheVariants as record_of
use Rattle.fields.specs.Bounds.{last_portfolio, most_step_quantity, fewest_hours}
use Rattle.fields.specs.Tests.{within}

-- A step's hour is 1 to 24, its portfolio 1 to 255, its price 1 to 300000, its quantity 1 to 99,999
unfoldable pub step_fits : Step → Bool
step_fits s =
    within 1 s.hour last_hour && within 1 s.portfolio last_portfolio && within 1 s.price max_price && within 1 s.quantity most_step_quantity

-- A block's portfolio is 1 to 255, at least two of its hours are set, its price is 1 to 300000, its quantity 1 to the limit
unfoldable pub block_fits : Limits → Block → Bool
block_fits l s =
    within 1 s.portfolio last_portfolio && leb fewest_hours (hours_set last_hour s.hours) && within 1 s.price max_price
    && within 1 s.quantity l.block_quantity

-- Record i as a step: its side is 0 or 1, and it fits
unfoldable pub step_in_range : List ℕ → ℕ → Step → Bool
step_in_range b i s = within 0 (side_byte b i) last_side && step_fits s

-- Record i as a block: its side is 0 or 1, its byte 6 is 0, and it fits
unfoldable pub block_in_range : List ℕ → ℕ → Block → Bool
block_in_range b i s = within 0 (side_byte b i) last_side && eqb (hour_byte b i) 0 && block_fits (limits (edition b)) s

-- Record i as a link: its byte 1 and its bytes 8-15 are 0
unfoldable pub link_in_range : List ℕ → ℕ → Bool
link_in_range b i = eqb (side_byte b i) 0 && not (link_rest b i)

-- Record i, read as what it is, has its fields in their ranges; one that is none of these has none (on a chain it is cause 1 or 3)
unfoldable pub record_in_range : List ℕ → ℕ → Record → Bool
record_in_range b i (record_of.Step s) = step_in_range b i s
record_in_range b i (record_of.Block s) = block_in_range b i s
record_in_range b i (record_of.Link l) = link_in_range b i
record_in_range b i record_of.Other = true

-- 4, at record i: a field outside its range
unfoldable pub out_of_range : List ℕ → ℕ → Bool
out_of_range b i = not (record_in_range b i (record_at b i))
