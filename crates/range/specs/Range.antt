-- THE PRICE RANGE OF A LIST OF UNCERTAIN STEPS (document 02, P14): what is answered for every byte string. Definitions only. Assumes nothing.
use Rattle.std.specs.Prelude.{ℕ, zero, suc, ◌+◌, ◌*◌, ◌/◌, ◌%◌, List, [], ◌∷◌, ◌++◌, map, Bool, cond, not, ◌&&◌, ◌||◌, eqb, leb, ltb, length, Result, Ok, Err}
use Rattle.records.specs.Bytes.{u32_at}
use Rattle.records.specs.Layout.{last_side}
use Rattle.fields.specs.Tests.{within, some_below}
use Rattle.orders.specs.Columns.{side_for}
use Rattle.rules.specs.Orders.{max_price}
use Rattle.rules.specs.Uncertain.{UncertainStep, least_price, greatest_price}
use Rattle.range.specs.Layout.{entry_size, most_entries, side_offset, price_offset, low_offset, high_offset, most_figure}
use Rattle.range.specs.declared.Entry.{Entry}
use Rattle.range.specs.declared.PriceRange.{PriceRange}
use Rattle.book.specs.declared.refusal.Refusal.{Refusal}
use Rattle.book.specs.declared.refusal.Refusal.TheVariants.{WrongList}

-- Entry i of a list: side, price, low and high in 4 bytes apiece, high byte first
unfoldable pub entry_at : List ℕ → ℕ → Entry
entry_at b i =
    record {
      side = u32_at b (entry_size * i + side_offset);
      price = u32_at b (entry_size * i + price_offset);
      low = u32_at b (entry_size * i + low_offset);
      high = u32_at b (entry_size * i + high_offset);
    }

-- Its fields are in range: the side 0 or 1, the price 1 to 300000, low and high 0 to 99,999, low at most high
unfoldable pub entry_fits : Entry → Bool
entry_fits e =
    leb e.side last_side && within 1 e.price max_price && leb e.low most_figure && leb e.high most_figure && leb e.low e.high

-- The entry as a step of uncertain quantity
abbrev pub uncertain_of : Entry → UncertainStep
uncertain_of e = record { side = side_for e.side; price = e.price; low = e.low; high = e.high }

-- How many entries a list has
abbrev pub entry_count : List ℕ → ℕ
entry_count b = length b / entry_size

-- The numbers below n, from 0 on
unfoldable pub below : ℕ → List ℕ
below zero = []
below (suc n) = below n ++ (n ∷ [])

-- Its steps of uncertain quantity, in its order
unfoldable pub uncertain_steps : List ℕ → List UncertainStep
uncertain_steps b = map (λ i. uncertain_of (entry_at b i)) (below (entry_count b))

-- A list too long, or not a multiple of 16 bytes
unfoldable pub wrong_size : List ℕ → Bool
wrong_size b = ltb (entry_size * most_entries) (length b) || not (eqb (length b % entry_size) 0)

-- Entry i has a field out of range
unfoldable pub out_of_range : List ℕ → ℕ → Bool
out_of_range b i = not (entry_fits (entry_at b i))

-- 17: a list too long or not a multiple of 16 bytes, or a field out of range
unfoldable pub wrong_list : List ℕ → Bool
wrong_list b = wrong_size b || some_below (entry_count b) (out_of_range b)

-- The answer: refused with 17, or the least and greatest middle price over all quantities between
unfoldable pub range_of : List ℕ → Result PriceRange Refusal
range_of b =
    cond (wrong_list b) (Err WrongList)
    (Ok (record { least = least_price (uncertain_steps b); greatest = greatest_price (uncertain_steps b) }))
