-- THE BRIDGE from a book's bytes to the rules: its orders and links as the auction's rules see them (document 01, "The book in bytes"; document 02, P6).
-- Definitions only. Assumes nothing.
use Rattle.std.specs.Prelude.{ℕ, List, map}
use Rattle.records.specs.Records.{edition, day_hours, step_at, block_at, link_at, holds_hour}
use Rattle.chains.specs.Chains.{step_order, block_order, link_order}
use Rattle.records.specs.declared.Side as read
use Rattle.records.specs.declared.Side.TheVariants as read-side
use Rattle.rules.specs.Orders.{Side, buy, sell, Step, Order, Block, Link, Orders}
use Rattle.rules.specs.Day.{Day, on_day, day_of}

-- Buy or sell.
abbrev pub side_from : read.Side → Side
side_from read-side.Buy = buy
side_from read-side.Sell = sell

-- Record k as a step of the rules.
unfoldable pub step_from : List ℕ → ℕ → Step
step_from b k =
    record {
      hour = (step_at b k).hour;
      side = side_from (step_at b k).side;
      price = (step_at b k).price;
      quantity = (step_at b k).quantity;
    }

-- Record k as an order of the step chain.
unfoldable pub order_from : List ℕ → ℕ → Order
order_from b k = record { number = (step_at b k).number; portfolio = (step_at b k).portfolio; step = step_from b k }

-- Record k as a block of the rules: hour h is among its hours where bit h − 1 is set.
unfoldable pub block_from : List ℕ → ℕ → Block
block_from b k =
    record {
      number = (block_at b k).number;
      portfolio = (block_at b k).portfolio;
      side = side_from (block_at b k).side;
      price = (block_at b k).price;
      quantity = (block_at b k).quantity;
      runs = holds_hour (block_at b k).hours;
    }

-- The same on the book's day: it runs in those of its hours that count.
abbrev pub block_on : List ℕ → ℕ → Block
block_on b k = on_day (day_hours b) (block_from b k)

-- Record k as a link of the rules.
unfoldable pub link_from : List ℕ → ℕ → Link
link_from b k = record { child = (link_at b k).child; parent = (link_at b k).parent }

-- The orders of a book: its edition and hours, and the steps, the blocks and the links, each in their order.
unfoldable pub orders_of : List ℕ → Orders
orders_of b =
    record {
      edition = edition b;
      hours = day_hours b;
      steps = map (order_from b) (step_order b);
      blocks = map (block_from b) (block_order b);
      links = map (link_from b) (link_order b);
    }

-- The day that a book makes.
unfoldable pub day_from : List ℕ → Day
day_from b = day_of (orders_of b)
