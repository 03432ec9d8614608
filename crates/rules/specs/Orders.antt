-- THE ORDERS of a delivery day (document 01, "The auction in brief", "The book in bytes"). Definitions only. Assumes nothing.
-- Prices are whole cents per MWh, quantities whole tenths of a MW, hours 1 to 24.
use Rattle.std.specs.Prelude.{ℕ, Bool, cond, List, [], ◌∷◌, leb}

pub data Side : Type 0 where
  buy sell : Side

-- A step: in its hour up to its quantity, at its price or better.
pub record Step : Type 0 where
  pub hour : ℕ
  pub side : Side
  pub price : ℕ
  pub quantity : ℕ

-- An order of the step chain, of a member's portfolio. Today it is one step.
pub record Order : Type 0 where
  pub number : ℕ
  pub portfolio : ℕ
  pub step : Step

-- A block, of a member's portfolio: its quantity in every hour that it runs in, or nothing at all.
pub record Block : Type 0 where
  pub number : ℕ
  pub portfolio : ℕ
  pub side : Side
  pub price : ℕ
  pub quantity : ℕ
  pub runs : ℕ → Bool

-- A link between blocks: the one numbered child may be taken only with the one numbered parent.
pub record Link : Type 0 where
  pub child : ℕ
  pub parent : ℕ

-- What a book says: the edition it follows, how many hours the day has, the orders of the step chain, the blocks, the links.
pub record Orders : Type 0 where
  pub edition : ℕ
  pub hours : ℕ
  pub steps : List Order
  pub blocks : List Block
  pub links : List Link

-- The highest portfolio; the lowest is 1.
abbrev pub max_portfolio : ℕ
max_portfolio = 255

-- The highest price; the lowest is 1.
abbrev pub max_price : ℕ
max_price = 300000

-- The limits on blocks.
pub record Limits : Type 0 where
  pub block_quantity : ℕ
  pub blocks_of_portfolio : ℕ

-- The limits of an edition: a block's largest quantity, and how many blocks a portfolio may have. Edition 2 follows the notice of 2012, and later ones
-- have all of it.
unfoldable pub limits : ℕ → Limits
limits edition =
    cond (leb edition 1) (record { block_quantity = 50; blocks_of_portfolio = 5 }) (record { block_quantity = 250; blocks_of_portfolio = 10 })

-- The largest quantity of a block in any edition.
abbrev pub most_block_quantity : ℕ
most_block_quantity = 250

-- The steps that the orders of the step chain stand for. Today each order is its one step.
unfoldable pub steps_of : List Order → List Step
steps_of [] = []
steps_of (o ∷ l) = o.step ∷ steps_of l

-- The orders by rising number. Numbers rise along a chain (refusal 3), so today that is the chain's own order.
unfoldable pub canonical : Orders → Orders
canonical orders = orders

-- The executed quantity of each order of the step chain, out of its steps' quantities. Today each order is its one step.
unfoldable pub executed_of : List Order → List ℕ → List ℕ
executed_of orders quantities = quantities
