-- AN HOUR'S EXECUTED QUANTITIES OUT OF COLUMNS: the amounts at its price, what each step gets before the leftover tenths are given, and those tenths.
-- These are the contracts of the functions of src. Definitions only. Assumes nothing.
use Rattle.std.specs.Prelude.{ℕ, ◌+◌, ◌-◌, ◌*◌, ◌/◌, ◌^◌, ◌≤◌, ◌<◌, Bool, true, false, List, map, ◌≡◌, get_or}
use Rattle.rules.specs.Orders.{Step}
use Rattle.rules.specs.Hour.{total}
use Rattle.rules.specs.Execution.{in_full, buying_at, selling_at, buy_amount, sell_amount, plus, sum_of, floors, shares, execution}
use Rattle.orders.specs.Columns.{side_for, steps_from}
use Rattle.pricing.specs.Curves.{hour_with}

-- A step by its side, price and quantity; its hour plays no part in what it gets.
abbrev pub step_for : ℕ → ℕ → ℕ → Step
step_for side price quantity = record { hour = 0; side = side_for side; price = price; quantity = quantity }

-- THE AMOUNTS at a price, and what the steps at it hold, whatever hour the columns are of.
pub record AmountsOf (sides prices quantities : List ℕ) (n price buys demand sells offer : ℕ) : Type 0 where
  pub for_buys : (h : ℕ) → buys ≡ buy_amount (hour_with h sides prices quantities n) price
  pub for_sells : (h : ℕ) → sells ≡ sell_amount (hour_with h sides prices quantities n) price
  pub held_by_buys : (h : ℕ) → demand ≡ total (buying_at price) (steps_from h sides prices quantities)
  pub held_by_sells : (h : ℕ) → offer ≡ total (selling_at price) (steps_from h sides prices quantities)

-- Amounts within what is held, and numbers that fit.
pub record AmountsFit (buys demand sells offer : ℕ) : Type 0 where
  pub buys_held : buys ≤ demand
  pub sells_held : sells ≤ offer
  pub demand_fits : demand < 2 ^ 31
  pub offer_fits : offer < 2 ^ 31

-- What a step of one side, the buys or else the sells, holds at the price.
abbrev pub holding : Bool → ℕ → Step → ℕ
holding true price s = buying_at price s
holding false price s = selling_at price s

-- The same of all steps of the columns.
unfoldable pub holdings : Bool → ℕ → (sides prices quantities : List ℕ) → List ℕ
holdings buys price sides prices quantities = map (holding buys price) (steps_from 0 sides prices quantities)

-- Amounts to be shared by the columns' steps: within what those at the price hold.
pub record AmountsHeld (sides prices quantities : List ℕ) (price buys demand sells offer : ℕ) : Type 0 where
  pub buys_held : buys ≤ demand
  pub sells_held : sells ≤ offer
  pub held_by_buys : demand ≡ sum_of (holdings true price sides prices quantities)
  pub held_by_sells : offer ≡ sum_of (holdings false price sides prices quantities)

-- BEFORE THE LEFTOVER TENTHS: what a step at the price has of its side's amount, rounded down ..
abbrev pub buy_floor : (price buys demand : ℕ) → Step → ℕ
buy_floor price buys demand s = buying_at price s * buys / demand

abbrev pub sell_floor : (price sells offer : ℕ) → Step → ℕ
sell_floor price sells offer s = selling_at price s * sells / offer

-- .. and what it gets: in full if strictly better.
abbrev pub first_share : (price buys demand sells offer : ℕ) → Step → ℕ
first_share price buys demand sells offer s = in_full price s + (buy_floor price buys demand s + sell_floor price sells offer s)

-- THE LEFTOVER TENTHS of an amount shared by steps that hold so much each.
pub record LeftOver (amount total left : ℕ) (owns : List ℕ) : Type 0 where
  pub held : amount ≤ total
  pub whole : total ≡ sum_of owns
  pub fits : total < 2 ^ 31
  pub is : left ≡ amount - sum_of (floors amount total owns)

-- Room for one more in each place, twice.
abbrev pub Room : List ℕ → Type 0
Room out = (i : ℕ) → get_or out i 0 ≤ 2 ^ 31

-- ALL: what steps get at a price, where so much is for the buys at it and so much for the sells.
unfoldable pub shared_out : ℕ → ℕ → ℕ → List Step → List ℕ
shared_out price buys sells l =
    plus (map (in_full price) l) (plus (shares buys (map (buying_at price) l)) (shares sells (map (selling_at price) l)))

abbrev pub SharedOut : List ℕ → List ℕ → List ℕ → ℕ → ℕ → ℕ → List ℕ → Type 0
SharedOut sides prices quantities price buys sells out = (h : ℕ) → out ≡ shared_out price buys sells (steps_from h sides prices quantities)

-- The executed quantities of an hour's columns at a price.
abbrev pub ExecutedOf : List ℕ → List ℕ → List ℕ → ℕ → ℕ → List ℕ → Type 0
ExecutedOf sides prices quantities n price out = (h : ℕ) → out ≡ execution (hour_with h sides prices quantities n) price
