-- THE WORKED CASH SHEETS HOLD, from the rules alone, S5's of document 02 first. What is published is put in as it computes; what is left computes.
-- Assumes nothing. (The laws of cash import it, so that a wrong rule is met here first.)
use mathlib.Core.Path.{◌≡◌, refl, ◌∙◌}
use mathlib.Core.List.{List, [], ◌∷◌, map}
use Rattle.rules.specs.Orders.{Orders, canonical}
use Rattle.rules.specs.Day.{weight, is_counted, each_on_day, day_of, sum_to, day_sum}
use Rattle.rules.specs.Outcome.{PublishedOutcome, published}
use Rattle.rules.specs.WorkedDays.{Hold}
use Rattle.rules.specs.Cash.{
  traded_by,
  cash_by,
  cash_of,
  owned_by,
  line_of,
  lines_to,
  executed_steps,
  executed_blocks,
  executed_orders,
  published_price,
  CashSheet,
  cash_sheet,
}
use Rattle.rules.specs.WorkedCash.{CashCase, cash_cases, SheetsHold}
use Rattle.rules.proofs.WorkedDayLaws.{ValueOf, cash-days-hold}

-- the sheet with what is published in it, with the proof that it is the one asked for
sheet-as : (orders : Orders) (outcome : PublishedOutcome) → published orders ≡ outcome → (asked : CashSheet) → asked ≡ cash_sheet orders → ValueOf asked
unfolding cash_sheet executed_orders published_price
sheet-as orders outcome same asked e = (_, simp (cash_sheet, executed_orders, published_price, same) at e)

-- THE TABLE, as it computes: the sheet of each day, once what is published of it is known
abbrev SheetsTested : List CashCase → Type 0
SheetsTested [] = Unit {0}
SheetsTested (c ∷ l) =
    ((same : published c.day.orders ≡ c.day.publishes) → (sheet-as c.day.orders c.day.publishes same _ refl).0 ≡ c.sheet) × SheetsTested l

sheets-hold : (l : List CashCase) → Hold (map (λ c. c.day) l) → SheetsTested l → SheetsHold l
sheets-hold [] days sheets = tt
sheets-hold (c ∷ l) days sheets =
    ((sheet-as c.day.orders c.day.publishes days.0 _ refl).1 ∙ sheets.0 days.0, sheets-hold l days.2 sheets.1)

pub cash-sheets-hold : SheetsHold cash_cases
unfolding cash_cases day_of each_on_day canonical weight is_counted sum_to day_sum traded_by cash_by cash_of owned_by line_of lines_to executed_steps executed_blocks sheet-as
cash-sheets-hold =
    sheets-hold cash_cases cash-days-hold
    (λ same. refl, (λ same. refl, (λ same. refl, (λ same. refl, (λ same. refl, (λ same. refl, (λ same. refl, tt)))))))
