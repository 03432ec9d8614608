-- THE WORKED DAYS HOLD, from the rules alone. Prices are put in by certificate, where each definition names them; what is left computes. Assumes nothing.
use Prim.Native.Nat.{ℕ}
use mathlib.Core.Bool.{Bool}
use mathlib.Core.Path.{◌≡◌, refl, ◌∙◌, fun_ext}
use mathlib.Core.List.{List, [], ◌∷◌, map}
use Rattle.rules.specs.Orders.{Block, Orders, executed_of}
use Rattle.rules.specs.Day.{Day, day_of, taken, hour_of, keeps_limits, lawful, executed, welfare, traded}
use Rattle.rules.specs.Outcome.{all_sets, best_of, outcome, for_hours, PublishedOutcome, published}
use Rattle.rules.specs.WorkedDays.{PriceFact, WorkedDay, worked_days, further_days, change_days, linked_days, shifted_days, Answered, Hold}
use Rattle.rules.specs.WorkedCash.{cash_cases}
use Rattle.rules.proofs.CertifiedHours.{tested, tested-is, clears-tested, price-tested, prices-tested, computed}

-- A VALUE THAT COMPUTES, with the proof that it is the one asked for
abbrev pub ValueOf : {A : Type 0} → A → Type 0
ValueOf {A} asked = (value : A) × (asked ≡ value)

-- Each definition with the tested prices in it. The value asked for has a name of its own, so that only its definition is rewritten.
lawful-as : (day : Day) (set : List Bool) (asked : Bool) → asked ≡ lawful day set → ValueOf asked
unfolding lawful keeps_limits
lawful-as day set asked e = (_, rw (lawful, keeps_limits, prices-tested, clears-tested) at e)

executed-as : (day : Day) (set : List Block) (asked : List ℕ) → asked ≡ executed day set → ValueOf asked
unfolding executed
executed-as day set asked e = (_, simp (executed, price-tested) at e)

traded-as : (day : Day) (set : List Block) (h asked : ℕ) → asked ≡ traded day set h → ValueOf asked
unfolding traded
traded-as day set h asked e = (_, rw (traded, price-tested) at e)

welfare-as : (day : Day) (set : List Bool) (asked : ℕ) → asked ≡ welfare day set → ValueOf asked
unfolding welfare
welfare-as day set asked e = (_, rw (welfare, (executed-as day (taken day.blocks set) _ refl).1) at e)

best-as : (day : Day) (l : List (List Bool)) (asked : List Bool) → asked ≡ best_of day l → ValueOf asked
unfolding best_of
best-as day [] asked e = (_, e)
best-as day (set ∷ l) asked e =
    let later = best-as day l _ refl in
    (_, rw (later.1, (lawful-as day set _ refl).1, (welfare-as day later.0 _ refl).1, (welfare-as day set _ refl).1) at e)

outcome-as : (day : Day) (asked : List Bool) → asked ≡ outcome day → ValueOf asked
unfolding outcome
outcome-as day asked e = best-as day _ asked e

-- what is published, once the outcome is known
published-as : (orders : Orders) (chosen : List Bool) → outcome (day_of orders) ≡ chosen →
    (asked : PublishedOutcome) → asked ≡ published orders → ValueOf asked
unfolding published
published-as orders chosen best asked e =
    let day = day_of orders in
    let set = taken day.blocks chosen in
    let trade = fun_ext (λ h. (traded-as day set h _ refl).1) in
    (_, rw (published, best, (welfare-as day chosen _ refl).1, prices-tested day set, trade, (executed-as day set _ refl).1) at e)

-- THE TABLE, as it computes
abbrev AnsweredTested : Orders → List PriceFact → Type 0
AnsweredTested orders [] = Unit {0}
AnsweredTested orders (f ∷ l) = (tested (hour_of (day_of orders) (taken (day_of orders).blocks f.set) f.hour) ≡ f.answer) × AnsweredTested orders l

abbrev HoldTested : List WorkedDay → Type 0
HoldTested [] = Unit {0}
HoldTested (d ∷ l) =
    (same : (outcome-as (day_of d.orders) _ refl).0 ≡ d.publishes.chosen)
    × ((published-as d.orders d.publishes.chosen ((outcome-as (day_of d.orders) _ refl).1 ∙ same) _ refl).0 ≡ d.publishes)
    × AnsweredTested d.orders d.prices × HoldTested l

answered : (orders : Orders) (l : List PriceFact) → AnsweredTested orders l → Answered orders l
answered orders [] h = tt
answered orders (f ∷ l) h = (tested-is _ ∙ h.0, answered orders l h.1)

hold : (l : List WorkedDay) → HoldTested l → Hold l
hold [] h = tt
hold (d ∷ l) h = ((published-as d.orders _ _ _ refl).1 ∙ h.1, answered d.orders d.prices h.2, hold l h.3)

-- all that a row computes through
unfoldable rows_compute : Unit {0}
unfolding computed executed_of all_sets for_hours lawful-as executed-as traded-as welfare-as best-as outcome-as published-as
rows_compute = tt

-- S1 TO S10
pub worked-days-hold : Hold worked_days
unfolding rows_compute worked_days
worked-days-hold =
    hold worked_days (
      refl,
      refl,
      tt,
      (
        refl,
        refl,
        (refl, (refl, (refl, (refl, tt)))),
        (
          refl,
          refl,
          tt,
          (
            refl,
            refl,
            tt,
            (
              refl,
              refl,
              tt,
              (refl, refl, (refl, (refl, tt)), (refl, refl, tt, (refl, refl, tt, (refl, refl, tt, (refl, refl, tt, tt))))),
            ),
          ),
        ),
      ),
    )

-- THE FURTHER DAYS
pub further-days-hold : Hold further_days
unfolding rows_compute further_days
further-days-hold =
    hold further_days (
      refl,
      refl,
      (refl, (refl, tt)),
      (
        refl,
        refl,
        (refl, (refl, tt)),
        (
          refl,
          refl,
          (refl, tt),
          (refl, refl, (refl, (refl, (refl, tt))), (refl, refl, tt, (refl, refl, (refl, (refl, (refl, tt))), tt))),
        ),
      ),
    )

-- THE DAYS OF 23 AND 25 HOURS
pub change-days-hold : Hold change_days
unfolding rows_compute change_days
change-days-hold =
    hold change_days (refl, refl, tt, (refl, refl, tt, (refl, refl, tt, (refl, refl, tt, tt))))

-- THE DAYS WITH LINKED BLOCKS
pub linked-days-hold : Hold linked_days
unfolding rows_compute linked_days
linked-days-hold =
    hold linked_days (
      refl,
      refl,
      (refl, (refl, tt)),
      (refl, refl, (refl, tt), (refl, refl, (refl, tt), (refl, refl, tt, (refl, refl, tt, tt)))),
    )

-- THE DAYS WHOSE PRICES CAN GIVE WAY
pub shifted-days-hold : Hold shifted_days
unfolding rows_compute shifted_days
shifted-days-hold =
    hold shifted_days (
      refl,
      refl,
      (refl, tt),
      (
        refl,
        refl,
        (refl, tt),
        (refl, refl, (refl, tt), (refl, refl, (refl, tt), (refl, refl, (refl, tt), (refl, refl, tt, (refl, refl, (refl, tt), tt))))),
      ),
    )

-- THE DAYS OF THE WORKED CASH SHEETS
pub cash-days-hold : Hold (map (λ c. c.day) cash_cases)
unfolding rows_compute cash_cases
cash-days-hold =
    hold (map (λ c. c.day) cash_cases) (
      refl,
      refl,
      tt,
      (
        refl,
        refl,
        tt,
        (refl, refl, tt, (refl, refl, tt, (refl, refl, (refl, (refl, tt)), (refl, refl, tt, (refl, refl, tt, tt))))),
      ),
    )
