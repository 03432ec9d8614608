-- THE AUCTION UNDER ANY SHARING RULE: what is executed and published, with the rule as an argument; under `shares` it is what the auction publishes
-- (law published-by-shares). It is here to say what a change of the rule moves and what not. Definitions only. Assumes nothing.
use Rattle.std.specs.Prelude.{ℕ, ◌+◌, ◌-◌, ◌≤◌, Bool, false, cond, ◌&&◌, List, [], ◌∷◌, map, ◌≡◌, leb, length, replicate}
use Rattle.rules.specs.Orders.{Step, Block, Orders, canonical, executed_of}
use Rattle.rules.specs.Hour.{Hour, when}
use Rattle.rules.specs.Execution.{in_full, buying_at, selling_at, buy_amount, sell_amount, plus, sum_of, bought}
use Rattle.rules.specs.Day.{
  Day,
  day_of,
  is_counted,
  steps_in,
  taken,
  over_blocks,
  buys,
  hour_of,
  set_prices,
  lawful,
  day_value,
  day_cost,
  in_step_order,
}
use Rattle.rules.specs.Outcome.{all_sets, for_hours, PublishedOutcome}

-- A sharing rule: what each step gets of an amount, by what the steps hold.
abbrev pub SharingRule : Type 0
SharingRule = ℕ → List ℕ → List ℕ

-- As many shares as steps, and none above what its step holds.
abbrev pub AtMost : List ℕ → List ℕ → Type 0
AtMost [] [] = Unit {0}
AtMost [] (q ∷ qs) = ⊥
AtMost (own ∷ l) [] = ⊥
AtMost (own ∷ l) (q ∷ qs) = (q ≤ own) × AtMost l qs

-- The two laws that all else knows a sharing rule by: a share is at most the step's own quantity, and the shares add up to the amount.
pub record TwoLaws (rule : SharingRule) : Type 0 where
  pub within : (amount : ℕ) (owns : List ℕ) → amount ≤ sum_of owns → AtMost owns (rule amount owns)
  pub sum : (amount : ℕ) (owns : List ℕ) → amount ≤ sum_of owns → sum_of (rule amount owns) ≡ amount

-- What each step of the hour gets at a price: see `execution`.
unfoldable pub execution_by : SharingRule → Hour → ℕ → List ℕ
execution_by rule h p =
    plus (map (in_full p) h.steps)
    (plus (rule (buy_amount h p) (map (buying_at p) h.steps)) (rule (sell_amount h p) (map (selling_at p) h.steps)))

-- The executed quantity of each step under a set: see `executed`.
unfoldable pub executed_by : SharingRule → Day → List Block → List ℕ
executed_by rule day set = in_step_order (λ h. execution_by rule (hour_of day set h) (set_prices day set h)) day.steps

-- The welfare of a set: see `welfare`.
unfoldable pub welfare_by : SharingRule → Day → List Bool → ℕ
welfare_by rule day set =
    day_value day (taken day.blocks set) (executed_by rule day (taken day.blocks set))
    - day_cost day (taken day.blocks set) (executed_by rule day (taken day.blocks set))

-- The traded quantity of an hour: see `traded`.
unfoldable pub traded_by : SharingRule → Day → List Block → ℕ → ℕ
traded_by rule day set h =
    bought (steps_in h day.steps) (execution_by rule (hour_of day set h) (set_prices day set h)) + over_blocks (buys h) set

-- The best of the listed sets: see `best_of`.
unfoldable pub best_by : SharingRule → Day → List (List Bool) → List Bool
best_by rule day [] = replicate (length day.blocks) false
best_by rule day (set ∷ l) =
    let later = best_by rule day l in
    cond (lawful day set && leb (welfare_by rule day later) (welfare_by rule day set)) set later

-- The published set of blocks: see `outcome`.
unfoldable pub outcome_by : SharingRule → Day → List Bool
outcome_by rule day = best_by rule day (all_sets (length day.blocks))

-- What is published of a book's orders: see `published`.
unfoldable pub published_by : SharingRule → Orders → PublishedOutcome
published_by rule orders =
    let day = day_of orders in
    let set = taken day.blocks (outcome_by rule day) in
    record {
      welfare = welfare_by rule day (outcome_by rule day);
      prices = for_hours 24 (λ h. when (is_counted day.hours h) (set_prices day set h));
      traded = for_hours 24 (λ h. when (is_counted day.hours h) (traded_by rule day set h));
      chosen = outcome_by rule day;
      executed = executed_of (canonical orders).steps (executed_by rule day set);
    }

-- Two published outcomes alike in welfare, prices, traded quantities and taken blocks.
pub record AlikeButExecuted (one other : PublishedOutcome) : Type 0 where
  pub welfare : one.welfare ≡ other.welfare
  pub prices : one.prices ≡ other.prices
  pub traded : one.traded ≡ other.traded
  pub chosen : one.chosen ≡ other.chosen

-- Two choices of quantities that are alike for every step whose price is not its hour's.
abbrev pub AlikeApart : (ℕ → ℕ) → List Step → List ℕ → List ℕ → Type 0
AlikeApart price [] qs qs' = Unit {0}
AlikeApart price (s ∷ l) [] qs' = ⊥
AlikeApart price (s ∷ l) (q ∷ qs) [] = ⊥
AlikeApart price (s ∷ l) (q ∷ qs) (q' ∷ qs') = (¬ (s.price ≡ price s.hour) → q ≡ q') × AlikeApart price l qs qs'
