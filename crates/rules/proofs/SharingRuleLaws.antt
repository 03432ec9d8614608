-- WHAT A CHANGE OF THE SHARING RULE MOVES: for the same orders two rules that keep the two laws publish the same welfare, prices, traded quantities
-- and taken blocks, and execute every step that is not at its hour's price alike. Assumes nothing.
use Prim.Native.Nat.{ℕ, ◌+◌, ◌-◌, ◌*◌, ◌≤◌, ◌<◌, min}
use mathlib.Core.Bool.{Bool, cond, ◌&&◌}
use mathlib.Core.Path.{◌≡◌, refl, sym, ap, ◌∙◌, fun_ext}
use mathlib.Core.List.{List, [], ◌∷◌, map}
use native.Mathlib.Omega.{arith}
use native.Mathlib.Nat.{lt_of_not-le}
use native.Mathlib.Decide.{dec_le}
use lib.Dec.{ltb, leb, eqb}
use lib.ListN.{length}
use Rattle.rules.specs.Orders.{Side, buy, sell, Step, Block, Orders}
use Rattle.rules.specs.Hour.{Hour, by_side, when, buys_above}
use Rattle.rules.specs.Execution.{in_full, buying_at, selling_at, buy_amount, sell_amount, plus, sum_of, shares, fill_in_turn, execution, bought}
use Rattle.rules.specs.Day.{
  Day,
  day_of,
  day_sum,
  steps_in,
  taken,
  hour_of,
  set_prices,
  lawful,
  steps_value,
  steps_cost,
  day_value,
  day_cost,
  executed,
  welfare,
  traded,
}
use Rattle.rules.specs.Outcome.{all_sets, best_of, outcome, for_hours, published}
use Rattle.rules.specs.Contender.{Each, Within, HoursInRange, quantities_in}
use Rattle.rules.specs.SharingRules.{
  SharingRule,
  AtMost,
  TwoLaws,
  execution_by,
  executed_by,
  welfare_by,
  traded_by,
  best_by,
  outcome_by,
  published_by,
  AlikeButExecuted,
  AlikeApart,
}
use Rattle.rules.proofs.Tests.{by-eq}
use Rattle.rules.proofs.CurveLaws.{when-zero}
use Rattle.rules.proofs.HourSums.{day_sum-same}
use Rattle.rules.proofs.ChainLaws.{each-in-order, quantities-in-order, over-hours}
use Rattle.rules.proofs.ShareLaws.{shares-within}
use Rattle.rules.proofs.CutLaws.{shares_sum}
use Rattle.rules.proofs.ExecutionLaws.{
  Beyond,
  Follows,
  sum-map,
  shared-bought,
  shared-follows,
  follows-within,
  buy_amount-held,
  sell_amount-held,
}
use Rattle.rules.proofs.DualityLaws.{value, cost}
use Rattle.rules.proofs.OutcomeRulesLaws.{FollowsHour, follows-hour}

-- THE TWO RULES keep the two laws
pub shares-keep : TwoLaws shares
shares-keep = record { within = shares-within; sum = shares_sum }

in-turn-within : (amount : ℕ) (owns : List ℕ) → AtMost owns (fill_in_turn amount owns)
unfolding fill_in_turn
in-turn-within amount [] = tt
in-turn-within amount (own ∷ l) = (omega arith, in-turn-within (amount - own) l)

in-turn-sum : (amount : ℕ) (owns : List ℕ) → amount ≤ sum_of owns → sum_of (fill_in_turn amount owns) ≡ amount
unfolding fill_in_turn
in-turn-sum amount [] h = omega arith
in-turn-sum amount (own ∷ l) h = omega (arith, in-turn-sum (amount - own) l (omega arith))

pub in-turn-keeps : TwoLaws fill_in_turn
in-turn-keeps = record { within = λ amount owns h. in-turn-within amount owns; sum = in-turn-sum }

-- the former rule gave no more than the steps hold, whatever the amount: it did without the `min` of `sell_amount`
pub in-turn-capped : (amount : ℕ) (owns : List ℕ) → fill_in_turn (min (sum_of owns) amount) owns ≡ fill_in_turn amount owns
unfolding fill_in_turn
in-turn-capped amount [] = refl
in-turn-capped amount (own ∷ l) =
    let first : min own (min (own + sum_of l) amount) ≡ min own amount = omega arith in
    let rest : min (own + sum_of l) amount - own ≡ min (sum_of l) (amount - own) = omega arith in
    rw (first, rest, in-turn-capped (amount - own) l)

-- UNDER `shares` it is what the auction publishes
executed-by-shares : (day : Day) (set : List Block) → executed_by shares day set ≡ executed day set
unfolding executed_by executed execution_by execution
executed-by-shares day set = refl

best-by-shares : (day : Day) (l : List (List Bool)) → best_by shares day l ≡ best_of day l
unfolding best_by best_of welfare_by welfare executed_by executed execution_by execution
best-by-shares day [] = refl
best-by-shares day (set ∷ l) = rw (best-by-shares day l)

pub published-by-shares : (orders : Orders) → published_by shares orders ≡ published orders
unfolding published_by published outcome_by outcome welfare_by welfare traded_by traded executed_by executed execution_by execution
published-by-shares orders = rw (best-by-shares (day_of orders) (all_sets (length (day_of orders).blocks)))

-- ONE STEP, where the buys at the price share out b to it and the sells s: what is shared is worth the price
module _ (p x q f b s : ℕ) where
  worth : (one none : ℕ) → none ≡ 0 → one ≤ when (eqb x p) q → (f + (one + none)) * x ≡ f * x + p * one
  worth one none z =
      by-eq (λ t. one ≤ when t q → (f + (one + none)) * x ≡ f * x + p * one) x p
      (λ e k. rw (z, e) (omega arith))
      (λ e k. let y : one ≡ 0 = omega arith in rw (z, y) (omega arith))

  step_value : (side : Side) → b ≤ when (eqb x p) (by_side side q 0) → s ≤ when (eqb x p) (by_side side 0 q) →
      by_side side ((f + (b + s)) * x) 0 ≡ by_side side (f * x) 0 + p * b
  step_value buy hb hs = worth b s (omega (arith, when-zero (eqb x p))) hb
  step_value sell hb hs = let z : b ≡ 0 = omega (arith, when-zero (eqb x p)) in rw z (omega arith)

  step-cost : (side : Side) → b ≤ when (eqb x p) (by_side side q 0) → s ≤ when (eqb x p) (by_side side 0 q) →
      by_side side 0 ((f + (b + s)) * x) ≡ by_side side 0 (f * x) + p * s
  step-cost buy hb hs = let z : s ≡ 0 = omega (arith, when-zero (eqb x p)) in rw z (omega arith)
  step-cost sell hb hs = omega (arith, worth s b (omega (arith, when-zero (eqb x p))) hs)

-- ALL STEPS of an hour
module _ (p : ℕ) where
  shared_value : (l : List Step) (bs ss : List ℕ) → AtMost (map (buying_at p) l) bs → AtMost (map (selling_at p) l) ss →
      value l (plus (map (in_full p) l) (plus bs ss)) ≡ value l (map (in_full p) l) + p * sum_of bs
  unfolding value
  shared_value [] [] [] hb hs = omega arith
  shared_value (o ∷ l) (b ∷ bs) (s ∷ ss) hb hs =
      omega (
        arith,
        step_value p o.price o.quantity (in_full p o) b s o.side hb.0 hs.0,
        shared_value l bs ss hb.1 hs.1,
      )
  shared_value [] [] (s ∷ ss) hb hs = elim hs [ ]
  shared_value [] (b ∷ bs) ss hb hs = elim hb [ ]
  shared_value (o ∷ l) [] ss hb hs = elim hb [ ]
  shared_value (o ∷ l) (b ∷ bs) [] hb hs = elim hs [ ]

  shared-cost : (l : List Step) (bs ss : List ℕ) → AtMost (map (buying_at p) l) bs → AtMost (map (selling_at p) l) ss →
      cost l (plus (map (in_full p) l) (plus bs ss)) ≡ cost l (map (in_full p) l) + p * sum_of ss
  unfolding cost
  shared-cost [] [] [] hb hs = omega arith
  shared-cost (o ∷ l) (b ∷ bs) (s ∷ ss) hb hs =
      omega (
        arith,
        step-cost p o.price o.quantity (in_full p o) b s o.side hb.0 hs.0,
        shared-cost l bs ss hb.1 hs.1,
      )
  shared-cost [] [] (s ∷ ss) hb hs = elim hs [ ]
  shared-cost [] (b ∷ bs) ss hb hs = elim hb [ ]
  shared-cost (o ∷ l) [] ss hb hs = elim hb [ ]
  shared-cost (o ∷ l) (b ∷ bs) [] hb hs = elim hs [ ]

-- AN HOUR under a rule that keeps the laws, at any price
module _ (rule : SharingRule) (keeps : TwoLaws rule) (h : Hour) (p : ℕ) where
  buys-fit : buy_amount h p ≤ sum_of (map (buying_at p) h.steps)
  buys-fit = rw sum-map (buy_amount-held h p)

  sells-fit : sell_amount h p ≤ sum_of (map (selling_at p) h.steps)
  sells-fit = rw sum-map (sell_amount-held h p)

  within_b : AtMost (map (buying_at p) h.steps) (rule (buy_amount h p) (map (buying_at p) h.steps))
  within_b = keeps.within (buy_amount h p) (map (buying_at p) h.steps) buys-fit

  within-s : AtMost (map (selling_at p) h.steps) (rule (sell_amount h p) (map (selling_at p) h.steps))
  within-s = keeps.within (sell_amount h p) (map (selling_at p) h.steps) sells-fit

  -- each step follows the price
  pub execution_by-follows : Each (Follows p) h.steps (execution_by rule h p)
  unfolding execution_by
  execution_by-follows = shared-follows p h.steps _ _ within_b within-s

  execution_by-within : Each Within h.steps (execution_by rule h p)
  execution_by-within = follows-within p h.steps _ execution_by-follows

  -- bought, value and cost are given by the amounts
  execution_by-bought : bought h.steps (execution_by rule h p) ≡ buys_above p h.steps + buy_amount h p
  unfolding execution_by
  execution_by-bought = shared-bought p h.steps _ _ within_b within-s ∙ rw (keeps.sum (buy_amount h p) (map (buying_at p) h.steps) buys-fit)

  execution_by-value : value h.steps (execution_by rule h p) ≡ value h.steps (map (in_full p) h.steps) + p * buy_amount h p
  unfolding execution_by
  execution_by-value = shared_value p h.steps _ _ within_b within-s ∙ rw (keeps.sum (buy_amount h p) (map (buying_at p) h.steps) buys-fit)

  execution_by-cost : cost h.steps (execution_by rule h p) ≡ cost h.steps (map (in_full p) h.steps) + p * sell_amount h p
  unfolding execution_by
  execution_by-cost = shared-cost p h.steps _ _ within_b within-s ∙ rw (keeps.sum (sell_amount h p) (map (selling_at p) h.steps) sells-fit)

-- THE DAY
module _ (rule : SharingRule) (keeps : TwoLaws rule) (day : Day) where
  executed_by-in : (set : List Block) (h : ℕ) →
      quantities_in h day.steps (executed_by rule day set) ≡ execution_by rule (hour_of day set h) (set_prices day set h)
  unfolding executed_by
  executed_by-in set h =
      quantities-in-order Within day.steps _ (λ k. execution_by-within rule keeps (hour_of day set k) (set_prices day set k)) h

  pub executed_by-follows : (set : List Block) → Each (FollowsHour (set_prices day set)) day.steps (executed_by rule day set)
  unfolding executed_by
  executed_by-follows set =
      each-in-order (FollowsHour (set_prices day set)) day.steps _
      (λ h. follows-hour (set_prices day set) h day.steps _ (execution_by-follows rule keeps (hour_of day set h) (set_prices day set h)))

-- two quantities that follow a price which is not the step's own are alike
by_order : (x p : ℕ) {A : Type 0} → ¬ (x ≡ p) → (x < p → A) → (p < x → A) → A
by_order x p apart lower higher = elim (dec_le x p) [
  | yes l ↦ elim (dec_le p x) [ yes m ↦ absurd (apart (omega arith)) | no m ↦ lower (lt_of_not-le m) ]
  | no l ↦ higher (lt_of_not-le l)
]

settled : (side : Side) (p x own q q' : ℕ) → ¬ (x ≡ p) → (Beyond side p x → q ≡ own) → (Beyond side x p → q ≡ 0) →
    (Beyond side p x → q' ≡ own) → (Beyond side x p → q' ≡ 0) → q ≡ q'
settled buy p x own q q' apart full none full' none' = by_order x p apart (λ l. none l ∙ sym (none' l)) (λ l. full l ∙ sym (full' l))
settled sell p x own q q' apart full none full' none' = by_order x p apart (λ l. full l ∙ sym (full' l)) (λ l. none l ∙ sym (none' l))

step-alike : (p : ℕ) (s : Step) (q q' : ℕ) → Follows p s q → Follows p s q' → ¬ (s.price ≡ p) → q ≡ q'
step-alike p s q q' f f' apart =
    settled s.side p s.price s.quantity q q' apart f.full f.nothing f'.full f'.nothing

-- TWO RULES that keep the laws
module _ (one other : SharingRule) (k : TwoLaws one) (k' : TwoLaws other) where
  -- what is traded in an hour
  traded-alike : (day : Day) (set : List Block) (h : ℕ) → traded_by one day set h ≡ traded_by other day set h
  unfolding traded_by
  traded-alike day set h =
      let hour = hour_of day set h in
      let p = set_prices day set h in
      rw (execution_by-bought one k hour p, execution_by-bought other k' hour p)

  -- every step that is not at the price
  alike-apart : (price : ℕ → ℕ) (l : List Step) (qs qs' : List ℕ) → Each (FollowsHour price) l qs → Each (FollowsHour price) l qs' →
      AlikeApart price l qs qs'
  alike-apart price [] [] [] f f' = tt
  alike-apart price (s ∷ l) (q ∷ qs) (q' ∷ qs') f f' =
      ((λ apart. step-alike (price s.hour) s q q' f.0 f'.0 apart), alike-apart price l qs qs' f.1 f'.1)
  alike-apart price [] [] (q' ∷ qs') f f' = elim f' [ ]
  alike-apart price [] (q ∷ qs) _ f f' = elim f [ ]
  alike-apart price (s ∷ l) [] _ f f' = elim f [ ]
  alike-apart price (s ∷ l) (q ∷ qs) [] f f' = elim f' [ ]

  pub executed-alike : (day : Day) (set : List Block) →
      AlikeApart (set_prices day set) day.steps (executed_by one day set) (executed_by other day set)
  executed-alike day set =
      alike-apart (set_prices day set) day.steps _ _ (executed_by-follows one k day set) (executed_by-follows other k' day set)

  module _ (day : Day) (hours : HoursInRange day.steps) where
    value-alike : (set : List Block) → day_value day set (executed_by one day set) ≡ day_value day set (executed_by other day set)
    unfolding day_value steps_value value
    value-alike set =
        let f : Step → ℕ → ℕ = λ s q. by_side s.side (q * s.price) 0 in
        rw (
          over-hours f day.hours day.steps (executed_by one day set) hours,
          over-hours f day.hours day.steps (executed_by other day set) hours,
          day_sum-same day.hours _ _ (λ h. ap (value (steps_in h day.steps)) (executed_by-in one k day set h)
              ∙ execution_by-value one k (hour_of day set h) (set_prices day set h)
              ∙ sym (execution_by-value other k' (hour_of day set h) (set_prices day set h))
              ∙ sym (ap (value (steps_in h day.steps)) (executed_by-in other k' day set h))),
        )

    cost-alike : (set : List Block) → day_cost day set (executed_by one day set) ≡ day_cost day set (executed_by other day set)
    unfolding day_cost steps_cost cost
    cost-alike set =
        let f : Step → ℕ → ℕ = λ s q. by_side s.side 0 (q * s.price) in
        rw (
          over-hours f day.hours day.steps (executed_by one day set) hours,
          over-hours f day.hours day.steps (executed_by other day set) hours,
          day_sum-same day.hours _ _ (λ h. ap (cost (steps_in h day.steps)) (executed_by-in one k day set h)
              ∙ execution_by-cost one k (hour_of day set h) (set_prices day set h)
              ∙ sym (execution_by-cost other k' (hour_of day set h) (set_prices day set h))
              ∙ sym (ap (cost (steps_in h day.steps)) (executed_by-in other k' day set h))),
        )

    -- the welfare of every set, lawful or not
    pub welfare-alike : (set : List Bool) → welfare_by one day set ≡ welfare_by other day set
    unfolding welfare_by
    welfare-alike set = rw (value-alike (taken day.blocks set), cost-alike (taken day.blocks set))

    best-alike : (l : List (List Bool)) → best_by one day l ≡ best_by other day l
    unfolding best_by
    best-alike [] = refl
    best-alike (set ∷ l) = rw (best-alike l, welfare-alike set, welfare-alike (best_by other day l))

    pub outcome-alike : outcome_by one day ≡ outcome_by other day
    unfolding outcome_by
    outcome-alike = best-alike (all_sets (length day.blocks))

  -- THE THEOREM, of any two rules
  pub published-alike : (orders : Orders) → HoursInRange (day_of orders).steps → AlikeButExecuted (published_by one orders) (published_by other orders)
  unfolding published_by
  published-alike orders hours =
      let day = day_of orders in
      let same = outcome-alike day hours in
      record {
        welfare = rw (same, welfare-alike day hours (outcome_by other day));
        prices = rw same;
        traded = rw same (ap (for_hours 24) (fun_ext (λ h. rw (traded-alike day (taken day.blocks (outcome_by other day)) h))));
        chosen = same;
      }

-- P5: THE FORMER RULE AND THE NEW ONE publish the same welfare, prices, traded quantities and taken blocks of the same orders ..
pub shares-move-no-outcome : (orders : Orders) → HoursInRange (day_of orders).steps → AlikeButExecuted (published orders) (published_by fill_in_turn orders)
shares-move-no-outcome orders hours =
    rw (← (published-by-shares orders)) (published-alike shares fill_in_turn shares-keep in-turn-keeps orders hours)

-- .. and under every set execute each step alike that is not at its hour's price
pub shares-move-at-price : (day : Day) (set : List Block) → AlikeApart (set_prices day set) day.steps (executed day set) (executed_by fill_in_turn day set)
shares-move-at-price day set =
    rw (← (executed-by-shares day set)) (executed-alike shares fill_in_turn shares-keep in-turn-keeps day set)
