-- DEMAND 2: the outcome with its prices, traded quantities and executed quantities obeys the outcome rules of source document 003. The prices and
-- traded quantities need agree with those of the outcome in the hours that count only, where each step is for such an hour. Assumes nothing.
use Prim.Native.Nat.{ℕ, ◌*◌, ◌≤◌}
use mathlib.Core.Bool.{true}
use mathlib.Core.Path.{◌≡◌, refl, sym, subst, ◌∙◌}
use mathlib.Core.List.{List, [], ◌∷◌}
use native.Mathlib.Omega.{arith}
use lib.Dec.{leb}
use borrow.Author.Tests.{leb-true}
use Rattle.rules.specs.Orders.{Side, buy, sell, Step, Block}
use Rattle.rules.specs.Execution.{test_side}
use Rattle.rules.specs.Day.{
  Day,
  keep,
  steps_in,
  taken,
  hour_of,
  hour_clears,
  set_prices,
  hour_count,
  price_sum,
  keeps_limit,
  every_block,
  keeps_limits,
  executed,
  traded,
}
use Rattle.rules.specs.Outcome.{outcome}
use Rattle.rules.specs.Contender.{Each, Counts, PricesInRange, HoursInRange}
use Rattle.rules.specs.OutcomeRules.{EachBlock, OutcomeRules}
use Rattle.rules.proofs.Tests.{by-eq, both}
use Rattle.rules.proofs.OutcomeRulesCases
use Rattle.rules.proofs.PricingLaws.{clearable}
use Rattle.rules.proofs.ExecutionLaws.{Follows, execution-follows}
use Rattle.rules.proofs.ChainLaws.{each-in-order}
use Rattle.rules.proofs.BestLaws.{outcome-first}
use Rattle.rules.proofs.DayLaws.{clearable-clears, executed-in, all-clear, lawful-contends, empty-lawful}
use Rattle.rules.proofs.HourSums.{counted}
use Rattle.rules.proofs.PlaceLaws.{keep-limits-same}
use Rattle.rules.proofs.QuietHours.{StepsCount}

-- EACH STEP
-- what holds of each step with its quantity, so what follows from it
pub each-so : (R Q : Step → ℕ → Type 0) → ((s : Step) (q : ℕ) → R s q → Q s q) → (l : List Step) (qs : List ℕ) → Each R l qs → Each Q l qs
each-so R Q f [] [] e = tt
each-so R Q f [] (q ∷ qs) e = absurd e
each-so R Q f (s ∷ l) [] e = absurd e
each-so R Q f (s ∷ l) (q ∷ qs) e = (f s q e.0, each-so R Q f l qs e.1)

-- a quantity follows the price of its step's hour
abbrev pub FollowsHour : (ℕ → ℕ) → Step → ℕ → Type 0
FollowsHour price s q = Follows (price s.hour) s q

-- an hour's steps have that hour
pub follows-hour : (price : ℕ → ℕ) (h : ℕ) (l : List Step) (qs : List ℕ) → Each (Follows (price h)) (steps_in h l) qs →
    Each (FollowsHour price) (steps_in h l) qs
follows-hour price h [] [] e = tt
follows-hour price h [] (q ∷ qs) e = absurd e
follows-hour price h (s ∷ l) qs e =
    by-eq (λ t. Each (Follows (price h)) (keep t s (steps_in h l)) qs → Each (FollowsHour price) (keep t s (steps_in h l)) qs) s.hour h
    (λ same. first qs same (λ rest. follows-hour price h l rest)) (λ other. follows-hour price h l qs) e
  where
    first : (qs : List ℕ) → s.hour ≡ h →
        ((rest : List ℕ) → Each (Follows (price h)) (steps_in h l) rest → Each (FollowsHour price) (steps_in h l) rest) →
        Each (Follows (price h)) (s ∷ steps_in h l) qs → Each (FollowsHour price) (s ∷ steps_in h l) qs
    first [] same later e = absurd e
    first (q ∷ rest) same later e = (subst (λ (k : ℕ). Follows (price k) s q) (sym same) e.0, later rest e.1)

-- prices that agree in the hours that count are followed alike by steps for such hours
follows_same : (hours : ℕ) (price other : ℕ → ℕ) → ((h : ℕ) → Counts hours h → other h ≡ price h) → (l : List Step) (qs : List ℕ) → HoursInRange l →
    StepsCount hours l → Each (FollowsHour price) l qs → Each (FollowsHour other) l qs
follows_same hours price other same [] [] r c e = tt
follows_same hours price other same [] (q ∷ qs) r c e = absurd e
follows_same hours price other same (s ∷ l) [] r c e = absurd e
follows_same hours price other same (s ∷ l) (q ∷ qs) r c e =
    let here : Counts hours s.hour = record { first = r.0; last = r.1; counted = counted hours s.hour c.0 } in
    (rw (same s.hour here) e.0, follows_same hours price other same l qs r.2 c.1 e.1)

-- EACH BLOCK within its limit
sell-limit : (side : Side) (sum limit : ℕ) → test_side side (leb sum limit) (leb limit sum) ≡ true → side ≡ sell → limit ≤ sum
sell-limit buy sum limit t e = let z : ◌≡◌ {A = ℕ} 0 1 = cc in absurd (omega arith)
sell-limit sell sum limit t e = leb-true limit sum t

buy-limit : (side : Side) (sum limit : ℕ) → test_side side (leb sum limit) (leb limit sum) ≡ true → side ≡ buy → sum ≤ limit
buy-limit buy sum limit t e = leb-true sum limit t
buy-limit sell sum limit t e = let z : ◌≡◌ {A = ℕ} 0 1 = cc in absurd (omega arith)

each_limit : (hours : ℕ) (price : ℕ → ℕ) (l : List Block) → every_block (keeps_limit hours price) l ≡ true →
    EachBlock (λ b. b.side ≡ sell → b.price * hour_count hours b ≤ price_sum hours price b) l
    × EachBlock (λ b. b.side ≡ buy → price_sum hours price b ≤ b.price * hour_count hours b) l
unfolding keeps_limit
each_limit hours price [] e = (tt, tt)
each_limit hours price (b ∷ l) e =
    let t = both (keeps_limit hours price b) (every_block (keeps_limit hours price) l) e in
    let rest = each_limit hours price l t.1 in
    let sum = price_sum hours price b in
    let limit = b.price * hour_count hours b in
    ((sell-limit b.side sum limit t.0, rest.0), (buy-limit b.side sum limit t.0, rest.1))

-- THE DAY, its steps' prices and hours in range
module _ (day : Day) (prices : PricesInRange day.steps) (hours : HoursInRange day.steps) where
  -- every executed quantity follows the price of its hour
  pub executed-follows : (set : List Block) → Each (FollowsHour (set_prices day set)) day.steps (executed day set)
  unfolding executed
  executed-follows set =
      each-in-order (FollowsHour (set_prices day set)) day.steps _
      (λ h. follows-hour (set_prices day set) h day.steps _ (execution-follows (hour_of day set h) (set_prices day set h)))

  -- DEMAND 2, at prices and traded quantities that are the outcome's in the hours that count
  module _ (price trade : ℕ → ℕ) where
    abbrev S : List Block
    S = taken day.blocks (outcome day)

    pub outcome-obeys-as : StepsCount day.hours day.steps →
        ((h : ℕ) → Counts day.hours h → price h ≡ set_prices day (taken day.blocks (outcome day)) h) →
        ((h : ℕ) → Counts day.hours h → trade h ≡ traded day (taken day.blocks (outcome day)) h) →
        OutcomeRules day (outcome day) price trade (executed day (taken day.blocks (outcome day)))
    unfolding hour_clears keeps_limits traded
    outcome-obeys-as count same-price same-trade =
        let law = (outcome-first day (empty-lawful day prices hours)).is_lawful in
        let c = lawful-contends day prices hours (outcome day) law (outcome-first day (empty-lawful day prices hours)).of_blocks in
        let l = day.steps in
        let qs = executed day S in
        let f = follows_same day.hours (set_prices day S) price same-price l qs hours count (executed-follows S) in
        let limits = each_limit day.hours price S
        (keep-limits-same day.hours price (set_prices day S) same-price S ∙ c.limits) in
        record {
          clears_all = λ h k. clearable-clears day prices hours S h
              (clearable (hour_of day S h) (set_prices day S h) (all-clear day prices hours (outcome day) law h k));
          set_price = same-price;
          sells_above = each-so (FollowsHour price) _ (λ s q e side above. e.nothing (rw side above)) l qs f;
          buys_below = each-so (FollowsHour price) _ (λ s q e side below. e.nothing (rw side below)) l qs f;
          sells_below = each-so (FollowsHour price) _ (λ s q e side below. e.full (rw side below)) l qs f;
          buys_above = each-so (FollowsHour price) _ (λ s q e side above. e.full (rw side above)) l qs f;
          at_price = each-so (FollowsHour price) _ (λ s q e at. e.within) l qs f;
          block_sells = limits.0;
          block_buys = limits.1;
          not_more = each-so (FollowsHour price) _ (λ s q e. e.within) l qs f;
          balanced = c.balanced;
          traded_buys = λ h k. rw (executed-in day prices hours S h) (same-trade h k);
        }

  -- DEMAND 2
  pub outcome-obeys : StepsCount day.hours day.steps →
      OutcomeRules day (outcome day) (set_prices day (taken day.blocks (outcome day))) (traded day (taken day.blocks (outcome day)))
      (executed day (taken day.blocks (outcome day)))
  outcome-obeys count = outcome-obeys-as _ _ count (λ h k. refl) (λ h k. refl)
