-- THE OUTCOME (document 01, "The day"): the lawful set of greatest welfare; of equal ones, that which holds the lowest-numbered block in which
-- they differ. It is chosen from the list of ALL sets. Definitions only. Assumes nothing.
use Rattle.std.specs.Prelude.{ℕ, zero, suc, Bool, true, false, cond, ◌&&◌, List, [], ◌∷◌, ◌++◌, map, leb, length, replicate}
use Rattle.rules.specs.Orders.{Orders, canonical, executed_of}
use Rattle.rules.specs.Hour.{when}
use Rattle.rules.specs.Day.{Day, day_of, is_counted, taken, lawful, welfare, set_prices, traded, executed}

-- Every set of n blocks. Of two sets, the one that holds the lowest-numbered block in which they differ is listed first.
unfoldable pub all_sets : ℕ → List (List Bool)
all_sets zero = [] ∷ []
all_sets (suc n) = map (◌∷◌ true) (all_sets n) ++ map (◌∷◌ false) (all_sets n)

-- A set is preferred to one listed after it where it is lawful and has no less welfare.
abbrev pub prefer : Day → List Bool → List Bool → List Bool
prefer day set later = cond (lawful day set && leb (welfare day later) (welfare day set)) set later

-- The best of the listed sets; the empty set, always lawful, where none is.
unfoldable pub best_of : Day → List (List Bool) → List Bool
best_of day [] = replicate (length day.blocks) false
best_of day (set ∷ l) = prefer day set (best_of day l)

-- The published set of blocks: the best of all sets.
unfoldable pub outcome : Day → List Bool
outcome day = best_of day (all_sets (length day.blocks))

-- A number of each of the hours 1 to n.
unfoldable pub for_hours : ℕ → (ℕ → ℕ) → List ℕ
for_hours zero f = []
for_hours (suc n) f = for_hours n f ++ (f (suc n) ∷ [])

-- What is published of a book's orders. An hour that does not count has the price 0 and the traded quantity 0.
pub record PublishedOutcome : Type 0 where
  pub welfare : ℕ
  pub prices : List ℕ
  pub traded : List ℕ
  pub chosen : List Bool
  pub executed : List ℕ

unfoldable pub published : Orders → PublishedOutcome
published orders =
    let day = day_of orders in
    let set = taken day.blocks (outcome day) in
    record {
      welfare = welfare day (outcome day);
      prices = for_hours 24 (λ h. when (is_counted day.hours h) (set_prices day set h));
      traded = for_hours 24 (λ h. when (is_counted day.hours h) (traded day set h));
      chosen = outcome day;
      executed = executed_of (canonical orders).steps (executed day set);
    }
