-- EXECUTION of an hour at a price (document 01, "At the price, steps strictly better are executed in full ..") with the shares of document 02, P5.
-- Definitions only. Assumes nothing.
-- A choice of quantities is a list, one number for each step of the hour.
use Rattle.std.specs.Prelude.{ℕ, suc, ◌+◌, ◌-◌, ◌*◌, ◌/◌, ◌%◌, min, Bool, cond, List, [], ◌∷◌, map, ltb, leb, eqb}
use Rattle.rules.specs.Orders.{Side, buy, sell, Step}
use Rattle.rules.specs.Hour.{by_side, when, total, buying, selling, buys_above, sells_to, sells_below, Hour}

-- The first test for a buy, the second for a sell.
abbrev pub test_side : Side → Bool → Bool → Bool
test_side buy b s = b
test_side sell b s = s

-- A step strictly better than price p: a buy above it, a sell below it.
abbrev pub better : ℕ → Step → Bool
better p s = test_side s.side (ltb p s.price) (ltb s.price p)

-- A step strictly better than the price is executed in full.
abbrev pub in_full : ℕ → Step → ℕ
in_full p s = when (better p s) s.quantity

-- What a step buys, and sells, at the price itself.
abbrev pub buying_at : ℕ → Step → ℕ
buying_at p s = when (eqb s.price p) (buying s)

abbrev pub selling_at : ℕ → Step → ℕ
selling_at p s = when (eqb s.price p) (selling s)

-- The amount for the buys at the price: as much as they hold or as much as the sells and N allow, the lesser.
unfoldable pub buy_amount : Hour → ℕ → ℕ
buy_amount h p =
    min (total (buying_at p) h.steps)
    (sells_to p h.steps + h.block_sales - (buys_above p h.steps + h.block_buys))

-- The amount for the sells at the price: what then balances the hour, and no more than they hold. (At a clearing price they hold as much.)
unfoldable pub sell_amount : Hour → ℕ → ℕ
sell_amount h p =
    min (total (selling_at p) h.steps)
    (buys_above p h.steps + buy_amount h p + h.block_buys - (sells_below p h.steps + h.block_sales))

-- Two lists added place by place.
abbrev pub plus : List ℕ → List ℕ → List ℕ
plus [] m = []
plus (a ∷ l) [] = []
plus (a ∷ l) (b ∷ m) = (a + b) ∷ plus l m

-- SHARES of an amount by steps that hold so much each, in rising order number
-- The sum of a list.
abbrev pub sum_of : List ℕ → ℕ
sum_of [] = 0
sum_of (q ∷ l) = q + sum_of l

-- Each step's quantity times the amount, divided by the total, rounded down.
unfoldable pub floors : (amount total : ℕ) → List ℕ → List ℕ
floors amount total = map (λ own. own * amount / total)

-- What this division leaves of each.
unfoldable pub remainders : (amount total : ℕ) → List ℕ → List ℕ
remainders amount total = map (λ own. own * amount % total)

-- How many of a list are n or more.
unfoldable pub at_least : ℕ → List ℕ → ℕ
at_least n [] = 0
at_least n (r ∷ l) = when (leb n r) 1 + at_least n l

-- The leftover tenths go one each to the largest remainders, equal ones to the lower number: a step gets one where fewer steps go before it than there
-- are tenths left. Before it go those of lower number whose remainder is as large, and those of higher number whose remainder is larger.
unfoldable pub extras : (left : ℕ) (lower rest : List ℕ) → List ℕ
extras left lower [] = []
extras left lower (r ∷ higher) = when (ltb (at_least r lower + at_least (suc r) higher) left) 1 ∷ extras left (r ∷ lower) higher

-- An amount shared in proportion to what the steps hold: the quotients rounded down, and what they leave of the amount.
unfoldable pub in_proportion : (amount total : ℕ) → List ℕ → List ℕ
in_proportion amount total owns =
    let rounded = floors amount total owns in
    plus rounded (extras (amount - sum_of rounded) [] (remainders amount total owns))

-- THE SHARING RULE: in proportion; where the total is 0 nobody gets anything.
unfoldable pub shares : ℕ → List ℕ → List ℕ
shares amount owns = cond (eqb (sum_of owns) 0) (map (λ own. 0) owns) (in_proportion amount (sum_of owns) owns)

-- The former rule (document 01): each step is filled before the next.
unfoldable pub fill_in_turn : ℕ → List ℕ → List ℕ
fill_in_turn amount [] = []
fill_in_turn amount (own ∷ l) = min own amount ∷ fill_in_turn (amount - own) l

-- What each step of the hour gets at price p: in full if strictly better, its share of its side's amount if at the price, else nothing.
unfoldable pub execution : Hour → ℕ → List ℕ
execution h p =
    plus (map (in_full p) h.steps)
    (plus (shares (buy_amount h p) (map (buying_at p) h.steps)) (shares (sell_amount h p) (map (selling_at p) h.steps)))

-- The sum of a number of each step with its quantity.
abbrev pub total₂ : (Step → ℕ → ℕ) → List Step → List ℕ → ℕ
total₂ f [] qs = 0
total₂ f (s ∷ l) [] = 0
total₂ f (s ∷ l) (q ∷ qs) = f s q + total₂ f l qs

-- What the steps buy together, and sell, by their quantities.
unfoldable pub bought : List Step → List ℕ → ℕ
bought = total₂ (λ s q. by_side s.side q 0)

unfoldable pub sold : List Step → List ℕ → ℕ
sold = total₂ (λ s q. by_side s.side 0 q)
