-- M5 and M6: at a clearing price the amounts for the steps at the price are within what those steps hold, the hour balances, and each step follows
-- the price; every clearing price executes the same quantities. The sharing rule is used through its two laws only. Assumes nothing.
use Prim.Native.Nat.{ℕ, suc, ◌+◌, ◌-◌, ◌≤◌, ◌<◌, min}
use mathlib.Core.Bool.{Bool}
use mathlib.Core.Path.{◌≡◌, refl, sym, ap, ap₂}
use mathlib.Core.List.{List, [], ◌∷◌, map}
use mathlib.Core.Logic.{◌⊎◌, inl, inr}
use native.Mathlib.Omega.{arith}
use native.Mathlib.Nat.{lt_of_not-le, eq-or-lt_of_le, le_of_lt}
use native.Mathlib.Decide.{dec_le}
use lib.Dec.{ltb, leb, eqb}
use borrow.Author.Tests.{lt-ltb, le-ltb, ne_eqb}
use Rattle.rules.specs.Orders.{Side, buy, sell, Step}
use Rattle.rules.specs.Hour.{by_side, when, total, buying, selling, buys_above, buys_from, sells_to, sells_below, Hour}
use Rattle.rules.specs.Execution.{test_side, in_full, buying_at, selling_at, buy_amount, sell_amount, sum_of, shares, plus, execution, bought, sold}
use Rattle.rules.specs.Contender.{Each, Within, Balanced}
use Rattle.rules.specs.SharingRules.{AtMost}
use Rattle.rules.proofs.Tests.{OneOf, below, above, equal, one_of}
use Rattle.rules.proofs.CurveLaws.{
  when-zero,
  total-le,
  buys_from-falls,
  sells_below-rises,
  buys_from-suc,
  sells_below-suc,
  buys_from-split,
  sells_to-split,
  from-is-above-and-at,
  to-is-below-and-at,
}
use Rattle.rules.proofs.PricingLaws.{Clears, net}
use Rattle.rules.proofs.ShareLaws.{shares-within}
use Rattle.rules.proofs.CutLaws.{shares_sum}
use Rattle.rules.proofs.ContenderCases

-- SHARES
pub sum-map : (f : Step → ℕ) (l : List Step) → sum_of (map f l) ≡ total f l
sum-map f [] = refl
sum-map f (s ∷ l) = ap (λ n. f s + n) (sum-map f l)

at-most-sum : (f : Step → ℕ) (l : List Step) (qs : List ℕ) → AtMost (map f l) qs → sum_of qs ≤ total f l
at-most-sum f [] [] h = omega arith
at-most-sum f [] (q ∷ qs) h = absurd h
at-most-sum f (s ∷ l) [] h = absurd h
at-most-sum f (s ∷ l) (q ∷ qs) h = omega (arith, h.0, at-most-sum f l qs h.1)

-- ONE STEP, where the buys at the price share out b to it and the sells s
module _ (p x q b s : ℕ) where
  step-bought : (side : Side) → b ≤ when (eqb x p) (by_side side q 0) → s ≤ when (eqb x p) (by_side side 0 q) →
      by_side side (when (test_side side (ltb p x) (ltb x p)) q + (b + s)) 0 ≡ when (ltb p x) (by_side side q 0) + b
  step-bought buy hb hs = omega (arith, when-zero (eqb x p))
  step-bought sell hb hs = omega (arith, when-zero (eqb x p), when-zero (ltb p x))

  step-sold : (side : Side) → b ≤ when (eqb x p) (by_side side q 0) → s ≤ when (eqb x p) (by_side side 0 q) →
      by_side side 0 (when (test_side side (ltb p x) (ltb x p)) q + (b + s)) ≡ when (ltb x p) (by_side side 0 q) + s
  step-sold buy hb hs = omega (arith, when-zero (eqb x p), when-zero (ltb x p))
  step-sold sell hb hs = omega (arith, when-zero (eqb x p))

-- a limit x beyond a price p: a buy's lies above it, a sell's below
abbrev pub Beyond : Side → ℕ → ℕ → Type 0
Beyond buy p x = p < x
Beyond sell p x = x < p

-- a quantity follows the price: strictly better in full, strictly worse nothing, never more than the step's own
pub record Follows (p : ℕ) (s : Step) (q : ℕ) : Type 0 where
  pub within : q ≤ s.quantity
  pub full : Beyond s.side p s.price → q ≡ s.quantity
  pub nothing : Beyond s.side s.price p → q ≡ 0

-- at most one of "in full" and "at the price"
no_more : {g l e : Bool} → OneOf g l e → (q b s : ℕ) → b ≤ when e q → s ≤ 0 → when g q + (b + s) ≤ q
no_more below q b s hb hs = omega arith
no_more above q b s hb hs = omega arith
no_more equal q b s hb hs = omega arith

step_follows : (p b s : ℕ) (o : Step) → b ≤ buying_at p o → s ≤ selling_at p o → Follows p o (in_full p o + (b + s))
step_follows p b s o = go o.side o.price o.quantity
  where
    go : (side : Side) (x q : ℕ) → b ≤ when (eqb x p) (by_side side q 0) → s ≤ when (eqb x p) (by_side side 0 q) →
        Follows p record { hour = o.hour; side = side; price = x; quantity = q } (when (test_side side (ltb p x) (ltb x p)) q + (b + s))
    go buy x q hb hs = record {
      within = no_more (one_of p x) q b s hb (omega (arith, when-zero (eqb x p)));
      full = λ k. rw (lt-ltb p x k) (omega (arith, rw (ne_eqb x p (omega arith)) at hb, when-zero (eqb x p)));
      nothing = λ k. rw (le-ltb p x (le_of_lt k)) (omega (arith, rw (ne_eqb x p (omega arith)) at hb, when-zero (eqb x p)));
    }
    go sell x q hb hs = record {
      within = omega (arith, no_more (flip (one_of p x)) q s b hs (omega (arith, when-zero (eqb x p))));
      full = λ k. rw (lt-ltb x p k) (omega (arith, rw (ne_eqb x p (omega arith)) at hs, when-zero (eqb x p)));
      nothing = λ k. rw (le-ltb x p (le_of_lt k)) (omega (arith, rw (ne_eqb x p (omega arith)) at hs, when-zero (eqb x p)));
    }
      where
        flip : {g l e : Bool} → OneOf g l e → OneOf l g e
        flip below = above
        flip above = below
        flip equal = equal

-- ALL STEPS, with any shares within what the steps hold at the price
module _ (p : ℕ) where
  pub shared-bought : (l : List Step) (bs ss : List ℕ) → AtMost (map (buying_at p) l) bs → AtMost (map (selling_at p) l) ss →
      bought l (plus (map (in_full p) l) (plus bs ss)) ≡ buys_above p l + sum_of bs
  unfolding bought buys_above
  shared-bought [] [] [] hb hs = refl
  shared-bought (o ∷ l) (b ∷ bs) (s ∷ ss) hb hs =
      omega (arith, step-bought p o.price o.quantity b s o.side hb.0 hs.0, shared-bought l bs ss hb.1 hs.1)
  shared-bought [] [] (s ∷ ss) hb hs = elim hs [ ]
  shared-bought [] (b ∷ bs) ss hb hs = elim hb [ ]
  shared-bought (o ∷ l) [] ss hb hs = elim hb [ ]
  shared-bought (o ∷ l) (b ∷ bs) [] hb hs = elim hs [ ]

  shared-sold : (l : List Step) (bs ss : List ℕ) → AtMost (map (buying_at p) l) bs → AtMost (map (selling_at p) l) ss →
      sold l (plus (map (in_full p) l) (plus bs ss)) ≡ sells_below p l + sum_of ss
  unfolding sold sells_below
  shared-sold [] [] [] hb hs = refl
  shared-sold (o ∷ l) (b ∷ bs) (s ∷ ss) hb hs =
      omega (arith, step-sold p o.price o.quantity b s o.side hb.0 hs.0, shared-sold l bs ss hb.1 hs.1)
  shared-sold [] [] (s ∷ ss) hb hs = elim hs [ ]
  shared-sold [] (b ∷ bs) ss hb hs = elim hb [ ]
  shared-sold (o ∷ l) [] ss hb hs = elim hb [ ]
  shared-sold (o ∷ l) (b ∷ bs) [] hb hs = elim hs [ ]

  pub shared-follows : (l : List Step) (bs ss : List ℕ) → AtMost (map (buying_at p) l) bs → AtMost (map (selling_at p) l) ss →
      Each (Follows p) l (plus (map (in_full p) l) (plus bs ss))
  shared-follows [] [] [] hb hs = tt
  shared-follows (o ∷ l) (b ∷ bs) (s ∷ ss) hb hs =
      (step_follows p b s o hb.0 hs.0, shared-follows l bs ss hb.1 hs.1)
  shared-follows [] [] (s ∷ ss) hb hs = elim hs [ ]
  shared-follows [] (b ∷ bs) ss hb hs = elim hb [ ]
  shared-follows (o ∷ l) [] ss hb hs = elim hb [ ]
  shared-follows (o ∷ l) (b ∷ bs) [] hb hs = elim hs [ ]

-- M6, THE AMOUNTS: at every price no more than the steps at it hold; so the two laws of the sharing rule hold of their shares
module _ (h : Hour) (p : ℕ) where
  pub buy_amount-held : buy_amount h p ≤ total (buying_at p) h.steps
  unfolding buy_amount
  buy_amount-held = omega arith

  pub sell_amount-held : sell_amount h p ≤ total (selling_at p) h.steps
  unfolding sell_amount
  sell_amount-held = omega arith

  buy_shares-within : AtMost (map (buying_at p) h.steps) (shares (buy_amount h p) (map (buying_at p) h.steps))
  buy_shares-within = shares-within (buy_amount h p) (map (buying_at p) h.steps) (rw sum-map buy_amount-held)

  sell_shares-within : AtMost (map (selling_at p) h.steps) (shares (sell_amount h p) (map (selling_at p) h.steps))
  sell_shares-within = shares-within (sell_amount h p) (map (selling_at p) h.steps) (rw sum-map sell_amount-held)

  buy_shares-sum : sum_of (shares (buy_amount h p) (map (buying_at p) h.steps)) ≡ buy_amount h p
  buy_shares-sum = shares_sum (buy_amount h p) (map (buying_at p) h.steps) (rw sum-map buy_amount-held)

  sell_shares-sum : sum_of (shares (sell_amount h p) (map (selling_at p) h.steps)) ≡ sell_amount h p
  sell_shares-sum = shares_sum (sell_amount h p) (map (selling_at p) h.steps) (rw sum-map sell_amount-held)

-- at a clearing price the sells at it hold what balances the hour
module _ (h : Hour) (p : ℕ) (c : Clears h p) where
  pub sells-suffice : sell_amount h p ≡ buys_above p h.steps + buy_amount h p + h.block_buys - (sells_below p h.steps + h.block_sales)
  unfolding sell_amount buy_amount
  sells-suffice = omega (arith, c.demand_met, sells_to-split p h.steps)

  pub amounts-balance :
      buys_above p h.steps + buy_amount h p + h.block_buys ≡ sells_below p h.steps + sell_amount h p + h.block_sales
  unfolding sell_amount buy_amount
  amounts-balance =
      omega (arith, c.demand_met, c.supply_met, sells_to-split p h.steps, buys_from-split p h.steps)

-- the execution follows the price, whether it clears or not
pub execution-follows : (h : Hour) (p : ℕ) → Each (Follows p) h.steps (execution h p)
unfolding execution
execution-follows h p = shared-follows p h.steps _ _ (buy_shares-within h p) (sell_shares-within h p)

pub follows-within : (p : ℕ) (l : List Step) (qs : List ℕ) → Each (Follows p) l qs → Each Within l qs
follows-within p [] [] f = tt
follows-within p (s ∷ l) (q ∷ qs) f = (f.0.within, follows-within p l qs f.1)
follows-within p [] (q ∷ qs) f = elim f [ ]
follows-within p (s ∷ l) [] f = elim f [ ]

pub execution-within : (h : Hour) (p : ℕ) → Each Within h.steps (execution h p)
execution-within h p = follows-within p h.steps _ (execution-follows h p)

-- M6, THE HOUR BALANCES at a clearing price
pub execution-balances : (h : Hour) (p : ℕ) → Clears h p → Balanced h (execution h p)
unfolding execution
execution-balances h p c =
    let l = h.steps in
    let wb = buy_shares-within h p in
    let ws = sell_shares-within h p in
    omega (
      arith,
      shared-bought p l _ _ wb ws,
      shared-sold p l _ _ wb ws,
      buy_shares-sum h p,
      sell_shares-sum h p,
      amounts-balance h p c,
    )

-- WHAT IS TRADED at a clearing price: what is bought at or above it, or sold at or below it, the lesser, each with the blocks' own
pub traded-lesser : (h : Hour) (p : ℕ) → Clears h p →
    bought h.steps (execution h p) + h.block_buys ≡ min (buys_from p h.steps + h.block_buys) (sells_to p h.steps + h.block_sales)
unfolding execution buy_amount
traded-lesser h p c =
    let l = h.steps in
    let wb = buy_shares-within h p in
    let ws = sell_shares-within h p in
    omega (arith, shared-bought p l _ _ wb ws, buy_shares-sum h p, buys_from-split p l, c.demand_met)

-- M5: FROM ONE CLEARING PRICE p TO A HIGHER q
-- one step: what is bought above p and from q on is the same, what is sold to p and below q too
step_same : (side : Side) (x own p q : ℕ) → when (ltb p x) (by_side side own 0) ≡ when (leb q x) (by_side side own 0) →
    when (leb x p) (by_side side 0 own) ≡ when (ltb x q) (by_side side 0 own) →
    when (test_side side (ltb p x) (ltb x p)) own + (0 + when (eqb x p) (by_side side 0 own))
    ≡ when (test_side side (ltb q x) (ltb x q)) own + (when (eqb x q) (by_side side own 0) + 0)
step_same buy x own p q eb es = omega (arith, from-is-above-and-at q x own, when-zero (eqb x p))
step_same sell x own p q eb es = omega (arith, to-is-below-and-at p x own, when-zero (eqb x q))

buys-step-le : (p q : ℕ) → p < q → (s : Step) → when (leb q s.price) (buying s) ≤ when (ltb p s.price) (buying s)
unfolding buys_from buys_above
buys-step-le p q k s = omega (arith, buys_from-falls (suc p) q k (s ∷ []), buys_from-suc p (s ∷ []))

sells-step-le : (p q : ℕ) → p < q → (s : Step) → when (leb s.price p) (selling s) ≤ when (ltb s.price q) (selling s)
unfolding sells_below sells_to
sells-step-le p q k s = omega (arith, sells_below-rises (suc p) q k (s ∷ []), sells_below-suc p (s ∷ []))

module _ (p q : ℕ) (k : p < q) where
  buys-le : (l : List Step) → buys_from q l ≤ buys_above p l
  unfolding buys_from buys_above
  buys-le l = total-le _ _ (buys-step-le p q k) l

  sells-le : (l : List Step) → sells_to p l ≤ sells_below q l
  unfolding sells_to sells_below
  sells-le l = total-le _ _ (sells-step-le p q k) l

  -- at p the buys at the price get nothing and the sells all, at q the other way round
  shared_same : (l : List Step) (bs ss bs' ss' : List ℕ) → AtMost (map (buying_at p) l) bs → AtMost (map (selling_at p) l) ss →
      AtMost (map (buying_at q) l) bs' → AtMost (map (selling_at q) l) ss' →
      sum_of bs ≡ 0 → sum_of ss ≡ total (selling_at p) l → sum_of bs' ≡ total (buying_at q) l → sum_of ss' ≡ 0 →
      buys_above p l ≡ buys_from q l → sells_to p l ≡ sells_below q l →
      plus (map (in_full p) l) (plus bs ss) ≡ plus (map (in_full q) l) (plus bs' ss')
  unfolding buys_above buys_from sells_to sells_below
  shared_same [] [] [] [] [] hb hs hb' hs' eb es eb' es' fb fs = refl
  shared_same (o ∷ l) (b ∷ bs) (s ∷ ss) (b' ∷ bs') (s' ∷ ss') hb hs hb' hs' eb es eb' es' fb fs =
      let ws = at-most-sum (selling_at p) l ss hs.1 in
      let wb' = at-most-sum (buying_at q) l bs' hb'.1 in
      let lb = buys-step-le p q k o in
      let ls = sells-step-le p q k o in
      let tb = buys-le l in
      let ts = sells-le l in
      let zb : b ≡ 0 = omega arith in
      let zs' : s' ≡ 0 = omega arith in
      let fs₁ : s ≡ selling_at p o = omega (arith, hs.0) in
      let fb₁ : b' ≡ buying_at q o = omega (arith, hb'.0) in
      ap₂ ◌∷◌
      (rw (zb, zs', fs₁, fb₁) (step_same o.side o.price o.quantity p q (omega arith) (omega arith)))
      (shared_same l bs ss bs' ss' hb.1 hs.1 hb'.1 hs'.1
      (omega arith) (omega (arith, hs.0)) (omega (arith, hb'.0)) (omega arith) (omega arith) (omega arith))
  shared_same [] [] [] [] (s' ∷ ss') hb hs hb' hs' eb es eb' es' fb fs = elim hs' [ ]
  shared_same [] [] [] (b' ∷ bs') _ hb hs hb' hs' eb es eb' es' fb fs = elim hb' [ ]
  shared_same [] [] (s ∷ ss) _ _ hb hs hb' hs' eb es eb' es' fb fs = elim hs [ ]
  shared_same [] (b ∷ bs) ss _ _ hb hs hb' hs' eb es eb' es' fb fs = elim hb [ ]
  shared_same (o ∷ l) [] ss _ _ hb hs hb' hs' eb es eb' es' fb fs = elim hb [ ]
  shared_same (o ∷ l) (b ∷ bs) [] _ _ hb hs hb' hs' eb es eb' es' fb fs = elim hs [ ]
  shared_same (o ∷ l) (b ∷ bs) (s ∷ ss) [] _ hb hs hb' hs' eb es eb' es' fb fs = elim hb' [ ]
  shared_same (o ∷ l) (b ∷ bs) (s ∷ ss) (b' ∷ bs') [] hb hs hb' hs' eb es eb' es' fb fs = elim hs' [ ]

  module _ (h : Hour) (c : Clears h p) (d : Clears h q) where
    -- no step lies strictly between two clearing prices: nothing is bought above p that is not bought from q on, and nothing sold below q that is
    -- not sold at p
    pub nothing-between : (buys_above p h.steps ≡ buys_from q h.steps) × (sells_to p h.steps ≡ sells_below q h.steps)
    nothing-between = (
      omega (arith, c.demand_met, d.supply_met, buys-le h.steps, sells-le h.steps),
      omega (arith, c.demand_met, d.supply_met, buys-le h.steps, sells-le h.steps),
    )

    no-buys : buy_amount h p ≡ 0
    unfolding buy_amount
    no-buys = omega (arith, c.demand_met, d.supply_met, nothing-between)

    all-buys : buy_amount h q ≡ total (buying_at q) h.steps
    unfolding buy_amount
    all-buys =
        omega (arith, c.demand_met, d.supply_met, nothing-between, buys_from-split q h.steps, sells_to-split q h.steps)

    same_above : execution h p ≡ execution h q
    unfolding execution
    same_above =
        let l = h.steps in
        let n = nothing-between in
        shared_same l _ _ _ _ (buy_shares-within h p) (sell_shares-within h p) (buy_shares-within h q) (sell_shares-within h q)
        (omega (arith, buy_shares-sum h p, no-buys))
        (omega (arith, sell_shares-sum h p, amounts-balance h p c, sells_to-split p l, no-buys, c.demand_met, d.supply_met))
        (omega (arith, buy_shares-sum h q, all-buys))
        (omega (arith, sell_shares-sum h q, amounts-balance h q d, buys_from-split q l, all-buys, c.demand_met, d.supply_met))
        n.0 n.1

-- M5: every clearing price executes the same quantities
pub same-execution : (h : Hour) (p q : ℕ) → Clears h p → Clears h q → execution h p ≡ execution h q
same-execution h p q c d = elim (dec_le p q) [ yes k ↦ up (eq-or-lt_of_le k) | no k ↦ sym (same_above q p (lt_of_not-le k) h d c) ]
  where
    up : (p ≡ q) ⊎ (p < q) → execution h p ≡ execution h q
    up (inl e) = ap (execution h) e
    up (inr k) = same_above p q k h c d

-- the executed quantities depend on N alone
module _ (l : List Step) (s b s' b' : ℕ) (same : s + b' ≡ s' + b) (p : ℕ) where
  buy_amount-net : buy_amount (net l s b) p ≡ buy_amount (net l s' b') p
  unfolding buy_amount
  buy_amount-net = omega arith

  sell_amount-net : sell_amount (net l s b) p ≡ sell_amount (net l s' b') p
  unfolding sell_amount
  sell_amount-net = omega (arith, buy_amount-net)

  pub execution-net : execution (net l s b) p ≡ execution (net l s' b') p
  unfolding execution
  execution-net = rw (buy_amount-net, sell_amount-net)
