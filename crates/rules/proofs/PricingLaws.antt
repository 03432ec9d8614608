-- M3, M4 and M11: the clearing prices of an hour are the prices from L to H; there is one exactly when N is within the steps' totals; four values
-- certify the answer; the answer depends on N alone; an hour with no more excess demand has no higher L and no higher H. Assumes nothing.
use Prim.Native.Nat.{ℕ, zero, suc, ◌+◌, ◌-◌, ◌≤◌, ◌<◌}
use mathlib.Core.Bool.{Bool, true, false, ◌||◌, not}
use mathlib.Core.Path.{◌≡◌, refl, ap, fun_ext}
use mathlib.Core.List.{List}
use mathlib.Core.Option.{Option, none, some}
use mathlib.Core.Logic.{◌⊎◌, inl, inr, ◌↔◌}
use native.Mathlib.Omega.{arith}
use native.Mathlib.Nat.{le-suc_iff, lt_of_not-le}
use native.Mathlib.Decide.{dec_le}
use lib.Dec.{leb, eqb}
use borrow.Author.Tests.{leb-true, leb-false, le-leb, lt-leb, ne_eqb}
use Rattle.rules.specs.Orders.{Step, max_price}
use Rattle.rules.specs.Hour.{
  Hour,
  all_buys,
  all_sells,
  buys_above,
  buys_from,
  sells_to,
  sells_below,
  clears,
  least,
  greatest,
  or_else,
  if_passes,
  Pricing,
  cleared,
  does_not_clear,
  between,
  middle,
  pricing,
}
use Rattle.rules.specs.Contender.{PricesInRange}
use Rattle.rules.proofs.Tests.{by_le, both, clash}
use Rattle.rules.proofs.CurveLaws.{
  buys_above-falls,
  buys_from-falls,
  sells_to-rises,
  sells_below-rises,
  buys_from-suc,
  sells_below-suc,
  buys_from-one,
  sells_to-max,
  buys_above-max,
  sells_below-one,
  buys_from-all,
  sells_to-all,
}

-- THE TWO CONDITIONS of a clearing price
abbrev pub DemandMet : Hour → ℕ → Type 0
DemandMet h p = buys_above p h.steps + h.block_buys ≤ sells_to p h.steps + h.block_sales

abbrev pub SupplyMet : Hour → ℕ → Type 0
SupplyMet h p = sells_below p h.steps + h.block_sales ≤ buys_from p h.steps + h.block_buys

pub record Clears (h : Hour) (p : ℕ) : Type 0 where
  pub demand_met : DemandMet h p
  pub supply_met : SupplyMet h p

pub clears-means : (h : Hour) (p : ℕ) → clears h p ≡ true → Clears h p
unfolding clears
clears-means h p e =
    let t = both _ _ e in
    record { demand_met = leb-true _ _ t.0; supply_met = leb-true _ _ t.1 }

pub means-clears : (h : Hour) (p : ℕ) → Clears h p → clears h p ≡ true
unfolding clears
means-clears h p c = rw (le-leb _ _ c.demand_met, le-leb _ _ c.supply_met)

-- the demand is met from some price on, the supply up to some price
pub demand-on : (h : Hour) (p q : ℕ) → p ≤ q → DemandMet h p → DemandMet h q
demand-on h p q le a = omega (arith, buys_above-falls p q le h.steps, sells_to-rises p q le h.steps)

pub supply-down : (h : Hour) (p q : ℕ) → p ≤ q → SupplyMet h q → SupplyMet h p
supply-down h p q le a = omega (arith, buys_from-falls p q le h.steps, sells_below-rises p q le h.steps)

-- M4: between two clearing prices every price clears
pub clears-between : (h : Hour) (l u p : ℕ) → Clears h l → Clears h u → l ≤ p → p ≤ u → Clears h p
clears-between h l u p a b lp pu =
    record { demand_met = demand-on h l p lp a.demand_met; supply_met = supply-down h p u pu b.supply_met }

-- M2: p clears exactly when D(p) ≤ N ≤ D(p − 1), where D is the buys above less the sells at or below
pub supply-before : (h : Hour) (p : ℕ) →
    SupplyMet h (suc p) ↔ (sells_to p h.steps + h.block_sales ≤ buys_above p h.steps + h.block_buys)
supply-before h p =
    (λ s. omega (arith, buys_from-suc p h.steps, sells_below-suc p h.steps), λ s. omega (arith, buys_from-suc p h.steps, sells_below-suc p h.steps))

-- N is no more than all buys together, and −N no more than all sells
pub record Clearable (h : Hour) : Type 0 where
  pub buys_suffice : h.block_sales ≤ all_buys h.steps + h.block_buys
  pub sells_suffice : h.block_buys ≤ all_sells h.steps + h.block_sales

pub clearable : (h : Hour) (p : ℕ) → Clears h p → Clearable h
clearable h p c = record {
  buys_suffice = omega (arith, c.supply_met, buys_from-all p h.steps);
  sells_suffice = omega (arith, c.demand_met, sells_to-all p h.steps);
}

-- LEAST AND GREATEST
abbrev pub LeastOf : (ℕ → Bool) → ℕ → Option ℕ → Type 0
LeastOf t n none = (q : ℕ) → 1 ≤ q → q ≤ n → t q ≡ false
LeastOf t n (some p) = (1 ≤ p) × (p ≤ n) × (t p ≡ true) × ((q : ℕ) → 1 ≤ q → q < p → t q ≡ false)

abbrev pub GreatestOf : (ℕ → Bool) → ℕ → Option ℕ → Type 0
GreatestOf t n none = (q : ℕ) → 1 ≤ q → q ≤ n → t q ≡ false
GreatestOf t n (some p) = (1 ≤ p) × (p ≤ n) × (t p ≡ true) × ((q : ℕ) → p < q → q ≤ n → t q ≡ false)

-- what holds up to n and at n + 1 holds up to n + 1
up-to-next : (t : ℕ → Bool) (n : ℕ) (b : Bool) (q : ℕ) → t (suc n) ≡ b → (q ≤ n → t q ≡ b) → q ≤ suc n → t q ≡ b
up-to-next t n b q e f le = go (le-suc_iff.0 le)
  where
    go : (q ≤ n) ⊎ (q ≡ suc n) → t q ≡ b
    go (inl k) = f k
    go (inr k) = rw k e

pub least-is : (t : ℕ → Bool) (n : ℕ) → LeastOf t n (least t n)
unfolding least
least-is t zero = λ q a b. absurd (omega arith)
least-is t (suc n) = go (least t n) (least-is t n) (t (suc n)) refl
  where
    go : (o : Option ℕ) → LeastOf t n o → (b : Bool) → t (suc n) ≡ b → LeastOf t (suc n) (or_else o (if_passes b (suc n)))
    go (some p) s b e = (s.0, omega arith, s.2, s.3)
    go none s true e = (omega arith, omega arith, e, λ q h k. s q h (omega arith))
    go none s false e = λ q h k. up-to-next t n false q e (λ j. s q h j) k

pub greatest-is : (t : ℕ → Bool) (n : ℕ) → GreatestOf t n (greatest t n)
unfolding greatest
greatest-is t zero = λ q a b. absurd (omega arith)
greatest-is t (suc n) = go (greatest t n) (greatest-is t n) (t (suc n)) refl
  where
    go : (o : Option ℕ) → GreatestOf t n o → (b : Bool) → t (suc n) ≡ b → GreatestOf t (suc n) (or_else (if_passes b (suc n)) o)
    go o s true e = (omega arith, omega arith, e, λ q h k. absurd (omega arith))
    go none s false e = λ q h k. up-to-next t n false q e (λ j. s q h j) k
    go (some p) s false e = (s.0, omega arith, s.2, λ q h k. up-to-next t n false q e (λ j. s.3 q h j) k)

least-le : (t : ℕ → Bool) (n l : ℕ) → LeastOf t n (some l) → (q : ℕ) → 1 ≤ q → t q ≡ true → l ≤ q
least-le t n l s q a e = elim (dec_le l q) [ yes k ↦ k | no k ↦ clash e (s.3 q a (lt_of_not-le k)) ]

le-greatest : (t : ℕ → Bool) (n u : ℕ) → GreatestOf t n (some u) → (q : ℕ) → q ≤ n → t q ≡ true → q ≤ u
le-greatest t n u s q a e = elim (dec_le q u) [ yes k ↦ k | no k ↦ clash e (s.3 q (lt_of_not-le k) a) ]

-- M3: A CLEARABLE HOUR HAS A CLEARING PRICE, the least price at which the demand is met
meets : Hour → ℕ → Bool
meets h p = leb (buys_above p h.steps + h.block_buys) (sells_to p h.steps + h.block_sales)

meets-not : (h : Hour) (p : ℕ) → meets h p ≡ false → sells_to p h.steps + h.block_sales < buys_above p h.steps + h.block_buys
unfolding meets
meets-not h p e = leb-false _ _ e

pub clearing-price : (h : Hour) → PricesInRange h.steps → Clearable h → (p : ℕ) × (1 ≤ p) × (p ≤ max_price) × Clears h p
unfolding meets
clearing-price h r c = go (least (meets h) max_price) (least-is (meets h) max_price)
  where
    l : List Step
    l = h.steps

    at : (p : ℕ) → suc p ≤ max_price → meets h (suc p) ≡ true → ((q : ℕ) → 1 ≤ q → q < suc p → meets h q ≡ false) → Clears h (suc p)
    at zero b e f = record {
      demand_met = leb-true _ _ e;
      supply_met = omega (arith, c.buys_suffice, sells_below-one l r, buys_from-one l r);
    }
    at (suc p) b e f = record {
      demand_met = leb-true _ _ e;
      supply_met = (supply-before h (suc p)).1 (omega (arith, meets-not h (suc p) (f (suc p) (omega arith) (omega arith))));
    }

    go : (o : Option ℕ) → LeastOf (meets h) max_price o → (p : ℕ) × (1 ≤ p) × (p ≤ max_price) × Clears h p
    go none s =
        absurd (omega (arith, meets-not h max_price (s max_price (omega arith) (omega arith)), c.sells_suffice, buys_above-max l r, sells_to-max l r))
    go (some zero) s = absurd (omega arith)
    go (some (suc p)) s = (suc p, s.0, s.1, at p s.1 s.2 s.3)

-- WHAT PRICING SAYS
-- l and u clear, p is their middle, and no other price of 1 to 300000 outside them clears
pub record Cleared (h : Hour) (l u p : ℕ) : Type 0 where
  pub low_clears : Clears h l
  pub high_clears : Clears h u
  pub is_middle : p ≡ middle l u
  pub positive : 1 ≤ l
  pub ordered : l ≤ u
  pub in_range : u ≤ max_price
  pub ends : (q : ℕ) → 1 ≤ q → q ≤ max_price → Clears h q → (l ≤ q) × (q ≤ u)

abbrev pub Priced : Hour → Pricing → Type 0
Priced h (cleared l u p) = Cleared h l u p
Priced h does_not_clear = ¬ Clearable h

-- every price from L to H clears, the middle one too
pub inside-clears : (h : Hour) (l u p q : ℕ) → Cleared h l u p → l ≤ q → q ≤ u → Clears h q
inside-clears h l u p q c a b = clears-between h l u q c.low_clears c.high_clears a b

pub middle-clears : (h : Hour) (l u p : ℕ) → Cleared h l u p → Clears h p
middle-clears h l u p c = inside-clears h l u p p c (omega (arith, c.is_middle, c.ordered)) (omega (arith, c.is_middle, c.ordered))

module _ (h : Hour) (r : PricesInRange h.steps) where
  none-clears : ((q : ℕ) → 1 ≤ q → q ≤ max_price → clears h q ≡ false) → ¬ Clearable h
  none-clears f c =
      let t = clearing-price h r c in
      clash (means-clears h t.0 t.3) (f t.0 t.1 t.2)

  between_is : (a b : Option ℕ) → LeastOf (clears h) max_price a → GreatestOf (clears h) max_price b → Priced h (between a b)
  between_is none b s t = none-clears s
  between_is (some l) none s t = none-clears t
  between_is (some l) (some u) s t = record {
    low_clears = clears-means h l s.2;
    high_clears = clears-means h u t.2;
    is_middle = refl;
    positive = s.0;
    ordered = least-le (clears h) max_price l s u t.0 t.2;
    in_range = t.1;
    ends = λ q a b c.
        (least-le (clears h) max_price l s q a (means-clears h q c), le-greatest (clears h) max_price u t q b (means-clears h q c));
  }

  pub pricing-is : Priced h (pricing h)
  unfolding pricing
  pricing-is =
      between_is (least (clears h) max_price) (greatest (clears h) max_price) (least-is (clears h) max_price) (greatest-is (clears h) max_price)

  -- M3: "does not clear" exactly when N exceeds all buys together, or −N all sells
  pub not-clearing : (pricing h ≡ does_not_clear) ↔ (¬ Clearable h)
  not-clearing = (λ e. rw e at pricing-is, λ f. go (pricing h) pricing-is f)
    where
      go : (a : Pricing) → Priced h a → ¬ Clearable h → a ≡ does_not_clear
      go (cleared l u p) s f = absurd (f (clearable h l s.low_clears))
      go does_not_clear s f = refl

  -- the answer by what it says
  pub pricing-by : (l u : ℕ) → Cleared h l u (middle l u) → pricing h ≡ cleared l u (middle l u)
  pricing-by l u c = go (pricing h) pricing-is
    where
      go : (o : Pricing) → Priced h o → o ≡ cleared l u (middle l u)
      go (cleared l' u' p) s =
          let el : l' ≡ l = omega (
            arith,
            s.ends l c.positive (omega (arith, c.ordered, c.in_range)) c.low_clears,
            c.ends l' s.positive (omega (arith, s.ordered, s.in_range)) s.low_clears,
          ) in
          let eu : u' ≡ u = omega (
            arith,
            s.ends u (omega (arith, c.ordered, c.positive)) c.in_range c.high_clears,
            c.ends u' (omega (arith, s.ordered, s.positive)) s.in_range s.high_clears,
          ) in
          rw (s.is_middle, el, eu)
      go does_not_clear s = absurd (s (clearable h l c.low_clears))

  -- M4: THE CERTIFICATE. L and H clear, and the prices next to them do not or are out of range
  pub pricing-certified : (l u : ℕ) → 1 ≤ l → l ≤ u → u ≤ max_price → clears h l ≡ true → clears h u ≡ true →
      (eqb l 1 || not (clears h (l - 1))) ≡ true → (eqb u max_price || not (clears h (u + 1))) ≡ true →
      pricing h ≡ cleared l u (middle l u)
  pricing-certified l u a lu b cl cu tl tu =
      let kl = clears-means h l cl in
      let ku = clears-means h u cu in
      pricing-by l u record {
        low_clears = kl;
        high_clears = ku;
        is_middle = refl;
        positive = a;
        ordered = lu;
        in_range = b;
        ends = λ q i j c. (low q i c kl, high q j c ku);
      }
    where
      low : (q : ℕ) → 1 ≤ q → Clears h q → Clears h l → l ≤ q
      low q i c kl = elim (dec_le l q) [
        | yes z ↦ z
        | no z ↦
            let y : q < l = lt_of_not-le z in
            clash tl (rw (ne_eqb l 1 (omega arith), means-clears h (l - 1) (clears-between h q l (l - 1) c kl (omega arith) (omega arith))))
      ]

      high : (q : ℕ) → q ≤ max_price → Clears h q → Clears h u → q ≤ u
      high q j c ku = elim (dec_le q u) [
        | yes z ↦ z
        | no z ↦
            let y : u < q = lt_of_not-le z in
            clash tu (rw (ne_eqb u max_price (omega arith), means-clears h (u + 1) (clears-between h u q (u + 1) ku c (omega arith) (omega arith))))
      ]

  -- M4: THE ENDS APART, for code that looks for each by itself: L the least price that meets the demand, H the greatest that meets the supply
  pub pricing-ends : Clearable h → (l u : ℕ) → 1 ≤ l → u ≤ max_price →
      DemandMet h l → ((q : ℕ) → 1 ≤ q → DemandMet h q → l ≤ q) → SupplyMet h u → ((q : ℕ) → q ≤ max_price → SupplyMet h q → q ≤ u) →
      pricing h ≡ cleared l u (middle l u)
  pricing-ends c l u a b dl leastD su mostS =
      let t = clearing-price h r c in
      let lu : l ≤ u = omega (arith, leastD t.0 t.1 t.3.demand_met, mostS t.0 t.2 t.3.supply_met) in
      pricing-by l u record {
        low_clears = record { demand_met = dl; supply_met = supply-down h l u lu su };
        high_clears = record { demand_met = demand-on h l u lu dl; supply_met = su };
        is_middle = refl;
        positive = a;
        ordered = lu;
        in_range = b;
        ends = λ q i j k. (leastD q i k.demand_met, mostS q j k.supply_met);
      }

-- a clearable hour's answer
pub record Answer (h : Hour) : Type 0 where
  pub low : ℕ
  pub high : ℕ
  pub price : ℕ
  pub is : pricing h ≡ cleared low high price
  pub says : Cleared h low high price

pub answer : (h : Hour) → PricesInRange h.steps → Clearable h → Answer h
answer h r c = go (pricing h) refl (pricing-is h r)
  where
    go : (a : Pricing) → pricing h ≡ a → Priced h a → Answer h
    go (cleared l u p) e s = record { low = l; high = u; price = p; is = e; says = s }
    go does_not_clear e s = absurd (s c)

-- M11: NO MORE EXCESS DEMAND, NO HIGHER ENDS
-- the second hour's buys above less its sells at or below, less its N, are at no price more than the first's
abbrev pub NoMoreExcess : Hour → Hour → Type 0
NoMoreExcess h h' = (p : ℕ) →
    buys_above p h'.steps + h'.block_buys + (sells_to p h.steps + h.block_sales)
    ≤ buys_above p h.steps + h.block_buys + (sells_to p h'.steps + h'.block_sales)

module _ (h h' : Hour) (less : NoMoreExcess h h') (l u p l' u' p' : ℕ) (a : Cleared h l u p) (a' : Cleared h' l' u' p') where
  pub low-not-higher : l' ≤ l
  low-not-higher = elim (dec_le l' l) [
    | yes k ↦ k
    | no k ↦
        let g : l < l' = lt_of_not-le k in
        let c : Clears h' l = record {
          demand_met = omega (arith, a.low_clears.demand_met, less l);
          supply_met = supply-down h' l l' (omega arith) a'.low_clears.supply_met;
        } in
        (a'.ends l a.positive (omega (arith, a.ordered, a.in_range)) c).0
  ]

  pub high-not-higher : u' ≤ u
  high-not-higher = elim (dec_le u' u) [ yes k ↦ k | no k ↦ at u' refl (lt_of_not-le k) ]
    where
      at : (q : ℕ) → q ≡ u' → u < q → u' ≤ u
      at zero e g = absurd (omega arith)
      at (suc q) e g =
          let su : SupplyMet h' (suc q) = rw e a'.high_clears.supply_met in
          let c : Clears h (suc q) = record {
            demand_met = demand-on h u (suc q) (omega arith) a.high_clears.demand_met;
            supply_met = (supply-before h q).1 (omega (arith, (supply-before h' q).0 su, less q));
          } in
          omega (arith, a.ends (suc q) (omega arith) (omega (arith, a'.in_range)) c)

  pub price-not-higher : p' ≤ p
  price-not-higher = omega (arith, low-not-higher, high-not-higher, a.is_middle, a'.is_middle)

-- THE ANSWER DEPENDS ON N ALONE
pub test-same : (x y x' y' : ℕ) → x + y' ≡ x' + y → leb x y ≡ leb x' y'
test-same x y x' y' e = by_le (λ t. t ≡ leb x' y') x y (λ h. rw (le-leb x' y' (omega arith))) (λ h. rw (lt-leb x' y' (omega arith)))

-- an hour by its steps, block sales and block purchases
abbrev pub net : List Step → ℕ → ℕ → Hour
net l s b = record { steps = l; block_sales = s; block_buys = b }

module _ (l : List Step) (s b s' b' : ℕ) (same : s + b' ≡ s' + b) where
  clears-net : (p : ℕ) → clears (net l s b) p ≡ clears (net l s' b') p
  unfolding clears
  clears-net p =
      rw (
        test-same (buys_above p l + b) (sells_to p l + s) (buys_above p l + b') (sells_to p l + s') (omega arith),
        test-same (sells_below p l + s) (buys_from p l + b) (sells_below p l + s') (buys_from p l + b') (omega arith),
      )

  pub pricing-net : pricing (net l s b) ≡ pricing (net l s' b')
  unfolding pricing
  pricing-net = ap (λ (t : ℕ → Bool). between (least t max_price) (greatest t max_price)) (fun_ext clears-net)
