-- WHAT IS NOT BEST, from the statement of demand 3 alone, at whatever quantities and welfare: the first block where the second brings more; the block
-- of S5 left out, or of S3, or of a day where it brings one tenth of a cent; both blocks of S6, or the second alone. Assumes nothing.
-- (Laws of the same definitions import it, so that a wrong one is met here first.)
use Prim.Native.Nat.{ℕ, ◌≤◌}
use mathlib.Core.Bool.{Bool, true, false, false≢true}
use mathlib.Core.Path.{refl}
use mathlib.Core.List.{List, [], ◌∷◌}
use native.Mathlib.Omega.{arith}
use Rattle.rules.specs.Orders.{Step, Block, buy, sell}
use Rattle.rules.specs.Day.{Day}
use Rattle.rules.specs.Contender.{Each, Within, Contender, HasWelfare, WelfareAtMost, BeatsAll}
use Rattle.rules.specs.WorkedDays.{step}
use Rattle.rules.specs.Cases.{base_day_of, s3, s5, s6, uneven, narrow}
use Rattle.rules.proofs.ContenderCases
use Rattle.rules.proofs.HourSums.{each-hour}
use Rattle.rules.proofs.CertifiedHours.{computed, prices-tested, hour-counts}

-- four steps have four quantities
by-four : (P : List ℕ → Type 0) (a b c d : Step) → ((p q r s : ℕ) → P (p ∷ q ∷ r ∷ s ∷ [])) →
    (qs : List ℕ) → Each Within (a ∷ b ∷ c ∷ d ∷ []) qs → P qs
by-four P a b c d f [] e = absurd e
by-four P a b c d f (p ∷ []) e = absurd e.1
by-four P a b c d f (p ∷ q ∷ []) e = absurd e.1.1
by-four P a b c d f (p ∷ q ∷ r ∷ []) e = absurd e.1.1.1
by-four P a b c d f (p ∷ q ∷ r ∷ s ∷ []) e = f p q r s
by-four P a b c d f (p ∷ q ∷ r ∷ s ∷ t ∷ l) e = absurd e.1.1.1.1

-- the steps of the base book, and those of the day where a block brings one tenth of a cent
abbrev base_buy_1 : Step
base_buy_1 = (step 1 buy 1 100 5000).step

abbrev base_sell_1 : Step
base_sell_1 = (step 2 sell 1 100 3000).step

abbrev base_buy_2 : Step
base_buy_2 = (step 3 buy 2 100 5000).step

abbrev base_sell_2 : Step
base_sell_2 = (step 4 sell 2 100 3000).step

abbrev narrow_buy_1 : Step
narrow_buy_1 = (step 1 buy 1 2 5000).step

abbrev narrow_sell_1 : Step
narrow_sell_1 = (step 2 sell 1 2 3000).step

abbrev narrow_buy_2 : Step
narrow_buy_2 = (step 3 buy 2 2 5000).step

abbrev narrow_sell_2 : Step
narrow_sell_2 = (step 4 sell 2 2 3001).step

-- what a set of the day brings at most, whatever the quantities
abbrev AtMost : Day → List Bool → ℕ → Type 0
AtMost day set most = (qs : List ℕ) (w : ℕ) → Contender day set qs → HasWelfare day set qs w → w ≤ most

-- THE FIRST BLOCK ALONE, which brings 410000, where the second brings 420000
uneven-second-contends : Contender uneven (false ∷ true ∷ []) (100 ∷ 50 ∷ 100 ∷ 50 ∷ [])
unfolding computed
uneven-second-contends = record {
  of_blocks = refl;
  permitted = refl;
  within = omega arith;
  balanced = each-hour _ (omega arith);
  limits = rw prices-tested refl;
}

uneven-second-welfare : HasWelfare uneven (false ∷ true ∷ []) (100 ∷ 50 ∷ 100 ∷ 50 ∷ []) 420000
unfolding computed
uneven-second-welfare = refl

uneven-first-most : AtMost uneven (true ∷ false ∷ []) 410000
unfolding computed
uneven-first-most qs w c =
    by-four (λ l. Contender uneven (true ∷ false ∷ []) l → HasWelfare uneven (true ∷ false ∷ []) l w → w ≤ 410000) base_buy_1 base_sell_1 base_buy_2 base_sell_2
    (λ p q r s c e. omega (arith, c.within, c.balanced 1 (hour-counts 1 refl), c.balanced 2 (hour-counts 2 refl))) qs c.within c

pub uneven-first-not-best : (quantities : List ℕ) (w : ℕ) → ¬ BeatsAll uneven (true ∷ false ∷ []) quantities w
uneven-first-not-best quantities w b =
    let most : w ≤ 410000 = uneven-first-most quantities w b.contends b.counted in
    let least : WelfareAtMost uneven (false ∷ true ∷ []) (100 ∷ 50 ∷ 100 ∷ 50 ∷ []) w = b.none_above _ _ uneven-second-contends in
    omega (arith, uneven-second-welfare)

-- THE BASE BOOK with a block left out: in each hour at most 100 are traded, at 2000 each
left-out-most : (b : Block) → AtMost (base_day_of (b ∷ [])) (false ∷ []) 400000
unfolding computed
left-out-most b qs w c =
    by-four (λ l. Contender (base_day_of (b ∷ [])) (false ∷ []) l → HasWelfare (base_day_of (b ∷ [])) (false ∷ []) l w → w ≤ 400000) base_buy_1 base_sell_1 base_buy_2 base_sell_2
    (λ p q r s c e. omega (arith, c.within, c.balanced 1 (hour-counts 1 refl), c.balanced 2 (hour-counts 2 refl))) qs c.within c

-- S5: with its block, which takes the place of 50 of each sell step, the welfare is 410000
pub s5-taken-contends : Contender s5 (true ∷ []) (100 ∷ 50 ∷ 100 ∷ 50 ∷ [])
unfolding computed
s5-taken-contends = record {
  of_blocks = refl;
  permitted = refl;
  within = omega arith;
  balanced = each-hour _ (omega arith);
  limits = rw prices-tested refl;
}

pub s5-taken-welfare : HasWelfare s5 (true ∷ []) (100 ∷ 50 ∷ 100 ∷ 50 ∷ []) 410000
unfolding computed
s5-taken-welfare = refl

pub s5-left-out-not-best : (quantities : List ℕ) (w : ℕ) → ¬ BeatsAll s5 (false ∷ []) quantities w
s5-left-out-not-best quantities w b =
    let most : w ≤ 400000 = left-out-most _ quantities w b.contends b.counted in
    let least : WelfareAtMost s5 (true ∷ []) (100 ∷ 50 ∷ 100 ∷ 50 ∷ []) w = b.none_above _ _ s5-taken-contends in
    omega (arith, s5-taken-welfare)

-- BY ONE TENTH OF A CENT: 7999 with the block, 7998 without
narrow-taken-contends : Contender narrow (true ∷ []) (2 ∷ 1 ∷ 2 ∷ 1 ∷ [])
unfolding computed
narrow-taken-contends = record {
  of_blocks = refl;
  permitted = refl;
  within = omega arith;
  balanced = each-hour _ (omega arith);
  limits = rw prices-tested refl;
}

narrow-taken-welfare : HasWelfare narrow (true ∷ []) (2 ∷ 1 ∷ 2 ∷ 1 ∷ []) 7999
unfolding computed
narrow-taken-welfare = refl

narrow-left-out-most : AtMost narrow (false ∷ []) 7998
unfolding computed
narrow-left-out-most qs w c =
    by-four (λ l. Contender narrow (false ∷ []) l → HasWelfare narrow (false ∷ []) l w → w ≤ 7998) narrow_buy_1 narrow_sell_1 narrow_buy_2 narrow_sell_2
    (λ p q r s c e. omega (arith, c.within, c.balanced 1 (hour-counts 1 refl), c.balanced 2 (hour-counts 2 refl))) qs c.within c

pub narrow-left-out-not-best : (quantities : List ℕ) (w : ℕ) → ¬ BeatsAll narrow (false ∷ []) quantities w
narrow-left-out-not-best quantities w b =
    let most : w ≤ 7998 = narrow-left-out-most quantities w b.contends b.counted in
    let least : WelfareAtMost narrow (true ∷ []) (2 ∷ 1 ∷ 2 ∷ 1 ∷ []) w = b.none_above _ _ narrow-taken-contends in
    omega (arith, narrow-taken-welfare)

-- S3: with its block the welfare is the same, 400000, and the tie is the block's
pub s3-taken-contends : Contender s3 (true ∷ []) (100 ∷ 50 ∷ 100 ∷ 50 ∷ [])
unfolding computed
s3-taken-contends = record {
  of_blocks = refl;
  permitted = refl;
  within = omega arith;
  balanced = each-hour _ (omega arith);
  limits = rw prices-tested refl;
}

pub s3-taken-welfare : HasWelfare s3 (true ∷ []) (100 ∷ 50 ∷ 100 ∷ 50 ∷ []) 400000
unfolding computed
s3-taken-welfare = refl

pub s3-left-out-not-best : (quantities : List ℕ) (w : ℕ) → ¬ BeatsAll s3 (false ∷ []) quantities w
s3-left-out-not-best quantities w b =
    let most : w ≤ 400000 = left-out-most _ quantities w b.contends b.counted in
    let least : WelfareAtMost s3 (true ∷ []) (100 ∷ 50 ∷ 100 ∷ 50 ∷ []) w = b.none_above _ _ s3-taken-contends in
    b.on_tie _ _ s3-taken-contends (omega (arith, s3-taken-welfare))

-- S6: with both blocks the prices are 1500, outside their limits
pub s6-both-not-best : (quantities : List ℕ) (w : ℕ) → ¬ BeatsAll s6 (true ∷ true ∷ []) quantities w
unfolding computed
s6-both-not-best quantities w b = false≢true (rw prices-tested at b.contends.limits)

-- of the two alone, which bring the same, the first
s6-first-contends : Contender s6 (true ∷ false ∷ []) (100 ∷ 50 ∷ 100 ∷ 50 ∷ [])
unfolding computed
s6-first-contends = record {
  of_blocks = refl;
  permitted = refl;
  within = omega arith;
  balanced = each-hour _ (omega arith);
  limits = rw prices-tested refl;
}

s6-first-welfare : HasWelfare s6 (true ∷ false ∷ []) (100 ∷ 50 ∷ 100 ∷ 50 ∷ []) 410000
unfolding computed
s6-first-welfare = refl

s6-second-most : AtMost s6 (false ∷ true ∷ []) 410000
unfolding computed
s6-second-most qs w c =
    by-four (λ l. Contender s6 (false ∷ true ∷ []) l → HasWelfare s6 (false ∷ true ∷ []) l w → w ≤ 410000) base_buy_1 base_sell_1 base_buy_2 base_sell_2
    (λ p q r s c e. omega (arith, c.within, c.balanced 1 (hour-counts 1 refl), c.balanced 2 (hour-counts 2 refl))) qs c.within c

pub s6-second-not-best : (quantities : List ℕ) (w : ℕ) → ¬ BeatsAll s6 (false ∷ true ∷ []) quantities w
s6-second-not-best quantities w b =
    let most : w ≤ 410000 = s6-second-most quantities w b.contends b.counted in
    let least : WelfareAtMost s6 (true ∷ false ∷ []) (100 ∷ 50 ∷ 100 ∷ 50 ∷ []) w = b.none_above _ _ s6-first-contends in
    b.on_tie _ _ s6-first-contends (omega (arith, s6-first-welfare))
