-- TWINS: two blocks of one side, the same hours and the same quantity. A set may exchange one for the other: every hour keeps its N and so its price.
-- Where the one keeps its limit whenever the other does, the exchange loses no more, and it breaks no link, the published set takes the other only together
-- with it. So the search may leave a block out where one ahead of it is left out, and only take it where one behind it is taken. Assumes nothing.
use Prim.Native.Nat.{ℕ, zero, suc, ◌+◌, ◌-◌, ◌*◌, ◌≤◌, ◌<◌}
use mathlib.Core.Bool.{Bool, true, false}
use mathlib.Core.Path.{◌≡◌, refl, sym, ap, subst, ◌∙◌, fun_ext}
use mathlib.Core.List.{List, [], ◌∷◌, ◌++◌}
use native.Mathlib.Omega.{arith}
use native.Mathlib.Nat.{suc_inj, lt_of_not-le, mul-le-mul_left}
use native.Mathlib.Decide.{dec_le, ℕ_discrete}
use lib.Dec.{leb}
use lib.ListN.{length, drop, get_or, set as put, length-set, length-drop, get_or-append}
use lib.Seq.{get_or-set_same, get_or-set_other, set-get_or, get_or-append_seam}
use borrow.Author.Tests.{leb-true, le-leb}
use Rattle.rules.specs.Orders.{Side, buy, sell, Block}
use Rattle.rules.specs.Hour.{by_side}
use Rattle.rules.specs.Execution.{test_side}
use Rattle.rules.specs.Day.{Day, taken, sells, buys, hour_count, price_sum, keeps_limit, every_block, allowed, lawful, welfare}
use Rattle.rules.specs.Outcome.{outcome}
use Rattle.rules.specs.Contender.{HoldsLowest, PricesInRange, HoursInRange, NumbersRise}
use Rattle.rules.proofs.Tests.{by-test, clash}
use Rattle.rules.proofs.BestLaws.{FirstBest, outcome-first}
use Rattle.rules.proofs.HourSums.{day_sum-same}
use Rattle.rules.proofs.DayLaws.{lawful-contends, empty-lawful}
use Rattle.rules.proofs.BoundLaws.{gain}
use Rattle.rules.proofs.LossLaws.{against, losses, loss_of, welfare-and-loss}
use Rattle.rules.proofs.PlaceLaws.{place, prices_at, gaps-by-place, lawful-by-places, lawful-clears, lawful-limits}
use Rattle.rules.proofs.SetPriceLaws.{day_shift, is-shift}
use Rattle.rules.proofs.LawCutLaws.{taken-passes}
use Rattle.rules.proofs.LinkLaws.{Closed, ClosedBy, number_at, numbers-order, positions-order}

-- a block's limit: its price times its hour count
abbrev pub limit_of : ℕ → Block → ℕ
limit_of hours b = b.price * hour_count hours b

-- block a may stand in for block b: where the day's parents are at such positions, a has no parent or b's, and b is nobody's parent
pub record Exchangeable (day : Day) (a b : ℕ) : Type 0 where
  pub parent : ℕ → ℕ
  pub parents : ClosedBy day parent
  pub none_or_same : (k : ℕ) → parent a ≡ suc k → parent b ≡ suc k
  pub nobodys : (j : ℕ) → j < length day.blocks → parent j ≡ suc b → ⊥

-- block a is ahead of its twin, block b, at hourly prices p: it keeps its limit wherever b does, and loses no more in b's place; to exchange them breaks
-- no link, for a has no parent or b's, and b is nobody's parent
pub record Ahead (day : Day) (p : ℕ → ℕ) (a b : ℕ) : Type 0 where
  pub first : Block
  pub second : Block
  pub first_at : drop a day.blocks ≡ first ∷ drop (suc a) day.blocks
  pub second_at : drop b day.blocks ≡ second ∷ drop (suc b) day.blocks
  pub same_side : first.side ≡ second.side
  pub same_hours : (h : ℕ) → first.runs h ≡ second.runs h
  pub same_quantity : first.quantity ≡ second.quantity
  -- for buys the second's limit is at most the first's, for sells the first's at most the second's
  pub limits : by_side first.side (limit_of day.hours second) (limit_of day.hours first)
      ≤ by_side first.side (limit_of day.hours first) (limit_of day.hours second)
  pub loses_no_more : against day.hours p first + gain day.hours p second ≤ gain day.hours p first + against day.hours p second
  -- less, where it has the higher number
  pub loses_less : second.number < first.number →
      against day.hours p first + gain day.hours p second < gain day.hours p first + against day.hours p second
  pub unlinked : Exchangeable day a b

-- a set in turn takes no block without every block ahead of it
abbrev pub InTurn : Day → (ℕ → ℕ) → List Bool → Type 0
InTurn day p set = (a b : ℕ) → Ahead day p a b → get_or set b false ≡ true → get_or set a false ≡ true

-- BLOCKS BY THEIR POSITION: the block there, and that the list reaches so far
pub block-at : (l : List Block) (j : ℕ) (b : Block) (after : List Block) (other : Block) → drop j l ≡ b ∷ after → get_or l j other ≡ b
block-at [] zero b after other e = let z : ◌≡◌ {A = ℕ} 0 1 = cc in absurd (omega arith)
block-at [] (suc j) b after other e = let z : ◌≡◌ {A = ℕ} 0 1 = cc in absurd (omega arith)
block-at (x ∷ l) zero b after other e = cc
block-at (x ∷ l) (suc j) b after other e = block-at l j b after other e

pub block_within : (l : List Block) (j : ℕ) (b : Block) (after : List Block) → drop j l ≡ b ∷ after → j < length l
block_within l j b after e = omega (arith, length-drop j l, ap length e)

pub number-at : (l : List Block) (j : ℕ) (b : Block) (after : List Block) → drop j l ≡ b ∷ after → number_at l j ≡ b.number
number-at [] zero b after e = let z : ◌≡◌ {A = ℕ} 0 1 = cc in absurd (omega arith)
number-at [] (suc j) b after e = let z : ◌≡◌ {A = ℕ} 0 1 = cc in absurd (omega arith)
number-at (x ∷ l) zero b after e = cc
number-at (x ∷ l) (suc j) b after e = number-at l j b after e

-- a set holds decisions as far as it takes blocks
pub taken-within : (set : List Bool) (j : ℕ) → get_or set j false ≡ true → j < length set
taken-within [] j e = clash e refl
taken-within (x ∷ set) zero e = omega arith
taken-within (x ∷ set) (suc j) e = omega (arith, taken-within set j e)

-- ONE BLOCK CHANGED: the place and the losses of a set that takes it, against those of the set that leaves it out
module _ (other : Block) where
  pub place-changed : (h : ℕ) (l : List Block) (set : List Bool) (j : ℕ) → length set ≡ length l → j < length l →
      place l (put set j true) h + buys h (get_or l j other) ≡ place l (put set j false) h + sells h (get_or l j other)
  unfolding place
  place-changed h [] set j e k = absurd (omega arith)
  place-changed h (b ∷ l) [] j e k = absurd (omega arith)
  place-changed h (b ∷ l) (x ∷ set) zero e k = omega arith
  place-changed h (b ∷ l) (true ∷ set) (suc j) e k = omega (arith, place-changed h l set j (suc_inj e) (omega arith))
  place-changed h (b ∷ l) (false ∷ set) (suc j) e k = omega (arith, place-changed h l set j (suc_inj e) (omega arith))

  pub losses-changed : (hours : ℕ) (p : ℕ → ℕ) (l : List Block) (set : List Bool) (j : ℕ) → length set ≡ length l → j < length l →
      losses hours p l (put set j true) + gain hours p (get_or l j other) ≡ losses hours p l (put set j false) + against hours p (get_or l j other)
  unfolding losses
  losses-changed hours p [] set j e k = absurd (omega arith)
  losses-changed hours p (b ∷ l) [] j e k = absurd (omega arith)
  losses-changed hours p (b ∷ l) (x ∷ set) zero e k = omega arith
  losses-changed hours p (b ∷ l) (true ∷ set) (suc j) e k = omega (arith, losses-changed hours p l set j (suc_inj e) (omega arith))
  losses-changed hours p (b ∷ l) (false ∷ set) (suc j) e k = omega (arith, losses-changed hours p l set j (suc_inj e) (omega arith))

  -- a test that passes for each block that is taken passes for all taken blocks
  pub passes-taken : (t : Block → Bool) (l : List Block) (set : List Bool) →
      ((j : ℕ) → j < length l → get_or set j false ≡ true → t (get_or l j other) ≡ true) → every_block t (taken l set) ≡ true
  passes-taken t [] set f = refl
  passes-taken t (b ∷ l) [] f = refl
  passes-taken t (b ∷ l) (true ∷ set) f = rw (f 0 (omega arith) refl, passes-taken t l set (λ j k. f (suc j) (omega arith)))
  passes-taken t (b ∷ l) (false ∷ set) f = passes-taken t l set (λ j k. f (suc j) (omega arith))

-- a set that leaves out the lowest block in which two differ does not hold it
pub not-lowest : (s t : List Bool) (a : ℕ) → a < length s → a < length t → ((j : ℕ) → j < a → get_or s j false ≡ get_or t j false) →
    get_or s a false ≡ false → get_or t a false ≡ true → HoldsLowest s t → ⊥
not-lowest [] t a k m same out is h = absurd (omega arith)
not-lowest (x ∷ s) [] a k m same out is h = absurd (omega arith)
not-lowest (true ∷ s) (y ∷ t) zero k m same out is h = clash refl out
not-lowest (false ∷ s) (true ∷ t) zero k m same out is h = h
not-lowest (false ∷ s) (false ∷ t) zero k m same out is h = clash is refl
not-lowest (true ∷ s) (true ∷ t) (suc a) k m same out is h =
    not-lowest s t a (omega arith) (omega arith) (λ j i. same (suc j) (omega arith)) out is h
not-lowest (true ∷ s) (false ∷ t) (suc a) k m same out is h = clash (sym (same 0 (omega arith))) refl
not-lowest (false ∷ s) (true ∷ t) (suc a) k m same out is h = clash (same 0 (omega arith)) refl
not-lowest (false ∷ s) (false ∷ t) (suc a) k m same out is h =
    not-lowest s t a (omega arith) (omega arith) (λ j i. same (suc j) (omega arith)) out is h

-- TWO TWINS
module _ (first second : Block) (side : first.side ≡ second.side) (runs : (h : ℕ) → first.runs h ≡ second.runs h) where
  -- they trade the same in every hour
  module _ (quantity : first.quantity ≡ second.quantity) (h : ℕ) where
    twin-sells : sells h first ≡ sells h second
    twin-sells = rw (side, runs h, quantity)

    twin-buys : buys h first ≡ buys h second
    twin-buys = rw (side, runs h, quantity)

  module _ (hours : ℕ) (price : ℕ → ℕ) where
    -- their hours have the same sum of prices
    twin-sum : price_sum hours price first ≡ price_sum hours price second
    unfolding price_sum
    twin-sum = day_sum-same hours _ _ (λ h. rw (runs h))

    -- the first keeps its limit if the second does
    pub twin-keeps : by_side first.side (limit_of hours second) (limit_of hours first) ≤ by_side first.side (limit_of hours first) (limit_of hours second) →
        keeps_limit hours price second ≡ true → keeps_limit hours price first ≡ true
    unfolding keeps_limit
    twin-keeps le e =
        let mine : ℕ = limit_of hours first in
        let yours : ℕ = limit_of hours second in
        let sum : ℕ = price_sum hours price second in
        rw twin-sum (go first.side sum mine yours le (subst (λ s. test_side s (leb sum yours) (leb yours sum) ≡ true) (sym side) e))
      where
        go : (s : Side) (sum mine yours : ℕ) → by_side s yours mine ≤ by_side s mine yours →
            test_side s (leb sum yours) (leb yours sum) ≡ true → test_side s (leb sum mine) (leb mine sum) ≡ true
        go buy sum mine yours le e = le-leb sum mine (omega (arith, leb-true sum yours e))
        go sell sum mine yours le e = le-leb mine sum (omega (arith, leb-true yours sum e))

-- BY THE LIMITS ALONE: at any prices the sell block with the lower limit is ahead, the buy block with the higher, of equals the lower-numbered one
below-by-limits : (s : Side) (q sum mine yours : ℕ) → by_side s yours mine ≤ by_side s mine yours →
    q * by_side s (sum - mine) (mine - sum) + q * by_side s (yours - sum) (sum - yours)
    ≤ q * by_side s (mine - sum) (sum - mine) + q * by_side s (sum - yours) (yours - sum)
below-by-limits buy q sum mine yours le =
    let k : (sum - mine) + (yours - sum) ≤ (mine - sum) + (sum - yours) = omega arith in omega (arith, mul-le-mul_left q k)
below-by-limits sell q sum mine yours le =
    let k : (mine - sum) + (sum - yours) ≤ (sum - mine) + (yours - sum) = omega arith in omega (arith, mul-le-mul_left q k)

less-by-limits : (s : Side) (q sum mine yours : ℕ) → 1 ≤ q → by_side s yours mine < by_side s mine yours →
    q * by_side s (sum - mine) (mine - sum) + q * by_side s (yours - sum) (sum - yours)
    < q * by_side s (mine - sum) (sum - mine) + q * by_side s (sum - yours) (yours - sum)
less-by-limits buy q sum mine yours some lt =
    let k : suc ((sum - mine) + (yours - sum)) ≤ (mine - sum) + (sum - yours) = omega arith in omega (arith, mul-le-mul_left q k)
less-by-limits sell q sum mine yours some lt =
    let k : suc ((mine - sum) + (sum - yours)) ≤ (sum - mine) + (yours - sum) = omega arith in omega (arith, mul-le-mul_left q k)

module _ (day : Day) (p : ℕ → ℕ) (a b : ℕ) (first second : Block)
    (first_at : drop a day.blocks ≡ first ∷ drop (suc a) day.blocks) (second_at : drop b day.blocks ≡ second ∷ drop (suc b) day.blocks)
    (side : first.side ≡ second.side) (runs : (h : ℕ) → first.runs h ≡ second.runs h) (quantity : first.quantity ≡ second.quantity) where
  abbrev H : ℕ
  H = day.hours

  abbrev mine : ℕ
  mine = limit_of H first

  abbrev yours : ℕ
  yours = limit_of H second

  second-against : against H p second ≡ first.quantity * by_side first.side (price_sum H p first - yours) (yours - price_sum H p first)
  unfolding against
  second-against = let sum = twin-sum first second side runs H p in cc

  second-gain : gain H p second ≡ first.quantity * by_side first.side (yours - price_sum H p first) (price_sum H p first - yours)
  unfolding gain
  second-gain = let sum = twin-sum first second side runs H p in cc

  -- the block at the lower position has the lower number
  numbered : NumbersRise 0 day.blocks → second.number < first.number → b < a
  numbered rise k =
      numbers-order 0 day.blocks b a rise (block_within day.blocks b _ _ second_at) (block_within day.blocks a _ _ first_at)
      (omega (arith, number-at day.blocks a _ _ first_at, number-at day.blocks b _ _ second_at))

  pub ahead-by-limits : NumbersRise 0 day.blocks → Exchangeable day a b → by_side first.side (limit_of day.hours second) (limit_of day.hours first)
      ≤ by_side first.side (limit_of day.hours first) (limit_of day.hours second) →
      (b < a → (1 ≤ first.quantity)
      × (by_side first.side (limit_of day.hours second) (limit_of day.hours first)
      < by_side first.side (limit_of day.hours first) (limit_of day.hours second))) →
      Ahead day p a b
  unfolding against gain
  ahead-by-limits rise unlinked le less = record {
    first = first;
    second = second;
    first_at = first_at;
    second_at = second_at;
    same_side = side;
    same_hours = runs;
    same_quantity = quantity;
    limits = le;
    loses_no_more = rw (second-against, second-gain) (below-by-limits first.side first.quantity (price_sum H p first) mine yours le);
    loses_less = λ k. rw (second-against, second-gain)
        (less-by-limits first.side first.quantity (price_sum H p first) mine yours (less (numbered rise k)).0 (less (numbered rise k)).1);
    unlinked = unlinked;
  }

-- THE EXCHANGE: a set takes the second and not the first; the exchanged set takes the first and not the second
module _ (day : Day) (p : ℕ → ℕ) (a b : ℕ) (ahead : Ahead day p a b) (set : List Bool) (size : length set ≡ length day.blocks)
    (out : get_or set a false ≡ false) (is : get_or set b false ≡ true) where
  abbrev exchanged : List Bool
  exchanged = put (put set a true) b false

  apart : a ≡ b → ⊥
  apart e = clash is (rw e at out)

  within : (a < length day.blocks) × (b < length day.blocks)
  within = (block_within day.blocks a _ _ ahead.first_at, block_within day.blocks b _ _ ahead.second_at)

  block-a : (other : Block) → get_or day.blocks a other ≡ ahead.first
  block-a other = block-at day.blocks a _ _ other ahead.first_at

  block-b : (other : Block) → get_or day.blocks b other ≡ ahead.second
  block-b other = block-at day.blocks b _ _ other ahead.second_at

  size-a : length (put set a true) ≡ length day.blocks
  size-a = length-set set a true ∙ size

  exchanged-size : length exchanged ≡ length day.blocks
  exchanged-size = length-set (put set a true) b false ∙ size-a

  -- the set itself leaves a out, and with a taken it still takes b
  out-a : put set a false ≡ set
  out-a = rw out at (set-get_or set a false)

  still-b : get_or (put set a true) b false ≡ true
  still-b = get_or-set_other set a b true false (λ e. apart (sym e)) ∙ is

  in_b : put (put set a true) b true ≡ put set a true
  in_b = rw still-b at (set-get_or (put set a true) b false)

  -- what the exchanged set takes: a, not b, and of the others what the set takes
  in-a : get_or exchanged a false ≡ true
  in-a = get_or-set_other (put set a true) b a false false apart ∙ get_or-set_same set a true false (omega (arith, within.0))

  out-b : get_or exchanged b false ≡ false
  out-b = get_or-set_same (put set a true) b false false (omega (arith, size-a, within.1))

  as_before : (j : ℕ) → (j ≡ a → ⊥) → (j ≡ b → ⊥) → get_or exchanged j false ≡ get_or set j false
  as_before j y z = get_or-set_other (put set a true) b j false false z ∙ get_or-set_other set a j true false y

  -- THE LAW OF `allowed`: the exchanged set is closed where the set is
  exchanged-closed : Closed ahead.unlinked.parent set → Closed ahead.unlinked.parent exchanged
  exchanged-closed closed j k link e = elim (ℕ_discrete k a) [
    | yes y ↦ rw (y, in-a)
    | no y ↦ as_before k y (λ z. links.nobodys j (omega (arith, exchanged-size, taken-within exchanged j e)) (link ∙ ap suc z)) ∙ parent_in
  ]
    where
      links : Exchangeable day a b
      links = ahead.unlinked

      parent_in : get_or set k false ≡ true
      parent_in = elim (ℕ_discrete j a) [
        | yes y ↦ closed b k (links.none_or_same k (rw y at link)) is
        | no y ↦ elim (ℕ_discrete j b) [
          | yes z ↦ clash (rw z at e) out-b
          | no z ↦ closed j k link (sym (as_before j y z) ∙ e)
        ]
      ]

  exchanged-allowed : allowed day set ≡ true → allowed day exchanged ≡ true
  exchanged-allowed e =
      ahead.unlinked.parents.allows exchanged exchanged-size (exchanged-closed (ahead.unlinked.parents.closed set size e))

  -- each hour keeps its place
  same_place : (h : ℕ) → place day.blocks exchanged h ≡ place day.blocks set h
  same_place h =
      let one = rw (block-a ahead.first, out-a) at (place-changed ahead.first h day.blocks set a size within.0) in
      let two = rw (block-b ahead.second, in_b) at (place-changed ahead.second h day.blocks (put set a true) b size-a within.1) in
      omega (
        arith,
        twin-sells ahead.first ahead.second ahead.same_side ahead.same_hours ahead.same_quantity h,
        twin-buys ahead.first ahead.second ahead.same_side ahead.same_hours ahead.same_quantity h,
      )

  same-places : place day.blocks exchanged ≡ place day.blocks set
  same-places = fun_ext same_place

  -- the losses differ by the twins' own
  exchange-loses : losses day.hours p day.blocks exchanged + (gain day.hours p ahead.first + against day.hours p ahead.second)
      ≡ losses day.hours p day.blocks set + (against day.hours p ahead.first + gain day.hours p ahead.second)
  exchange-loses =
      let one = rw (block-a ahead.first, out-a) at (losses-changed ahead.first day.hours p day.blocks set a size within.0) in
      let two = rw (block-b ahead.second, in_b) at (losses-changed ahead.second day.hours p day.blocks (put set a true) b size-a within.1) in
      omega arith

  loss-exchanged : loss_of day p exchanged + (gain day.hours p ahead.first + against day.hours p ahead.second)
      ≡ loss_of day p set + (against day.hours p ahead.first + gain day.hours p ahead.second)
  unfolding loss_of
  loss-exchanged =
      let one = gaps-by-place day set size p in
      let two = rw same-places at (gaps-by-place day exchanged exchanged-size p) in
      omega (arith, exchange-loses)

  module _ (prices : PricesInRange day.steps) (hours : HoursInRange day.steps) (law : lawful day set ≡ true) where
    -- the shift of the set serves the exchanged set too
    abbrev own : ℕ
    own = day_shift day (taken day.blocks set)

    -- each block of the exchanged set keeps its limit: the first since the second did
    exchanged-keeps : every_block (keeps_limit day.hours (prices_at day own (place day.blocks set))) (taken day.blocks exchanged) ≡ true
    exchanged-keeps = passes-taken ahead.first keeps day.blocks exchanged each
      where
        keeps : Block → Bool
        keeps = keeps_limit day.hours (prices_at day own (place day.blocks set))

        before : (j : ℕ) (other : Block) → j < length day.blocks → get_or set j false ≡ true → keeps (get_or day.blocks j other) ≡ true
        before = taken-passes keeps day.blocks set (lawful-limits day set size prices hours law)

        each : (j : ℕ) → j < length day.blocks → get_or exchanged j false ≡ true → keeps (get_or day.blocks j ahead.first) ≡ true
        each j k e = elim (ℕ_discrete j b) [
          | yes z ↦ clash (rw z at e) out-b
          | no z ↦ elim (ℕ_discrete j a) [
            | yes y ↦ rw (y, block-a ahead.first)
                (twin-keeps ahead.first ahead.second ahead.same_side ahead.same_hours day.hours _ ahead.limits
                (rw (block-b ahead.second) at (before b ahead.second within.1 is)))
            | no y ↦ before j ahead.first k (sym (as_before j y z) ∙ e)
          ]
        ]

    pub exchanged-lawful : lawful day (put (put set a true) b false) ≡ true
    exchanged-lawful =
        lawful-by-places day exchanged exchanged-size prices hours
        (exchanged-allowed (lawful-contends day prices hours set law size).permitted)
        (λ h k. rw (same_place h) (lawful-clears day set size prices hours law h k)) (is-shift day (taken day.blocks set))
        (rw same-places exchanged-keeps)

    -- the exchanged set's welfare is no less, and more where the first has the higher number
    pub exchanged-gains : (welfare day set ≤ welfare day (put (put set a true) b false))
        × (ahead.second.number < ahead.first.number → welfare day set < welfare day (put (put set a true) b false))
    exchanged-gains =
        let here = welfare-and-loss day prices hours p set size law in
        let there = welfare-and-loss day prices hours p exchanged exchanged-size exchanged-lawful in
        let moved = loss-exchanged in
        (omega (arith, ahead.loses_no_more), λ k. omega (arith, ahead.loses_less k))

    -- so the set is not the first of the best, where numbers rise
    pub not_first : NumbersRise 0 day.blocks → FirstBest day set → ⊥
    not_first rise best = elim (dec_le a b) [
      | yes k ↦ not-lowest set exchanged a (omega (arith, within.0)) (omega (arith, within.0, exchanged-size)) (below k) out in-a
          (w.1 (omega (arith, w.0, exchanged-gains.0)))
      | no k ↦ omega (arith, w.0, exchanged-gains.1 (higher (lt_of_not-le k)))
    ]
      where
        w : (welfare day exchanged ≤ welfare day set) × (welfare day exchanged ≡ welfare day set → HoldsLowest set exchanged)
        w = best.wins exchanged exchanged-size exchanged-lawful

        higher : b < a → ahead.second.number < ahead.first.number
        higher k = omega (
          arith,
          positions-order 0 day.blocks b a rise k within.0,
          number-at day.blocks a _ _ ahead.first_at,
          number-at day.blocks b _ _ ahead.second_at,
        )

        below : a ≤ b → (j : ℕ) → j < a → get_or set j false ≡ get_or exchanged j false
        below k j i = sym (as_before j (λ e. omega arith) (λ e. omega arith))

-- THE PUBLISHED SET takes the block ahead wherever it takes its twin
module _ (day : Day) (prices : PricesInRange day.steps) (hours : HoursInRange day.steps) (rise : NumbersRise 0 day.blocks) (p : ℕ → ℕ) where
  pub outcome-ahead : (a b : ℕ) → Ahead day p a b → get_or (outcome day) b false ≡ true → get_or (outcome day) a false ≡ true
  outcome-ahead a b ahead is =
      by-test (λ t. t ≡ true) (get_or (outcome day) a false) (λ e. refl) (λ out.
      let f = outcome-first day (empty-lawful day prices hours) in
      absurd (not_first day p a b ahead (outcome day) f.of_blocks out is prices hours f.is_lawful rise f))

  -- so it is a set in turn
  pub outcome-in-turn : InTurn day p (outcome day)
  outcome-in-turn = outcome-ahead

-- A SEARCH AMONG SETS IN TURN: the next block is not taken where one ahead of it is left out
pub turn-left : (day : Day) (p : ℕ → ℕ) (d : List Bool) (a : ℕ) → a < length d → Ahead day p a (length d) → get_or d a false ≡ false →
    (t : List Bool) → InTurn day p (d ++ (true ∷ t)) → ⊥
turn-left day p d a k ahead out t turn =
    clash (turn a (length d) ahead (get_or-append_seam d true t false)) (get_or-append d (true ∷ t) false a k ∙ out)

-- and it is not left out where one behind it is taken
pub turn-taken : (day : Day) (p : ℕ → ℕ) (d : List Bool) (b : ℕ) → b < length d → Ahead day p (length d) b → get_or d b false ≡ true →
    (t : List Bool) → InTurn day p (d ++ (false ∷ t)) → ⊥
turn-taken day p d b k ahead is t turn =
    clash (turn (length d) b ahead (get_or-append d (false ∷ t) false b k ∙ is)) (get_or-append_seam d false t false)
