-- A RIVAL of a branch: other decisions on the same first blocks that come to the same place in every hour. What completes the branch to a lawful set
-- completes its rival to a lawful one, where its links allow that and each block it takes anew is outdone by one that the branch takes; and such a set loses
-- as much less as the rival's decided blocks do. So a branch need not be followed where its rival costs less. Assumes nothing.
use Prim.Native.Nat.{ℕ, suc, ◌+◌, ◌-◌, ◌≤◌, ◌<◌}
use mathlib.Core.Bool.{Bool, true, false}
use mathlib.Core.Path.{◌≡◌, refl, sym, ◌∙◌}
use mathlib.Core.List.{List, ◌++◌}
use native.Mathlib.Omega.{arith}
use native.Mathlib.Nat.{lt_of_not-le}
use native.Mathlib.Decide.{dec_le}
use lib.ListN.{length, get_or, length-append, get_or-append}
use lib.Seq.{get_or-append-add}
use Rattle.rules.specs.Orders.{Block}
use Rattle.rules.specs.Hour.{by_side}
use Rattle.rules.specs.Day.{Day, taken, keeps_limit, every_block, allowed, lawful}
use Rattle.rules.specs.Contender.{Counts, PricesInRange, HoursInRange}
use Rattle.rules.proofs.Tests.{by-test}
use Rattle.rules.proofs.LossLaws.{day_sum-counted, losses, loss_of, losses-split}
use Rattle.rules.proofs.PlaceLaws.{
  place,
  place-split,
  prices_at,
  gaps_at,
  keep-limits-same,
  gaps-by-place,
  lawful-by-places,
  lawful-clears,
  lawful-limits,
}
use Rattle.rules.proofs.SetPriceLaws.{day_shift, is-shift}
use Rattle.rules.proofs.LawCutLaws.{taken-passes}
use Rattle.rules.proofs.LinkLaws.{Closed}
use Rattle.rules.proofs.TwinLaws.{limit_of, taken-within, passes-taken, twin-keeps}
use Rattle.rules.proofs.RearrangedLaws.{no_block, block_at}

-- a block is outdone by another: it has its side and its hours, and a limit that holds wherever the other's does
pub record Outdone (hours : ℕ) (b by : Block) : Type 0 where
  pub same_side : b.side ≡ by.side
  pub same_runs : (h : ℕ) → b.runs h ≡ by.runs h
  -- for buys the other's limit is at most the block's, for sells the block's at most the other's
  pub looser : by_side b.side (limit_of hours by) (limit_of hours b) ≤ by_side b.side (limit_of hours b) (limit_of hours by)

-- so it keeps its limit at any prices at which the other does
pub outdone-keeps : {hours : ℕ} {b by : Block} (prices : ℕ → ℕ) → Outdone hours b by → keeps_limit hours prices by ≡ true → keeps_limit hours prices b ≡ true
outdone-keeps {hours} {b} {by} prices o e = twin-keeps b by o.same_side o.same_runs hours prices o.looser e

-- the decided blocks d' are a rival of d
pub record RivalOf (day : Day) (d d' : List Bool) : Type 0 where
  pub same_length : length d' ≡ length d
  pub same_places : (h : ℕ) → Counts day.hours h → place day.blocks d' h ≡ place day.blocks d h
  -- each block that it takes is taken in d too, or outdone by one that d takes
  pub blocks : (j : ℕ) → j < length d → get_or d' j false ≡ true → get_or d j false ≡ false →
      (i : ℕ) × (i < length d) × (get_or d i false ≡ true) × Outdone day.hours (block_at day.blocks j) (block_at day.blocks i)

-- PAST THE DECIDED BLOCKS two completed sets have the same decisions
same-past : (d d' t : List Bool) → length d' ≡ length d → (j : ℕ) → length d ≤ j → get_or (d' ++ t) j false ≡ get_or (d ++ t) j false
same-past d d' t same j past =
    let here : length d + (j - length d) ≡ j = omega arith in
    let there : length d' + (j - length d) ≡ j = omega arith in
    rw there at (get_or-append-add d' t (j - length d) false) ∙ sym (rw here at (get_or-append-add d t (j - length d) false))

-- A BRANCH AND ITS RIVAL, completed alike
module _ (day : Day) {d d' : List Bool} (rival : RivalOf day d d') (t : List Bool) (size : length (d ++ t) ≡ length day.blocks) where
  abbrev S : List Bool
  S = d ++ t

  abbrev S' : List Bool
  S' = d' ++ t

  size' : length S' ≡ length day.blocks
  size' = omega (arith, length-append d t, length-append d' t, rival.same_length)

  -- each hour that counts keeps its place
  same_place : (h : ℕ) → Counts day.hours h → place day.blocks S' h ≡ place day.blocks S h
  same_place h k =
      place-split day.blocks d' t h ∙ rw (rival.same_places h k, rival.same_length) (sym (place-split day.blocks d t h))

  -- LOSSES: the two sets' are apart by those of the decided blocks
  pub rival-loses : (p : ℕ → ℕ) →
      loss_of day p (d' ++ t) + losses day.hours p day.blocks d ≡ loss_of day p (d ++ t) + losses day.hours p day.blocks d'
  unfolding loss_of gaps_at
  rival-loses p =
      let rest = rw rival.same_length at (losses-split day.hours p day.blocks d' t) in
      let same = day_sum-counted day.hours (gaps_at day p (place day.blocks S')) (gaps_at day p (place day.blocks S)) (λ h k. rw (same_place h k)) in
      omega (arith, losses-split day.hours p day.blocks d t, gaps-by-place day S size p, gaps-by-place day S' size' p)

  -- LIMITS, under a lawful set
  module _ (prices : PricesInRange day.steps) (hours : HoursInRange day.steps) (law : lawful day (d ++ t) ≡ true) where
    -- the shift of the set serves the rival too
    abbrev own : ℕ
    own = day_shift day (taken day.blocks S)

    abbrev keeps : Block → Bool
    keeps = keeps_limit day.hours (prices_at day own (place day.blocks S))

    same-prices : (h : ℕ) → Counts day.hours h → prices_at day own (place day.blocks S') h ≡ prices_at day own (place day.blocks S) h
    unfolding prices_at
    same-prices h k = rw (same_place h k)

    before : (j : ℕ) → j < length day.blocks → get_or S j false ≡ true → keeps (block_at day.blocks j) ≡ true
    before j k is = taken-passes keeps day.blocks S (lawful-limits day S size prices hours law) j no_block k is

    -- each block of the rival's set keeps its limit: it is the set's too, or outdone by one of the set's
    each : (j : ℕ) → j < length day.blocks → get_or S' j false ≡ true → keeps (block_at day.blocks j) ≡ true
    each j k is = elim (dec_le (length d) j) [
      | yes past ↦ before j k (sym (same-past d d' t rival.same_length j past) ∙ is)
      | no less ↦ decided (lt_of_not-le less)
    ]
      where
        decided : j < length d → keeps (block_at day.blocks j) ≡ true
        decided m =
            by-test (λ _. keeps (block_at day.blocks j) ≡ true) (get_or d j false)
            (λ e. before j k (get_or-append d t false j m ∙ e))
            (λ e. outdone (rival.blocks j m (sym (get_or-append d' t false j (omega (arith, rival.same_length))) ∙ is) e))
          where
            outdone : ((i : ℕ) × (i < length d) × (get_or d i false ≡ true) × Outdone day.hours (block_at day.blocks j) (block_at day.blocks i)) →
                keeps (block_at day.blocks j) ≡ true
            outdone (i, inside, e, o) =
                outdone-keeps _ o (before i (omega (arith, length-append d t)) (get_or-append d t false i inside ∙ e))

    limits : every_block (keeps_limit day.hours (prices_at day own (place day.blocks S'))) (taken day.blocks S') ≡ true
    limits = keep-limits-same day.hours _ _ same-prices (taken day.blocks S') ∙ passes-taken no_block keeps day.blocks S' each

-- LAWFUL: what completes d to a lawful set completes its rival to one, where the links allow that
pub rival-lawful : (day : Day) → PricesInRange day.steps → HoursInRange day.steps → {d d' : List Bool} → RivalOf day d d' →
    (t : List Bool) → length (d ++ t) ≡ length day.blocks → allowed day (d' ++ t) ≡ true → lawful day (d ++ t) ≡ true → lawful day (d' ++ t) ≡ true
rival-lawful day prices hours {d} {d'} rival t size may law =
    lawful-by-places day (d' ++ t) (size' day rival t size) prices hours may
    (λ h k. rw (same_place day rival t size h k) (lawful-clears day (d ++ t) size prices hours law h k))
    (is-shift day (taken day.blocks (d ++ t))) (limits day rival t size prices hours law)

-- LINKS: the rival's set is closed too, where no block that it leaves out and d takes is the parent of one past the decided blocks
pub rival-closed : (parent : ℕ → ℕ) (d d' t : List Bool) → length d' ≡ length d → Closed parent d' → Closed parent (d ++ t) →
    ((k : ℕ) → k < length d → get_or d k false ≡ true → get_or d' k false ≡ false →
    (j : ℕ) → length d ≤ j → j < length (d ++ t) → parent j ≡ suc k → ⊥) →
    Closed parent (d' ++ t)
rival-closed parent d d' t same closed closed_all nobodys j k link is = elim (dec_le (length d) j) [
  | yes past ↦ later past
  | no less ↦ decided (lt_of_not-le less)
]
  where
    -- a decided block has its parent among them
    decided : j < length d → get_or (d' ++ t) k false ≡ true
    decided m =
        let parent_in = closed j k link (sym (get_or-append d' t false j (omega arith)) ∙ is) in
        get_or-append d' t false k (taken-within d' k parent_in) ∙ parent_in

    -- a later one has the parent that it has in the branch
    later : length d ≤ j → get_or (d' ++ t) k false ≡ true
    later past = elim (dec_le (length d) k) [
      | yes beyond ↦ same-past d d' t same k beyond ∙ parent_in
      | no less ↦ get_or-append d' t false k (omega (arith, lt_of_not-le less)) ∙ kept (lt_of_not-le less)
    ]
      where
        child-in : get_or (d ++ t) j false ≡ true
        child-in = sym (same-past d d' t same j past) ∙ is

        parent_in : get_or (d ++ t) k false ≡ true
        parent_in = closed_all j k link child-in

        kept : k < length d → get_or d' k false ≡ true
        kept m =
            by-test (λ x. x ≡ true) (get_or d' k false) (λ e. refl) (λ out.
            absurd (nobodys k m (sym (get_or-append d t false k m) ∙ parent_in) out j past (taken-within (d ++ t) j child-in) link))
