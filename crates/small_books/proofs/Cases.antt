-- Small books decided by the definitions alone, among them document 01's head alone, the record that is its own next, hour 3 on each day, links, and steps
-- of one portfolio and hour. Each line of bytes is a record. Assumes nothing.
use Prim.Native.Nat.{ℕ, zero, suc, ◌+◌}
use mathlib.Core.Path.{◌≡◌, refl}
use mathlib.Core.List.{List, [], ◌∷◌}
use mathlib.Core.Bool.{true, false}
use Rattle.records.specs.Bytes.{u16_at, u24_at, u32_at, nonzero}
use Rattle.fields.specs.Tests.{within, some_below, some_in, count_in}
use Rattle.rules.specs.Orders.{limits}
use Rattle.rules.specs.Day.{weight, is_counted, sum_to, day_sum}
use Rattle.records.specs.Records.{step_at, block_at, link_at, link_rest, record_at, hours_set}
use Rattle.chains.specs.Chains.{chain_from, chains, is_on, step_order, block_order, link_order, links}
use Rattle.fields.specs.Ranges.{step_fits, block_fits, step_in_range, block_in_range, link_in_range, record_in_range, out_of_range}
use Rattle.chains.specs.Causes.{misplaced, broken, broken_on, broken_chain, wrong_field_on, wrong_field, stray, stray_record, owned_by}
use Rattle.book.specs.Refusals.{wrong_size, links_too_early, wrong_head, too_many_of, too_many_blocks, too_many_steps, first_cause, own_causes, refusal}
use Rattle.chains.specs.Causes.{uncounted, uncounted_on, wrong_hours, is_number, has_block, misnamed, wrong_link, is_for, steps_for, more_steps_in, more_steps}
use Rattle.fields.specs.Hours.{counted_hours}
use Rattle.std.specs.Prelude.{Ok, Err}
use Rattle.book.specs.Numbers.{refusal_numbered, answered}
use Rattle.book.specs.Answers.{reading}
use Rattle.book.specs.declared.Counted.{Counted}
use Rattle.book.specs.declared.refusal.Refusal.TheVariants as refused-for

-- So many steps and blocks
abbrev counts : ℕ → ℕ → Counted
counts steps blocks = record { steps = steps; blocks = blocks }

-- A book of the head alone
pub head_alone : List ℕ
head_alone = 0 ∷ 1 ∷ 0 ∷ 0 ∷ 0 ∷ 0 ∷ 24 ∷ 1 ∷ 0 ∷ 0 ∷ 0 ∷ 0 ∷ 0 ∷ 0 ∷ 0 ∷ 0 ∷ []

-- A step, buy 100 at 5000 in hour 1, and a block, sell 50 over hours 1 and 2 at 2900
pub step_and_block : List ℕ
step_and_block =
    0 ∷ 3 ∷ 0 ∷ 1 ∷ 0 ∷ 2 ∷ 24 ∷ 1 ∷ 0 ∷ 0 ∷ 0 ∷ 0 ∷ 0 ∷ 0 ∷ 0 ∷ 0
    ∷ 1 ∷ 0 ∷ 0 ∷ 0 ∷ 0 ∷ 1 ∷ 1 ∷ 1 ∷ 0 ∷ 0 ∷ 19 ∷ 136 ∷ 0 ∷ 0 ∷ 0 ∷ 100
    ∷ 2 ∷ 1 ∷ 0 ∷ 0 ∷ 0 ∷ 1 ∷ 0 ∷ 3 ∷ 0 ∷ 0 ∷ 3 ∷ 0 ∷ 11 ∷ 84 ∷ 0 ∷ 50
    ∷ []

-- A step that is its own next
pub own_next : List ℕ
own_next =
    0 ∷ 2 ∷ 0 ∷ 1 ∷ 0 ∷ 0 ∷ 24 ∷ 1 ∷ 0 ∷ 0 ∷ 0 ∷ 0 ∷ 0 ∷ 0 ∷ 0 ∷ 0
    ∷ 1 ∷ 0 ∷ 0 ∷ 1 ∷ 0 ∷ 1 ∷ 1 ∷ 1 ∷ 0 ∷ 0 ∷ 19 ∷ 136 ∷ 0 ∷ 0 ∷ 0 ∷ 100
    ∷ []

-- Two causes at once: a step at price 0, and a block chain that meets a step
pub both_causes : List ℕ
both_causes =
    0 ∷ 3 ∷ 0 ∷ 1 ∷ 0 ∷ 2 ∷ 24 ∷ 1 ∷ 0 ∷ 0 ∷ 0 ∷ 0 ∷ 0 ∷ 0 ∷ 0 ∷ 0
    ∷ 1 ∷ 0 ∷ 0 ∷ 0 ∷ 0 ∷ 1 ∷ 1 ∷ 1 ∷ 0 ∷ 0 ∷ 0 ∷ 0 ∷ 0 ∷ 0 ∷ 0 ∷ 100
    ∷ 1 ∷ 1 ∷ 0 ∷ 0 ∷ 0 ∷ 1 ∷ 1 ∷ 1 ∷ 0 ∷ 0 ∷ 19 ∷ 136 ∷ 0 ∷ 0 ∷ 0 ∷ 100
    ∷ []

-- Record 2 is on no chain
pub left_over : List ℕ
left_over =
    0 ∷ 3 ∷ 0 ∷ 1 ∷ 0 ∷ 0 ∷ 24 ∷ 1 ∷ 0 ∷ 0 ∷ 0 ∷ 0 ∷ 0 ∷ 0 ∷ 0 ∷ 0
    ∷ 1 ∷ 0 ∷ 0 ∷ 0 ∷ 0 ∷ 1 ∷ 1 ∷ 1 ∷ 0 ∷ 0 ∷ 19 ∷ 136 ∷ 0 ∷ 0 ∷ 0 ∷ 100
    ∷ 1 ∷ 1 ∷ 0 ∷ 0 ∷ 0 ∷ 2 ∷ 1 ∷ 1 ∷ 0 ∷ 0 ∷ 19 ∷ 136 ∷ 0 ∷ 0 ∷ 0 ∷ 100
    ∷ []

-- The head alone, of an edition
pub head_of : ℕ → List ℕ
head_of edition = 0 ∷ 1 ∷ 0 ∷ 0 ∷ 0 ∷ 0 ∷ 24 ∷ edition ∷ 0 ∷ 0 ∷ 0 ∷ 0 ∷ 0 ∷ 0 ∷ 0 ∷ 0 ∷ []

-- Of an edition, a block of a quantity: sell over hours 1 and 2 at 2900
pub block_of : ℕ → ℕ → List ℕ
block_of edition quantity =
    0 ∷ 2 ∷ 0 ∷ 0 ∷ 0 ∷ 1 ∷ 24 ∷ edition ∷ 0 ∷ 0 ∷ 0 ∷ 0 ∷ 0 ∷ 0 ∷ 0 ∷ 0
    ∷ 2 ∷ 1 ∷ 0 ∷ 0 ∷ 0 ∷ 1 ∷ 0 ∷ 1 ∷ 0 ∷ 0 ∷ 3 ∷ 0 ∷ 11 ∷ 84 ∷ 0 ∷ quantity
    ∷ []

-- So many blocks of portfolio 1 in the records from k on, each the next of the one before
pub blocks_from : ℕ → ℕ → List ℕ
blocks_from zero k = []
blocks_from (suc zero) k = 2 ∷ 1 ∷ 0 ∷ 0 ∷ 0 ∷ k ∷ 0 ∷ 1 ∷ 0 ∷ 0 ∷ 3 ∷ 0 ∷ 11 ∷ 84 ∷ 0 ∷ 50 ∷ []
blocks_from (suc (suc n)) k =
    2 ∷ 1 ∷ 0 ∷ (k + 1) ∷ 0 ∷ k ∷ 0 ∷ 1 ∷ 0 ∷ 0 ∷ 3 ∷ 0 ∷ 11 ∷ 84 ∷ 0 ∷ 50 ∷ blocks_from (suc n) (k + 1)

-- Of an edition, so many blocks of one portfolio
pub portfolio_of : ℕ → ℕ → List ℕ
portfolio_of edition count = 0 ∷ (count + 1) ∷ 0 ∷ 0 ∷ 0 ∷ 1 ∷ 24 ∷ edition ∷ 0 ∷ 0 ∷ 0 ∷ 0 ∷ 0 ∷ 0 ∷ 0 ∷ 0 ∷ blocks_from count 1

-- The head alone, on a day of so many hours
pub head_on : ℕ → List ℕ
head_on hours = 0 ∷ 1 ∷ 0 ∷ 0 ∷ 0 ∷ 0 ∷ hours ∷ 1 ∷ 0 ∷ 0 ∷ 0 ∷ 0 ∷ 0 ∷ 0 ∷ 0 ∷ 0 ∷ []

-- A step, buy 100 at 5000 in hour 3, on a day of so many hours
pub step_of3 : ℕ → List ℕ
step_of3 hours =
    0 ∷ 2 ∷ 0 ∷ 1 ∷ 0 ∷ 0 ∷ hours ∷ 1 ∷ 0 ∷ 0 ∷ 0 ∷ 0 ∷ 0 ∷ 0 ∷ 0 ∷ 0
    ∷ 1 ∷ 0 ∷ 0 ∷ 0 ∷ 0 ∷ 1 ∷ 3 ∷ 1 ∷ 0 ∷ 0 ∷ 19 ∷ 136 ∷ 0 ∷ 0 ∷ 0 ∷ 100
    ∷ []

-- A block, sell 50 at 2900 over hours given as bits, on a day of so many hours
pub block_over : ℕ → ℕ → List ℕ
block_over hours bits =
    0 ∷ 2 ∷ 0 ∷ 0 ∷ 0 ∷ 1 ∷ hours ∷ 1 ∷ 0 ∷ 0 ∷ 0 ∷ 0 ∷ 0 ∷ 0 ∷ 0 ∷ 0
    ∷ 2 ∷ 1 ∷ 0 ∷ 0 ∷ 0 ∷ 1 ∷ 0 ∷ 3 ∷ 0 ∷ 0 ∷ bits ∷ 0 ∷ 11 ∷ 84 ∷ 0 ∷ 50
    ∷ []

-- What reading each of them answers
pub record SmallBooks : Type 0 where
  pub head : reading head_alone ≡ Ok (counts 0 0)
  pub orders : reading step_and_block ≡ Ok (counts 1 1)
  pub loop : reading own_next ≡ Err refused-for.BrokenChain
  pub two : reading both_causes ≡ Err refused-for.BrokenChain
  pub left : reading left_over ≡ Err refused-for.StrayRecord
  -- head byte 6: 23 and 25 hours, and no fewer or more
  pub spring : reading (head_on 23) ≡ Ok (counts 0 0)
  pub autumn : reading (head_on 25) ≡ Ok (counts 0 0)
  pub shorter : reading (head_on 22) ≡ Err refused-for.WrongHead
  pub longer : reading (head_on 26) ≡ Err refused-for.WrongHead
  -- a step for hour 3 on 23, 24 and 25 hours
  pub step_on23 : reading (step_of3 23) ≡ Err refused-for.WrongHours
  pub step_on24 : reading (step_of3 24) ≡ Ok (counts 1 0)
  pub step_on25 : reading (step_of3 25) ≡ Ok (counts 1 0)
  -- a block of hours 2 and 3 on 23 hours and on 24, of 2, 3 and 4 on 23; of hour 3 alone on 25, which counts twice but is one hour
  pub two_on23 : reading (block_over 23 6) ≡ Err refused-for.WrongHours
  pub two_on24 : reading (block_over 24 6) ≡ Ok (counts 0 1)
  pub three_on23 : reading (block_over 23 14) ≡ Ok (counts 0 1)
  pub one_on25 : reading (block_over 25 4) ≡ Err refused-for.WrongField

pub decided : SmallBooks
unfolding
    head_alone step_and_block own_next both_causes left_over head_on step_of3 block_over u16_at u24_at u32_at nonzero within some_below some_in count_in limits step_at block_at
    record_at hours_set chain_from chains is_on step_order block_order link_order links wrong_size links_too_early wrong_head misplaced broken broken_on broken_chain
    step_fits block_fits step_in_range
    block_in_range record_in_range out_of_range wrong_field_on wrong_field stray stray_record owned_by too_many_of too_many_blocks weight is_counted sum_to day_sum counted_hours
    uncounted uncounted_on wrong_hours wrong_link too_many_steps first_cause own_causes refusal refusal_numbered answered reading
decided = record {
  head = refl;
  orders = refl;
  loop = refl;
  two = refl;
  left = refl;
  spring = refl;
  autumn = refl;
  shorter = refl;
  longer = refl;
  step_on23 = refl;
  step_on24 = refl;
  step_on25 = refl;
  two_on23 = refl;
  two_on24 = refl;
  three_on23 = refl;
  one_on25 = refl;
}

-- THE EDITIONS, at their limits
pub record Editions : Type 0 where
  pub second : reading (head_of 2) ≡ Ok (counts 0 0)
  pub third : reading (head_of 3) ≡ Ok (counts 0 0)
  pub fourth : reading (head_of 4) ≡ Ok (counts 0 0)
  pub fifth : reading (head_of 5) ≡ Err refused-for.WrongHead
  pub zeroth : reading (head_of 0) ≡ Err refused-for.WrongHead
  pub most : reading (block_of 1 50) ≡ Ok (counts 0 1)
  pub too_much : reading (block_of 1 51) ≡ Err refused-for.WrongField
  pub most_of_notice : reading (block_of 2 250) ≡ Ok (counts 0 1)
  pub too_much_of_notice : reading (block_of 2 251) ≡ Err refused-for.WrongField
  pub five : reading (portfolio_of 1 5) ≡ Ok (counts 0 5)
  pub six : reading (portfolio_of 1 6) ≡ Err refused-for.TooManyBlocks
  pub six_of_notice : reading (portfolio_of 2 6) ≡ Ok (counts 0 6)
  pub ten_of_notice : reading (portfolio_of 2 10) ≡ Ok (counts 0 10)
  pub eleven_of_notice : reading (portfolio_of 2 11) ≡ Err refused-for.TooManyBlocks
  pub eleven_with_links : reading (portfolio_of 3 11) ≡ Err refused-for.TooManyBlocks
  -- edition 4 has all of edition 3
  pub most_of_fourth : reading (block_of 4 250) ≡ Ok (counts 0 1)
  pub too_much_of_fourth : reading (block_of 4 251) ≡ Err refused-for.WrongField
  pub ten_of_fourth : reading (portfolio_of 4 10) ≡ Ok (counts 0 10)
  pub eleven_of_fourth : reading (portfolio_of 4 11) ≡ Err refused-for.TooManyBlocks

pub at-the-limits : Editions
unfolding
    head_of block_of blocks_from portfolio_of u16_at u24_at u32_at nonzero within some_below some_in count_in limits step_at block_at record_at hours_set
    chain_from chains is_on step_order block_order link_order links wrong_size links_too_early wrong_head misplaced broken broken_on broken_chain step_fits block_fits
    step_in_range block_in_range
    record_in_range out_of_range wrong_field_on wrong_field stray stray_record owned_by too_many_of too_many_blocks wrong_hours wrong_link
    is_for steps_for more_steps_in more_steps too_many_steps first_cause own_causes refusal refusal_numbered answered reading
at-the-limits =
    record {
      second = refl;
      third = refl;
      fourth = refl;
      fifth = refl;
      zeroth = refl;
      most = refl;
      too_much = refl;
      most_of_notice = refl;
      too_much_of_notice = refl;
      five = refl;
      six = refl;
      six_of_notice = refl;
      ten_of_notice = refl;
      eleven_of_notice = refl;
      eleven_with_links = refl;
      most_of_fourth = refl;
      too_much_of_fourth = refl;
      ten_of_fourth = refl;
      eleven_of_fourth = refl;
    }

-- LINKS
-- Of an edition, on a day of so many hours: blocks 2 and 4 over hours given as bits, the index of the first link, and a third record
pub family_of : (hours edition bits first : ℕ) → List ℕ → List ℕ
family_of hours edition bits first third =
    0 ∷ 4 ∷ 0 ∷ 0 ∷ 0 ∷ 1 ∷ hours ∷ edition ∷ 0 ∷ first ∷ 0 ∷ 0 ∷ 0 ∷ 0 ∷ 0 ∷ 0
    ∷ 2 ∷ 1 ∷ 0 ∷ 2 ∷ 0 ∷ 2 ∷ 0 ∷ 1 ∷ 0 ∷ 0 ∷ bits ∷ 0 ∷ 11 ∷ 84 ∷ 0 ∷ 50
    ∷ 2 ∷ 1 ∷ 0 ∷ 0 ∷ 0 ∷ 4 ∷ 0 ∷ 1 ∷ 0 ∷ 0 ∷ bits ∷ 0 ∷ 11 ∷ 84 ∷ 0 ∷ 50
    ∷ third

-- A link's bytes: byte 1, the record that follows, child, parent, byte 15
pub link_bytes : (second next child parent last : ℕ) → List ℕ
link_bytes second next child parent last =
    3 ∷ second ∷ 0 ∷ next ∷ 0 ∷ child ∷ 0 ∷ parent ∷ 0 ∷ 0 ∷ 0 ∷ 0 ∷ 0 ∷ 0 ∷ 0 ∷ last ∷ []

-- In edition 3 on 24 hours, over hours 1 and 2: a link from a child to a parent
pub linked : (child parent : ℕ) → List ℕ
linked child parent = family_of 24 3 3 3 (link_bytes 0 0 child parent 0)

pub record Links : Type 0 where
  pub good : reading (linked 4 2) ≡ Ok (counts 0 2)
  pub good_in_fourth : reading (family_of 24 4 3 3 (link_bytes 0 0 4 2 0)) ≡ Ok (counts 0 2)
  -- 10: the parent is 0, the parent or the child is not in the book, the parent is the child, or has the higher number
  pub no_parent : reading (linked 4 0) ≡ Err refused-for.WrongLink
  pub parent_missing : reading (linked 4 3) ≡ Err refused-for.WrongLink
  pub child_missing : reading (linked 3 2) ≡ Err refused-for.WrongLink
  pub own_parent : reading (linked 4 4) ≡ Err refused-for.WrongLink
  pub parent_above : reading (linked 2 4) ≡ Err refused-for.WrongLink
  pub no_parent_in_fourth : reading (family_of 24 4 3 3 (link_bytes 0 0 4 0 0)) ≡ Err refused-for.WrongLink
  -- 9 and 10 together: blocks over hours 2 and 3 on 23 hours
  pub nine_first : reading (family_of 23 3 6 3 (link_bytes 0 0 4 0 0)) ≡ Err refused-for.WrongHours
  -- 2: editions without links
  pub second : reading (family_of 24 2 3 3 (link_bytes 0 0 4 2 0)) ≡ Err refused-for.WrongHead
  -- 3: a child of 0, a link that is its own next, a link chain that begins at a block
  pub child_zero : reading (linked 0 2) ≡ Err refused-for.BrokenChain
  pub loop : reading (family_of 24 3 3 3 (link_bytes 0 3 4 2 0)) ≡ Err refused-for.BrokenChain
  pub on_blocks : reading (family_of 24 3 3 2 (link_bytes 0 0 4 2 0)) ≡ Err refused-for.BrokenChain
  -- 4: byte 1 or byte 15 not 0
  pub side_set : reading (family_of 24 3 3 3 (link_bytes 1 0 4 2 0)) ≡ Err refused-for.WrongField
  pub last_set : reading (family_of 24 3 3 3 (link_bytes 0 0 4 2 1)) ≡ Err refused-for.WrongField
  -- 5: a link on no chain
  pub off_chain : reading (family_of 24 3 3 0 (link_bytes 0 0 4 2 0)) ≡ Err refused-for.StrayRecord

pub links-decided : Links
unfolding
    family_of link_bytes linked u16_at u24_at u32_at nonzero within some_below some_in count_in limits step_at block_at link_at link_rest record_at hours_set
    chain_from chains is_on step_order block_order link_order links wrong_size links_too_early wrong_head misplaced broken broken_on broken_chain step_fits block_fits
    step_in_range block_in_range link_in_range record_in_range out_of_range wrong_field_on wrong_field stray stray_record owned_by too_many_of too_many_blocks weight is_counted
    sum_to day_sum counted_hours uncounted uncounted_on wrong_hours is_number has_block misnamed wrong_link
    is_for steps_for more_steps_in more_steps too_many_steps first_cause own_causes refusal refusal_numbered answered reading
links-decided =
    record {
      good = refl;
      good_in_fourth = refl;
      no_parent = refl;
      parent_missing = refl;
      child_missing = refl;
      own_parent = refl;
      parent_above = refl;
      no_parent_in_fourth = refl;
      nine_first = refl;
      second = refl;
      child_zero = refl;
      loop = refl;
      on_blocks = refl;
      side_set = refl;
      last_set = refl;
      off_chain = refl;
    }

-- STEPS OF A PORTFOLIO IN AN HOUR
-- In edition 4 a buy and a sell, each of an hour and a portfolio
pub two_steps : (buyHour buyer sellHour seller : ℕ) → List ℕ
two_steps buyHour buyer sellHour seller =
    0 ∷ 3 ∷ 0 ∷ 1 ∷ 0 ∷ 0 ∷ 24 ∷ 4 ∷ 0 ∷ 0 ∷ 0 ∷ 0 ∷ 0 ∷ 0 ∷ 0 ∷ 0
    ∷ 1 ∷ 0 ∷ 0 ∷ 2 ∷ 0 ∷ 1 ∷ buyHour ∷ buyer ∷ 0 ∷ 0 ∷ 19 ∷ 136 ∷ 0 ∷ 0 ∷ 0 ∷ 100
    ∷ 1 ∷ 1 ∷ 0 ∷ 0 ∷ 0 ∷ 2 ∷ sellHour ∷ seller ∷ 0 ∷ 0 ∷ 11 ∷ 184 ∷ 0 ∷ 0 ∷ 0 ∷ 100
    ∷ []

-- More than one step of a portfolio in one hour, or more than two
pub record StepsInHour : Type 0 where
  -- both sides count together, and a limit is kept by as many steps
  pub together : more_steps 1 (two_steps 7 3 7 3) ≡ true
  pub as_many : more_steps 2 (two_steps 7 3 7 3) ≡ false
  -- each hour and each portfolio by itself
  pub other_hour : more_steps 1 (two_steps 7 3 8 3) ≡ false
  pub other_portfolio : more_steps 1 (two_steps 7 3 7 4) ≡ false
  -- the first and the last hour and portfolio
  pub first : more_steps 1 (two_steps 1 1 1 1) ≡ true
  pub last : more_steps 1 (two_steps 24 255 24 255) ≡ true

pub steps-counted : StepsInHour
unfolding two_steps u16_at some_below count_in chain_from owned_by is_for steps_for more_steps_in more_steps
steps-counted = record { together = refl; as_many = refl; other_hour = refl; other_portfolio = refl; first = refl; last = refl }
