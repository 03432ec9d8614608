-- THE PLACE of a set in an hour: what its blocks sell and the blocks it leaves out would buy. That is N and all buy blocks together, 0 or more: an
-- index into a table of the hour. By its place alone the hour clears or not, and has its price and its gap; so whether a set is lawful, and what it
-- loses, is read off the tables. Assumes nothing.
use Prim.Native.Nat.{ℕ, ◌+◌}
use mathlib.Core.Bool.{Bool, true, false}
use mathlib.Core.Path.{◌≡◌, refl, sym, ◌∙◌}
use mathlib.Core.List.{List, [], ◌∷◌, ◌++◌}
use native.Mathlib.Omega.{arith}
use native.Mathlib.Nat.{suc_inj}
use lib.ListN.{length, drop}
use Rattle.rules.specs.Orders.{Block}
use Rattle.rules.specs.Hour.{Hour}
use Rattle.rules.specs.Day.{
  Day,
  day_sum,
  steps_in,
  taken,
  over_blocks,
  sells,
  buys,
  hour_of,
  hour_clears,
  set_prices,
  price_sum,
  keeps_limit,
  every_block,
  prices_at_shift,
  keeps_all,
  allowed,
  lawful,
}
use Rattle.rules.specs.Contender.{Counts, PricesInRange, HoursInRange}
use Rattle.rules.proofs.PricingLaws.{Clearable, clearable, net, pricing-net}
use Rattle.rules.proofs.HourSums.{day_sum-same, every_hour-all}
use Rattle.rules.proofs.ChainLaws.{prices-in}
use Rattle.rules.proofs.DayLaws.{clearable-clears, all-clear, lawful-contends}
use Rattle.rules.proofs.TableLaws.{clearable-net, table_price, price-is-table}
use Rattle.rules.proofs.SetPriceLaws.{IsShift, day_shift, price-at-shift, limits-at-shift, some-shift-keeps}
use Rattle.rules.proofs.NeighbourLaws.{slack, slack-net}
use Rattle.rules.proofs.LossLaws.{day_sum-counted, gaps}

-- the place of a set, or of a decided part, in an hour
unfoldable pub place : List Block → List Bool → ℕ → ℕ
place [] d h = 0
place (b ∷ l) [] h = 0
place (b ∷ l) (true ∷ d) h = sells h b + place l d h
place (b ∷ l) (false ∷ d) h = buys h b + place l d h

-- it is N and all buy blocks
pub place_is : (l : List Block) (d : List Bool) (h : ℕ) → length d ≡ length l →
    place l d h + over_blocks (buys h) (taken l d) ≡ over_blocks (sells h) (taken l d) + over_blocks (buys h) l
unfolding place
place_is [] [] h e = omega arith
place_is [] (x ∷ d) h e = absurd (omega arith)
place_is (b ∷ l) [] h e = absurd (omega arith)
place_is (b ∷ l) (true ∷ d) h e = omega (arith, place_is l d h (suc_inj e))
place_is (b ∷ l) (false ∷ d) h e = omega (arith, place_is l d h (suc_inj e))

pub place-split : (l : List Block) (d s : List Bool) (h : ℕ) → place l (d ++ s) h ≡ place l d h + place (drop (length d) l) s h
unfolding place
place-split [] [] s h = omega arith
place-split [] (x ∷ d) s h = omega arith
place-split (b ∷ l) [] s h = omega arith
place-split (b ∷ l) (true ∷ d) s h = omega (arith, place-split l d s h)
place-split (b ∷ l) (false ∷ d) s h = omega (arith, place-split l d s h)

pub place_none : (l : List Block) (h : ℕ) → place l [] h ≡ 0
unfolding place
place_none [] h = refl
place_none (b ∷ l) h = refl

-- one more decision
module _ (l : List Block) (d : List Bool) (b : Block) (after : List Block) (next : drop (length d) l ≡ b ∷ after) where
  module _ (h : ℕ) where
    one-sells : place (b ∷ after) (true ∷ []) h ≡ sells h b
    unfolding place
    one-sells = omega (arith, place_none after h)

    one-buys : place (b ∷ after) (false ∷ []) h ≡ buys h b
    unfolding place
    one-buys = omega (arith, place_none after h)

    pub place-taken : place l (d ++ (true ∷ [])) h ≡ place l d h + sells h b
    place-taken = rw (place-split l d (true ∷ []) h, next, one-sells)

    pub place-left : place l (d ++ (false ∷ [])) h ≡ place l d h + buys h b
    place-left = rw (place-split l d (false ∷ []) h, next, one-buys)

-- the hour at a place
abbrev pub hour_at : Day → ℕ → ℕ → Hour
hour_at day h i = net (steps_in h day.steps) i (over_blocks (buys h) day.blocks)

-- the prices of a table at shift t, at one place for each hour
unfoldable pub prices_at : Day → ℕ → (ℕ → ℕ) → ℕ → ℕ
prices_at day t at h = table_price t (steps_in h day.steps) (at h) (over_blocks (buys h) day.blocks)

-- the gaps at one place for each hour
unfoldable pub gaps_at : Day → (ℕ → ℕ) → (ℕ → ℕ) → ℕ → ℕ
gaps_at day p at h = slack (p h) (net (steps_in h day.steps) (at h) (over_blocks (buys h) day.blocks))

-- TESTS at prices that agree in the hours that count
module _ (hours : ℕ) (f g : ℕ → ℕ) (same : (h : ℕ) → Counts hours h → f h ≡ g h) where
  pub price_sum-same : (b : Block) → price_sum hours f b ≡ price_sum hours g b
  unfolding price_sum
  price_sum-same b = day_sum-counted hours _ _ (λ h c. rw (same h c))

  pub keeps_limit-same : (b : Block) → keeps_limit hours f b ≡ keeps_limit hours g b
  unfolding keeps_limit
  keeps_limit-same b = rw (price_sum-same b)

  pub keep-limits-same : (l : List Block) → every_block (keeps_limit hours f) l ≡ every_block (keeps_limit hours g) l
  keep-limits-same [] = refl
  keep-limits-same (b ∷ l) = rw (keeps_limit-same b, keep-limits-same l)

-- A SET AND ITS PLACES
module _ (day : Day) (set : List Bool) (size : length set ≡ length day.blocks) where
  abbrev T : List Block
  T = taken day.blocks set

  abbrev all-buys : ℕ → ℕ
  all-buys h = over_blocks (buys h) day.blocks

  same-N : (h : ℕ) → over_blocks (sells h) T + all-buys h ≡ place day.blocks set h + over_blocks (buys h) T
  same-N h = omega (arith, place_is day.blocks set h size)

  pub slack-at-place : (h p : ℕ) → slack p (hour_of day (taken day.blocks set) h) ≡ slack p (hour_at day h (place day.blocks set h))
  slack-at-place h = slack-net (steps_in h day.steps) _ _ (place day.blocks set h) (all-buys h) (same-N h)

  pub clearable-at-place : (h : ℕ) → Clearable (hour_of day (taken day.blocks set) h) → Clearable (hour_at day h (place day.blocks set h))
  clearable-at-place h = clearable-net (steps_in h day.steps) _ _ (place day.blocks set h) (all-buys h) (same-N h)

  pub place-clearable : (h : ℕ) → Clearable (hour_at day h (place day.blocks set h)) → Clearable (hour_of day (taken day.blocks set) h)
  place-clearable h = clearable-net (steps_in h day.steps) (place day.blocks set h) (all-buys h) _ _ (omega (arith, same-N h))

  -- the gaps, by places
  pub gaps-by-place : (p : ℕ → ℕ) → gaps day p set ≡ day_sum day.hours (gaps_at day p (place day.blocks set))
  unfolding gaps gaps_at
  gaps-by-place p = day_sum-same day.hours _ _ (λ h. slack-at-place h (p h))

  module _ (prices : PricesInRange day.steps) (hours : HoursInRange day.steps) where
    -- THE LAW OF `prices_at_shift` for tables: at each shift the price of an hour that clears is that of its place
    pub price-at-place : (t h : ℕ) → Clearable (hour_at day h (place day.blocks set h)) →
        prices_at_shift day (taken day.blocks set) t h ≡ prices_at day t (place day.blocks set) h
    unfolding prices_at_shift prices_at
    price-at-place t h c =
        rw (pricing-net (steps_in h day.steps) _ _ (place day.blocks set h) (all-buys h) (same-N h))
        (price-is-table (steps_in h day.steps) (prices-in h day.steps prices) (place day.blocks set h) (all-buys h) t c)

    -- the set's own price
    pub set-price-at-place : (h : ℕ) → Clearable (hour_at day h (place day.blocks set h)) →
        set_prices day (taken day.blocks set) h ≡ prices_at day (day_shift day (taken day.blocks set)) (place day.blocks set) h
    set-price-at-place h c = price-at-shift day prices T h ∙ price-at-place (day_shift day T) h c

    -- each block keeps its limit at a shift exactly where it does at the prices of the places there
    pub keeps-at-places : (t : ℕ) → ((h : ℕ) → Counts day.hours h → Clearable (hour_at day h (place day.blocks set h))) →
        keeps_all day (taken day.blocks set) t ≡ every_block (keeps_limit day.hours (prices_at day t (place day.blocks set))) (taken day.blocks set)
    unfolding keeps_all
    keeps-at-places t clear = keep-limits-same day.hours _ _ (λ h k. price-at-place t h (clear h k)) T

    -- LAWFUL, by places: every hour clears there, and each block keeps its limit at the prices there, at a shift of the edition
    pub lawful-by-places : allowed day set ≡ true →
        ((h : ℕ) → Counts day.hours h → Clearable (hour_at day h (place day.blocks set h))) → {t : ℕ} → IsShift day.edition t →
        every_block (keeps_limit day.hours (prices_at day t (place day.blocks set))) (taken day.blocks set) ≡ true → lawful day set ≡ true
    unfolding lawful
    lawful-by-places may clear {t} shift keep =
        rw (
          may,
          every_hour-all day.hours (hour_clears day T) (λ h k. clearable-clears day prices hours T h (place-clearable h (clear h k))),
          some-shift-keeps day prices T shift (keeps-at-places t clear ∙ keep),
        )

    module _ (law : lawful day set ≡ true) where
      pub lawful-clears : (h : ℕ) → Counts day.hours h → Clearable (hour_at day h (place day.blocks set h))
      lawful-clears h k = clearable-at-place h (clearable (hour_of day T h) (set_prices day T h) (all-clear day prices hours set law h k))

      pub lawful-limits : every_block (keeps_limit day.hours (prices_at day (day_shift day (taken day.blocks set)) (place day.blocks set)))
          (taken day.blocks set) ≡ true
      lawful-limits =
          sym (keeps-at-places (day_shift day T) lawful-clears) ∙ sym (limits-at-shift day prices T)
          ∙ (lawful-contends day prices hours set law size).limits
