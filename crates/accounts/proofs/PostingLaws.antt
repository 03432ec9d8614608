-- ONE ORDER POSTED: what is added to a column, and all of an order's figures. Assumes nothing.
use Prim.Native.Nat.{ℕ, zero, suc, ◌+◌, ◌*◌, ◌^◌, ◌≤◌, ◌<◌}
use mathlib.Core.Bool.{Bool, true, false}
use mathlib.Core.Path.{◌≡◌, refl, ◌∙◌}
use mathlib.Core.List.{List}
use native.Mathlib.Omega.{arith}
use lib.Dec.{eqb}
use lib.ListN.{length, get_or, set, length-set}
use lib.Seq.{get_or-set_same, get_or-set_other}
use borrow.Author.Tests.{ne_eqb}
use Rattle.rules.specs.Orders.{Side, buy, sell}
use Rattle.rules.specs.Hour.{by_side, when}
use Rattle.rules.proofs.Tests.{by-eq}
use Rattle.orders.specs.Columns.{side_for}
use Rattle.accounts.specs.Layout.{place_in, account_places}
use Rattle.accounts.specs.Postings.{share_of, Added, figure_of, Posted}

-- A NUMBER ADDED IN A COLUMN: one write for the portfolio, one for the totals
module _ (l : List ℕ) (column portfolio n : ℕ) (size : length l ≡ account_places) (inside : column < 5) (some : 1 ≤ portfolio) (few : portfolio < 256) where
  abbrev own : ℕ
  own = 256 * column + portfolio

  abbrev all : ℕ
  all = 256 * column + 0

  abbrev once : List ℕ
  once = set l own (get_or l own 0 + n)

  abbrev twice : List ℕ
  twice = set once all (get_or once all 0 + n)

  totals-kept : get_or once all 0 ≡ get_or l all 0
  totals-kept = get_or-set_other l own all _ 0 (λ e. omega arith)

  at_own : get_or twice own 0 ≡ get_or l own 0 + n
  at_own = get_or-set_other once all own _ 0 (λ e. omega arith) ∙ get_or-set_same l own _ 0 (omega arith)

  at_all : get_or twice all 0 ≡ get_or l all 0 + n
  at_all = get_or-set_same once all _ 0 (rw length-set (omega arith)) ∙ rw totals-kept

  at_other : (i : ℕ) → (i ≡ own → ⊥) → (i ≡ all → ⊥) → get_or twice i 0 ≡ get_or l i 0
  at_other i x y = get_or-set_other once all i _ 0 y ∙ get_or-set_other l own i _ 0 x

  added-at : (other q : ℕ) → q < 256 → get_or twice (place_in other q) 0 ≡ get_or l (place_in other q) 0 + when (eqb column other) (share_of portfolio q n)
  unfolding share_of
  added-at other q small =
      by-eq (λ t. get_or twice (place_in other q) 0 ≡ get_or l (place_in other q) 0 + when t (when (eqb portfolio q) n + when (eqb q 0) n)) column other
      (λ same.
      by-eq (λ t. get_or twice (place_in other q) 0 ≡ get_or l (place_in other q) 0 + (when t n + when (eqb q 0) n)) portfolio q
      (λ mine. rw (← same, ← mine, ne_eqb portfolio 0 (λ e. omega arith)) (omega (arith, at_own)))
      (λ others.
      by-eq (λ t. get_or twice (place_in other q) 0 ≡ get_or l (place_in other q) 0 + (0 + when t n)) q 0
      (λ none. rw (← same, none) (omega (arith, at_all)))
      (λ several. omega (arith, at_other (place_in other q) (λ e. others (omega arith)) (λ e. several (omega arith))))))
      (λ differ. omega (arith, at_other (place_in other q) (λ e. differ (omega arith)) (λ e. differ (omega arith))))

  added-most : (i : ℕ) → get_or twice i 0 ≤ get_or l i 0 + n
  added-most i =
      by-eq (λ t. get_or twice i 0 ≤ get_or l i 0 + n) i own (λ e. rw e (omega (arith, at_own)))
      (λ x. by-eq (λ t. get_or twice i 0 ≤ get_or l i 0 + n) i all (λ e. rw e (omega (arith, at_all))) (λ y. omega (arith, at_other i x y)))

  pub added : (after : List ℕ) → after ≡ set (set l (256 * column + portfolio) (get_or l (256 * column + portfolio) 0 + n)) (256 * column + 0)
      (get_or (set l (256 * column + portfolio) (get_or l (256 * column + portfolio) 0 + n)) (256 * column + 0) 0 + n) → Added column portfolio n l after
  added after e = rw e (record { size = rw (length-set, length-set); at = added-at; most = added-most })

  -- its numbers fit
  module _ (room : (i : ℕ) → get_or l i 0 + n < 2 ^ 64) where
    pub totals-fit : get_or (set l (256 * column + portfolio) (get_or l (256 * column + portfolio) 0 + n)) (256 * column + 0) 0 + n < 2 ^ 64
    totals-fit = omega (arith, totals-kept, room (256 * column + 0))

-- SIDES
pub sold-told : (side forBuy forSell : ℕ) → (side ≡ 0 → ⊥) → forSell ≡ by_side (side_for side) forBuy forSell
sold-told zero forBuy forSell sold = absurd (sold refl)
sold-told (suc side) forBuy forSell sold = refl

-- THE FIGURES OF AN ORDER, column by column
share-none : (p q : ℕ) → share_of p q 0 ≡ 0
unfolding share_of
share-none p q = at (eqb p q) (eqb q 0)
  where
    at : (t u : Bool) → when t 0 + when u 0 ≡ 0
    at true true = refl
    at true false = refl
    at false true = refl
    at false false = refl

figures-are : (side : Side) (p q traded cash column : ℕ) → column < 5 →
    when (eqb (by_side side 0 1) column) (share_of p q traded) + when (eqb (by_side side 2 3) column) (share_of p q cash) + when (eqb 4 column) (share_of p q 1)
    ≡ share_of p q (figure_of side traded cash column)
unfolding figure_of
figures-are buy p q traded cash zero h = omega arith
figures-are buy p q traded cash (suc zero) h = omega (arith, share-none p q)
figures-are buy p q traded cash (suc (suc zero)) h = omega arith
figures-are buy p q traded cash (suc (suc (suc zero))) h = omega (arith, share-none p q)
figures-are buy p q traded cash (suc (suc (suc (suc zero)))) h = omega arith
figures-are buy p q traded cash (suc (suc (suc (suc (suc n))))) h = absurd (omega arith)
figures-are sell p q traded cash zero h = omega (arith, share-none p q)
figures-are sell p q traded cash (suc zero) h = omega arith
figures-are sell p q traded cash (suc (suc zero)) h = omega (arith, share-none p q)
figures-are sell p q traded cash (suc (suc (suc zero))) h = omega arith
figures-are sell p q traded cash (suc (suc (suc (suc zero)))) h = omega arith
figures-are sell p q traded cash (suc (suc (suc (suc (suc n))))) h = absurd (omega arith)

-- AN ORDER POSTED: three numbers added
pub column-few : (side : Side) (a b c : ℕ) → c ≡ by_side side a b → a < 5 → b < 5 → c < 5
column-few buy a b c e f g = omega arith
column-few sell a b c e f g = omega arith

module _ (l : List ℕ) (traded cash : ℕ) (room : (i : ℕ) → get_or l i 0 + (traded + cash + 1) < 2 ^ 64) where
  pub room-first : (i : ℕ) → get_or l i 0 + traded < 2 ^ 64
  room-first i = omega (arith, room i)

  module _ (c p : ℕ) (m : List ℕ) (first : Added c p traded l m) where
    pub room-second : (i : ℕ) → get_or m i 0 + cash < 2 ^ 64
    room-second i = omega (arith, room i, first.most i)

    module _ (d : ℕ) (k : List ℕ) (second : Added d p cash m k) where
      pub room-third : (i : ℕ) → get_or k i 0 + 1 < 2 ^ 64
      room-third i = omega (arith, room i, first.most i, second.most i)

      pub posted : (side : Side) (r : List ℕ) → c ≡ by_side side 0 1 → d ≡ by_side side 2 3 → Added 4 p 1 k r → Posted side p traded cash l r
      posted side r e f third =
          record {
            size = omega (arith, first.size, second.size, third.size);
            at = λ column q inside few.
                omega (
                  arith,
                  rw e at (first.at column q few),
                  rw f at (second.at column q few),
                  third.at column q few,
                  figures-are side p q traded cash column inside,
                );
            most = λ i. omega (arith, first.most i, second.most i, third.most i);
          }
