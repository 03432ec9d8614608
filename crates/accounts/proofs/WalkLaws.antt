-- ORDERS POSTED ONE AFTER ANOTHER: what an account has of an order and of those behind it; a walk along them, and its end. Assumes nothing.
use Prim.Native.Nat.{ℕ, zero, suc, ◌+◌, ◌*◌, ◌^◌, ◌≤◌, ◌<◌}
use mathlib.Core.Path.{◌≡◌, refl}
use mathlib.Core.List.{List, [], ◌∷◌}
use native.Mathlib.Omega.{arith}
use lib.Dec.{eqb}
use lib.ListN.{length, get_or}
use borrow.Author.Tests.{ne_eqb}
use Rattle.rules.specs.Hour.{when}
use Rattle.rules.specs.Day.{keep}
use Rattle.rules.specs.Cash.{Executed, traded_by, cash_by, over_executed, owned_by}
use Rattle.rules.proofs.Tests.{by-test}
use Rattle.accounts.specs.Layout.{place_in, column_count}
use Rattle.accounts.specs.Accounts.{among}
use Rattle.accounts.specs.Postings.{share_of, Posted, figure, account, OrdersPosted}
use Rattle.chains.specs.Bounds.{portfolio_numbers}

-- AN ACCOUNT'S ORDERS
among_none : (q : ℕ) (f : Executed → ℕ) → over_executed f (among q []) ≡ 0
unfolding among owned_by
among_none zero f = refl
among_none (suc q) f = refl

among-more : (q : ℕ) (f : Executed → ℕ) (o : Executed) (l : List Executed) → 1 ≤ o.portfolio →
    over_executed f (among q (o ∷ l)) ≡ share_of o.portfolio q (f o) + over_executed f (among q l)
unfolding among owned_by share_of
among-more zero f o l some = rw (ne_eqb o.portfolio 0 (λ e. omega arith)) (omega arith)
among-more (suc q) f o l some =
    rw (ne_eqb (suc q) 0 (λ e. omega arith))
    (by-test (λ t. over_executed f (keep t o (owned_by (suc q) l)) ≡ (when t (f o) + 0) + over_executed f (owned_by (suc q) l)) (eqb o.portfolio (suc q))
    (λ e. omega arith) (λ e. omega arith))

module _ (hours : ℕ) (price : ℕ → ℕ) where
  account-none : (column q : ℕ) → account hours price column q [] ≡ 0
  unfolding account
  account-none column q = among_none q (figure hours price column)

  account-more : (column q : ℕ) (o : Executed) (l : List Executed) → 1 ≤ o.portfolio →
      account hours price column q (o ∷ l) ≡ share_of o.portfolio q (figure hours price column o) + account hours price column q l
  unfolding account
  account-more column q o l some = among-more q (figure hours price column) o l some

  -- ONE EXECUTED ORDER POSTED
  pub order-posted : (bound : ℕ) (o : Executed) (traded cash : ℕ) (before after : List ℕ) → 1 ≤ o.portfolio → traded ≡ traded_by hours o →
      cash ≡ cash_by hours price o → traded + cash + 1 ≤ bound → Posted o.side o.portfolio traded cash before after →
      OrdersPosted hours price bound (o ∷ []) before after
  unfolding figure
  order-posted bound o traded cash before after some t c small posted =
      record {
        size = posted.size;
        at = λ column q inside few.
            omega (arith, rw (t, c) at (posted.at column q inside few), account-more column q o [] some, account-none column q);
        most = λ i. omega (arith, posted.most i);
      }

  -- A WALK: so many orders are left at most, and each place has grown by no more than a bound for each that is not
  pub record Underway (bound : ℕ) (whole rest : List Executed) (total left : ℕ) (before after : List ℕ) : Type 0 where
    pub size : length after ≡ length before
    pub at : (column q : ℕ) → column < column_count → q < portfolio_numbers →
        get_or before (place_in column q) 0 + account hours price column q whole ≡ get_or after (place_in column q) 0 + account hours price column q rest
    pub most : (i : ℕ) → get_or after i 0 + bound * left ≤ get_or before i 0 + bound * total

  pub underway-start : (bound : ℕ) (whole : List Executed) (total : ℕ) (before : List ℕ) → Underway bound whole whole total total before before
  underway-start bound whole total before = record { size = refl; at = λ column q inside few. refl; most = λ i. omega arith }

  -- there is room for one order more
  pub underway-room : (bound : ℕ) (whole rest : List Executed) (total left : ℕ) (before after : List ℕ) (room : ℕ) →
      Underway bound whole rest total (suc left) before after → bound * total ≤ room →
      ((i : ℕ) → get_or before i 0 + room < 2 ^ 64) → (i : ℕ) → get_or after i 0 + bound < 2 ^ 64
  underway-room bound whole rest total left before after room way small free i = omega (arith, way.most i, free i)

  pub underway-more : (bound : ℕ) (whole rest : List Executed) (o : Executed) (total left : ℕ) (before mid after : List ℕ) → 1 ≤ o.portfolio →
      Underway bound whole (o ∷ rest) total (suc left) before mid → OrdersPosted hours price bound (o ∷ []) mid after →
      Underway bound whole rest total left before after
  underway-more bound whole rest o total left before mid after mine way posted =
      record {
        size = omega (arith, way.size, posted.size);
        at = λ column q inside few.
            omega (
              arith,
              way.at column q inside few,
              posted.at column q inside few,
              account-more column q o rest mine,
              account-more column q o [] mine,
              account-none column q,
            );
        most = λ i. omega (arith, way.most i, posted.most i);
      }

  -- at the end all are posted
  pub underway-done : (bound : ℕ) (whole rest : List Executed) (total left : ℕ) (before after : List ℕ) (room : ℕ) → rest ≡ [] → bound * total ≤ room →
      Underway bound whole rest total left before after → OrdersPosted hours price room whole before after
  underway-done bound whole rest total left before after room none small way =
      record {
        size = way.size;
        at = λ column q inside few. omega (arith, rw none at (way.at column q inside few), account-none column q);
        most = λ i. omega (arith, way.most i);
      }
