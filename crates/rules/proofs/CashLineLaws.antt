-- THE LINES OF THE CASH SHEET (document 02, P3): the totals are the sums over the lines too; each portfolio with an order has one line, whatever its orders
-- got, and no other has one, in rising order; and a line is of its portfolio's own orders, the day's hours and the published prices alone. Assumes nothing.
use Prim.Native.Nat.{ℕ, zero, suc, ◌+◌, ◌≤◌, ◌<◌}
use mathlib.Core.Bool.{Bool, true, false, ◌||◌}
use mathlib.Core.Path.{◌≡◌, refl, sym, ap, fun_ext, ◌∙◌}
use mathlib.Core.List.{List, [], ◌∷◌, ◌++◌, append-nil}
use native.Mathlib.Omega.{arith}
use native.Mathlib.Nat.{zero-mul}
use lib.Dec.{eqb}
use lib.ListN.{length}
use borrow.Author.Tests.{eq-eqb, ne_eqb}
use Rattle.rules.specs.Orders.{Side, buy, sell, Order, Block, Orders, max_portfolio, canonical}
use Rattle.rules.specs.Hour.{by_side, when}
use Rattle.rules.specs.Day.{day_of, sum_to, day_sum, keep}
use Rattle.rules.specs.Outcome.{published}
use Rattle.rules.specs.Cash.{
  Executed,
  traded_by,
  cash_by,
  Cash,
  over_executed,
  cash_of,
  owned_by,
  CashLine,
  line_of,
  lines_to,
  executed_steps,
  executed_blocks,
  executed_orders,
  published_price,
  cash_sheet,
}
use Rattle.rules.proofs.CashCases
use Rattle.rules.proofs.Tests.{by-eq}
use Rattle.rules.proofs.HourSums.{sum_to-same, sum_to-add, sum_to-zero, sum_to-once, day_sum-same, day_sum-zero}

-- SUMS OVER THE LINES
-- The sum of a number of each line.
abbrev pub over_lines : (CashLine → ℕ) → List CashLine → ℕ
over_lines f [] = 0
over_lines f (line ∷ l) = f line + over_lines f l

over-lines : (f : CashLine → ℕ) (l m : List CashLine) → over_lines f (l ++ m) ≡ over_lines f l + over_lines f m
over-lines f [] m = omega arith
over-lines f (line ∷ l) m = omega (arith, over-lines f l m)

-- Each of the four totals is the sum over the lines.
pub record SumsOfLines (lines : List CashLine) (totals : Cash) : Type 0 where
  pub bought : over_lines (λ line. line.cash.bought) lines ≡ totals.bought
  pub sold : over_lines (λ line. line.cash.sold) lines ≡ totals.sold
  pub paid : over_lines (λ line. line.cash.paid) lines ≡ totals.paid
  pub received : over_lines (λ line. line.cash.received) lines ≡ totals.received

-- The portfolios of orders are those of a book: from 1 to 255.
abbrev pub PortfoliosInRange : List Executed → Type 0
PortfoliosInRange [] = Unit {0}
PortfoliosInRange (o ∷ l) = (1 ≤ o.portfolio) × (o.portfolio ≤ max_portfolio) × PortfoliosInRange l

-- the sums of the portfolios' orders together are the sum of all
owned-kept : (f : Executed → ℕ) (t : Bool) (o : Executed) (l : List Executed) → over_executed f (keep t o l) ≡ when t (f o) + over_executed f l
owned-kept f true o l = refl
owned-kept f false o l = omega arith

owned-together : (f : Executed → ℕ) (l : List Executed) → PortfoliosInRange l → sum_to max_portfolio (λ p. over_executed f (owned_by p l)) ≡ over_executed f l
unfolding owned_by
owned-together f [] r = sum_to-zero max_portfolio
owned-together f (o ∷ l) r =
    omega (
      arith,
      sum_to-same max_portfolio (λ p. over_executed f (owned_by p (o ∷ l)))
          (λ p. when (eqb o.portfolio p) (f o) + over_executed f (owned_by p l)) (λ p. owned-kept f (eqb o.portfolio p) o (owned_by p l)),
      sum_to-add max_portfolio (λ p. when (eqb o.portfolio p) (f o)) (λ p. over_executed f (owned_by p l)),
      sum_to-once max_portfolio o.portfolio (λ p. when (eqb o.portfolio p) (f o)) r.0 r.1 (λ p other. rw (ne_eqb o.portfolio p other)),
      own,
      owned-together f l r.2,
    )
  where
    own : when (eqb o.portfolio o.portfolio) (f o) ≡ f o
    own = rw (eq-eqb o.portfolio o.portfolio refl)

module _ (hours : ℕ) (price : ℕ → ℕ) where
  -- a number of the cash of orders that is a sum over them
  module _ (part : Cash → ℕ) (f : Executed → ℕ) (is : (l : List Executed) → part (cash_of hours price l) ≡ over_executed f l) where
    line-part : (p : ℕ) (own : List Executed) → over_lines (λ line. part line.cash) (line_of hours price p own) ≡ over_executed f own
    unfolding line_of
    line-part p [] = refl
    line-part p (o ∷ own) = omega (arith, is (o ∷ own))

    lines-part : (n : ℕ) (l : List Executed) →
        over_lines (λ line. part line.cash) (lines_to n hours price l) ≡ sum_to n (λ p. over_executed f (owned_by p l))
    unfolding lines_to sum_to
    lines-part zero l = refl
    lines-part (suc n) l =
        omega (
          arith,
          over-lines (λ line. part line.cash) (lines_to n hours price l) (line_of hours price (suc n) (owned_by (suc n) l)),
          lines-part n l,
          line-part (suc n) (owned_by (suc n) l),
        )

    part-of-lines : (l : List Executed) → PortfoliosInRange l →
        over_lines (λ line. part line.cash) (lines_to max_portfolio hours price l) ≡ part (cash_of hours price l)
    part-of-lines l r = lines-part max_portfolio l ∙ owned-together f l r ∙ sym (is l)

  -- THE TOTALS ARE THE SUMS OVER THE LINES
  pub totals-of-lines : (l : List Executed) → PortfoliosInRange l → SumsOfLines (lines_to max_portfolio hours price l) (cash_of hours price l)
  unfolding cash_of
  totals-of-lines l r =
      record {
        bought = part-of-lines (λ c. c.bought) _ (λ l. refl) l r;
        sold = part-of-lines (λ c. c.sold) _ (λ l. refl) l r;
        paid = part-of-lines (λ c. c.paid) _ (λ l. refl) l r;
        received = part-of-lines (λ c. c.received) _ (λ l. refl) l r;
      }

-- so it is with the sheet of orders whose portfolios are in range
abbrev pub OwnersInRange : List Order → Type 0
OwnersInRange [] = Unit {0}
OwnersInRange (o ∷ l) = (1 ≤ o.portfolio) × (o.portfolio ≤ max_portfolio) × OwnersInRange l

abbrev pub BlockOwnersInRange : List Block → Type 0
BlockOwnersInRange [] = Unit {0}
BlockOwnersInRange (b ∷ l) = (1 ≤ b.portfolio) × (b.portfolio ≤ max_portfolio) × BlockOwnersInRange l

steps-owned : (l : List Order) (qs : List ℕ) (m : List Executed) → OwnersInRange l → PortfoliosInRange m → PortfoliosInRange (executed_steps l qs ++ m)
unfolding executed_steps
steps-owned [] qs m r s = s
steps-owned (o ∷ l) [] m r s = s
steps-owned (o ∷ l) (q ∷ qs) m r s = (r.0, r.1, steps-owned l qs m r.2 s)

blocks-owned : (l : List Block) (chosen : List Bool) → BlockOwnersInRange l → PortfoliosInRange (executed_blocks l chosen)
unfolding executed_blocks
blocks-owned [] chosen r = tt
blocks-owned (b ∷ l) [] r = tt
blocks-owned (b ∷ l) (t ∷ chosen) r = (r.0, r.1, blocks-owned l chosen r.2)

pub sheet-totals-of-lines : (orders : Orders) → OwnersInRange (canonical orders).steps → BlockOwnersInRange (day_of orders).blocks →
    SumsOfLines (cash_sheet orders).lines (cash_sheet orders).totals
unfolding cash_sheet executed_orders
sheet-totals-of-lines orders steps blocks =
    totals-of-lines (day_of orders).hours (published_price orders) (executed_orders orders)
    (steps-owned (canonical orders).steps (published orders).executed (executed_blocks (day_of orders).blocks (published orders).chosen) steps
    (blocks-owned (day_of orders).blocks (published orders).chosen blocks))

-- WHO HAS A LINE
-- The lines of a portfolio among lines.
unfoldable pub lines_for : ℕ → List CashLine → List CashLine
lines_for p [] = []
lines_for p (line ∷ l) = keep (eqb line.portfolio p) line (lines_for p l)

-- Some order is the portfolio's.
unfoldable pub has_order : ℕ → List Executed → Bool
has_order p [] = false
has_order p (o ∷ l) = eqb o.portfolio p || has_order p l

lines-for-append : (p : ℕ) (l m : List CashLine) → lines_for p (l ++ m) ≡ lines_for p l ++ lines_for p m
unfolding lines_for
lines-for-append p [] m = refl
lines-for-append p (line ∷ l) m = at (eqb line.portfolio p) (lines-for-append p l m)
  where
    at : (t : Bool) → lines_for p (l ++ m) ≡ lines_for p l ++ lines_for p m → keep t line (lines_for p (l ++ m)) ≡ keep t line (lines_for p l) ++ lines_for p m
    at true e = rw e
    at false e = e

-- Each order got nothing.
abbrev pub GotNothing : List Executed → Type 0
GotNothing [] = Unit {0}
GotNothing (o ∷ l) = (o.quantity ≡ 0) × GotNothing l

-- Lines' portfolios rise, all above one number and up to another.
abbrev pub LinesRise : ℕ → ℕ → List CashLine → Type 0
LinesRise last n [] = last ≤ n
LinesRise last n (line ∷ l) = (last < line.portfolio) × LinesRise line.portfolio n l

module _ (hours : ℕ) (price : ℕ → ℕ) where
  line-own : (p : ℕ) (own : List Executed) → lines_for p (line_of hours price p own) ≡ line_of hours price p own
  unfolding lines_for line_of
  line-own p [] = refl
  line-own p (o ∷ own) = rw (eq-eqb p p refl)

  line_other : (p q : ℕ) (own : List Executed) → (q ≡ p → ⊥) → lines_for p (line_of hours price q own) ≡ []
  unfolding lines_for line_of
  line_other p q [] other = refl
  line_other p q (o ∷ own) other = rw (ne_eqb q p other)

  line-past : (n p : ℕ) (l : List Executed) → n < p → lines_for p (lines_to n hours price l) ≡ []
  unfolding lines_for lines_to
  line-past zero p l past = refl
  line-past (suc n) p l past =
      lines-for-append p (lines_to n hours price l) (line_of hours price (suc n) (owned_by (suc n) l))
      ∙ rw (line-past n p l (omega arith), line_other p (suc n) (owned_by (suc n) l) (λ e. omega arith))

  -- THE LINES OF A PORTFOLIO on the sheet are the line of its own orders
  pub line-stands : (n p : ℕ) (l : List Executed) → 1 ≤ p → p ≤ n → lines_for p (lines_to n hours price l) ≡ line_of hours price p (owned_by p l)
  unfolding lines_to
  line-stands zero p l first last = absurd (omega arith)
  line-stands (suc n) p l first last =
      lines-for-append p (lines_to n hours price l) (line_of hours price (suc n) (owned_by (suc n) l))
      ∙ by-eq (λ t. lines_for p (lines_to n hours price l) ++ lines_for p (line_of hours price (suc n) (owned_by (suc n) l)) ≡ line_of hours price p (owned_by p l))
      p (suc n)
      (λ same. rw (same, line-past n (suc n) l (omega arith)) (line-own (suc n) (owned_by (suc n) l)))
      (λ other.
      rw (line-stands n p l first (omega arith), line_other p (suc n) (owned_by (suc n) l) (λ e. other (sym e))) (append-nil _))

  owned-some : (p : ℕ) (l : List Executed) → length (line_of hours price p (owned_by p l)) ≡ when (has_order p l) 1
  unfolding owned_by has_order line_of
  owned-some p [] = refl
  owned-some p (o ∷ l) = at (eqb o.portfolio p) (owned-some p l)
    where
      at : (t : Bool) → length (line_of hours price p (owned_by p l)) ≡ when (has_order p l) 1 →
          length (line_of hours price p (keep t o (owned_by p l))) ≡ when (t || has_order p l) 1
      at true e = refl
      at false e = e

  -- A PORTFOLIO WITH AN ORDER HAS ONE LINE, whatever its orders got, and one without an order has none
  pub line-where-an-order : (p : ℕ) (l : List Executed) → 1 ≤ p → p ≤ max_portfolio →
      length (lines_for p (lines_to max_portfolio hours price l)) ≡ when (has_order p l) 1
  line-where-an-order p l first last = ap length (line-stands max_portfolio p l first last) ∙ owned-some p l

  -- orders that got nothing: all four numbers are 0
  none-traded : (t : ℕ → Bool) → day_sum hours (λ h. when (t h) 0) ≡ 0
  none-traded t = day_sum-same hours _ (λ h. 0) (λ h. nothing (t h)) ∙ day_sum-zero hours
    where
      nothing : (t : Bool) → when t 0 ≡ 0
      nothing true = refl
      nothing false = refl

  side-nothing : (side : Side) (n : ℕ) → n ≡ 0 → (by_side side n 0 ≡ 0) × (by_side side 0 n ≡ 0)
  side-nothing buy n e = (e, refl)
  side-nothing sell n e = (refl, e)

  over_nothing : (f : Executed → ℕ) → ((o : Executed) → o.quantity ≡ 0 → f o ≡ 0) → (l : List Executed) → GotNothing l → over_executed f l ≡ 0
  over_nothing f z [] e = refl
  over_nothing f z (o ∷ l) e = omega (arith, z o e.0, over_nothing f z l e.1)

  pub nothing-got : (l : List Executed) → GotNothing l → cash_of hours price l ≡ record { bought = 0; sold = 0; paid = 0; received = 0 }
  unfolding cash_of
  nothing-got l e =
      rw (
        over_nothing (λ o. by_side o.side (traded_by hours o) 0) (λ o z. (side-nothing o.side (traded_by hours o) (no-trade o z)).0) l e,
        over_nothing (λ o. by_side o.side 0 (traded_by hours o)) (λ o z. (side-nothing o.side (traded_by hours o) (no-trade o z)).1) l e,
        over_nothing (λ o. by_side o.side (cash_by hours price o) 0) (λ o z. (side-nothing o.side (cash_by hours price o) (no-cash o z)).0) l e,
        over_nothing (λ o. by_side o.side 0 (cash_by hours price o)) (λ o z. (side-nothing o.side (cash_by hours price o) (no-cash o z)).1) l e,
      )
    where
      no-trade : (o : Executed) → o.quantity ≡ 0 → traded_by hours o ≡ 0
      no-trade o z = unfold traded_by in (rw z (none-traded o.runs))

      no-cash : (o : Executed) → o.quantity ≡ 0 → cash_by hours price o ≡ 0
      no-cash o z = unfold cash_by in (rw z (day_sum-same hours _ (λ h. when (o.runs h) 0) (λ h. rw (zero-mul (price h))) ∙ none-traded o.runs))

  -- so a portfolio whose orders got nothing has its line, of four zeros ..
  line-some : (p : ℕ) (own : List Executed) → length (line_of hours price p own) ≡ 1 →
      line_of hours price p own ≡ record { portfolio = p; cash = cash_of hours price own } ∷ []
  unfolding line_of
  line-some p [] e = absurd (omega arith)
  line-some p (o ∷ own) e = refl

  pub line-of-nothing-got : (p : ℕ) (l : List Executed) → 1 ≤ p → p ≤ max_portfolio → has_order p l ≡ true → GotNothing (owned_by p l) →
      lines_for p (lines_to max_portfolio hours price l)
      ≡ record { portfolio = p; cash = record { bought = 0; sold = 0; paid = 0; received = 0 } } ∷ []
  line-of-nothing-got p l first last some nothing =
      line-stands max_portfolio p l first last ∙ line-some p (owned_by p l) (owned-some p l ∙ rw some) ∙ rw (nothing-got (owned_by p l) nothing)

  -- .. and one without an order none
  line-none : (p : ℕ) (own : List Executed) → length (line_of hours price p own) ≡ 0 → line_of hours price p own ≡ []
  unfolding line_of
  line-none p [] e = refl
  line-none p (o ∷ own) e = absurd (omega arith)

  pub no-line-without-order : (p : ℕ) (l : List Executed) → 1 ≤ p → p ≤ max_portfolio → has_order p l ≡ false →
      lines_for p (lines_to max_portfolio hours price l) ≡ []
  no-line-without-order p l first last none =
      line-stands max_portfolio p l first last ∙ line-none p (owned_by p l) (owned-some p l ∙ rw none)

  -- IN RISING ORDER
  rise-append : (last n : ℕ) (l m : List CashLine) → LinesRise last n l → LinesRise n (suc n) m → LinesRise last (suc n) (l ++ m)
  rise-append last n [] [] a b = omega arith
  rise-append last n [] (line ∷ m) a b = (omega (arith, b.0), b.1)
  rise-append last n (line ∷ l) m a b = (a.0, rise-append line.portfolio n l m a.1 b)

  line-rises : (n : ℕ) (own : List Executed) → LinesRise n (suc n) (line_of hours price (suc n) own)
  unfolding line_of
  line-rises n [] = omega arith
  line-rises n (o ∷ own) = (omega arith, omega arith)

  pub lines-rise : (n : ℕ) (l : List Executed) → LinesRise 0 n (lines_to n hours price l)
  unfolding lines_to
  lines-rise zero l = omega arith
  lines-rise (suc n) l = rise-append 0 n (lines_to n hours price l) _ (lines-rise n l) (line-rises n (owned_by (suc n) l))

-- A LINE IS OF ITS PORTFOLIO'S OWN ORDERS: two books with the same hours, the same published prices and the same own orders as they were executed give the
-- portfolio the same line, or none, whatever the orders of others
pub line-of-own-orders : (a b : Orders) (p : ℕ) → 1 ≤ p → p ≤ max_portfolio → (day_of a).hours ≡ (day_of b).hours →
    (published a).prices ≡ (published b).prices → owned_by p (executed_orders a) ≡ owned_by p (executed_orders b) →
    lines_for p (cash_sheet a).lines ≡ lines_for p (cash_sheet b).lines
unfolding cash_sheet
line-of-own-orders a b p first last hours prices own =
    line-stands (day_of a).hours (published_price a) max_portfolio p (executed_orders a) first last
    ∙ rw (hours, same, own) (sym (line-stands (day_of b).hours (published_price b) max_portfolio p (executed_orders b) first last))
  where
    same : published_price a ≡ published_price b
    same = fun_ext (λ h. unfold published_price in (rw prices))
