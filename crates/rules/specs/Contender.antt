-- CONTENDERS (document 01, "The day"; demand 3), and what it is to beat them all. Definitions only. Assumes nothing.
use Rattle.std.specs.Prelude.{ℕ, ◌+◌, ◌≤◌, ◌<◌, Bool, true, false, List, [], ◌∷◌, ◌≡◌, eqb, length}
use Rattle.rules.specs.Orders.{Step, Block, Link, max_price}
use Rattle.rules.specs.Hour.{Hour}
use Rattle.rules.specs.Execution.{bought, sold}
use Rattle.rules.specs.Day.{Day, weight, keep, taken, hour_of, keeps_limits, is_among, allowed, day_value, day_cost}

-- A relation between each step and its quantity; there are as many quantities as steps.
abbrev pub Each : (Step → ℕ → Type 0) → List Step → List ℕ → Type 0
Each R [] [] = Unit {0}
Each R [] (q ∷ qs) = ⊥
Each R (s ∷ l) [] = ⊥
Each R (s ∷ l) (q ∷ qs) = R s q × Each R l qs

-- A whole quantity from 0 to the step's own.
abbrev pub Within : Step → ℕ → Type 0
Within s q = q ≤ s.quantity

-- The quantities of an hour's steps, out of those of all steps.
abbrev pub quantities_in : ℕ → List Step → List ℕ → List ℕ
quantities_in h [] qs = []
quantities_in h (s ∷ l) [] = []
quantities_in h (s ∷ l) (q ∷ qs) = keep (eqb s.hour h) q (quantities_in h l qs)

-- An hour balances: its buy steps and the set's buy blocks together equal its sell steps and the set's sell blocks.
abbrev pub Balanced : Hour → List ℕ → Type 0
Balanced h qs = bought h.steps qs + h.block_buys ≡ sold h.steps qs + h.block_sales

-- Hour h is an hour of the day that counts.
pub record Counts (hours h : ℕ) : Type 0 where
  pub first : 1 ≤ h
  pub last : h ≤ 24
  pub counted : 1 ≤ weight hours h

-- A contender (document 01's term): a set of the day's blocks that holds every taken child's parent, with a quantity for each step, every hour in balance,
-- each block of the set within its limit at the prices under that set.
pub record Contender (day : Day) (set : List Bool) (quantities : List ℕ) : Type 0 where
  pub of_blocks : length set ≡ length day.blocks
  pub permitted : allowed day set ≡ true
  pub within : Each Within day.steps quantities
  pub balanced : (h : ℕ) → Counts day.hours h →
      Balanced (hour_of day (taken day.blocks set) h) (quantities_in h day.steps quantities)
  pub limits : keeps_limits day (taken day.blocks set) ≡ true

-- Of two sets: the first holds the lowest-numbered block in which they differ, or they are the same set.
abbrev pub HoldsLowest : List Bool → List Bool → Type 0
HoldsLowest [] b = Unit {0}
HoldsLowest (x ∷ a) [] = Unit {0}
HoldsLowest (true ∷ a) (true ∷ b) = HoldsLowest a b
HoldsLowest (true ∷ a) (false ∷ b) = Unit {0}
HoldsLowest (false ∷ a) (true ∷ b) = ⊥
HoldsLowest (false ∷ a) (false ∷ b) = HoldsLowest a b

-- A set's blocks and quantities have welfare w: value less cost. (A contender's value may fall below its cost.)
abbrev pub HasWelfare : Day → List Bool → List ℕ → ℕ → Type 0
HasWelfare day set qs w = day_value day (taken day.blocks set) qs ≡ day_cost day (taken day.blocks set) qs + w

abbrev pub WelfareAtMost : Day → List Bool → List ℕ → ℕ → Type 0
WelfareAtMost day set qs w = day_value day (taken day.blocks set) qs ≤ day_cost day (taken day.blocks set) qs + w

-- DEMAND 3, of a set with a quantity for each step and a welfare: they are a contender and the welfare is theirs; every contender has at most
-- that welfare; and against one of the same welfare the set holds the lowest-numbered block in which the two differ.
pub record BeatsAll (day : Day) (set : List Bool) (quantities : List ℕ) (w : ℕ) : Type 0 where
  pub contends : Contender day set quantities
  pub counted : HasWelfare day set quantities w
  pub none_above : (other : List Bool) (qs : List ℕ) → Contender day other qs → WelfareAtMost day other qs w
  pub on_tie : (other : List Bool) (qs : List ℕ) → Contender day other qs → HasWelfare day other qs w → HoldsLowest set other

-- What the reader of a book promises of its steps: prices from 1 to 300000, hours from 1 to 24.
abbrev pub PricesInRange : List Step → Type 0
PricesInRange [] = Unit {0}
PricesInRange (s ∷ l) = (1 ≤ s.price) × (s.price ≤ max_price) × PricesInRange l

abbrev pub HoursInRange : List Step → Type 0
HoursInRange [] = Unit {0}
HoursInRange (s ∷ l) = (1 ≤ s.hour) × (s.hour ≤ 24) × HoursInRange l

-- and of its links: block numbers rise, the first above 0, and so do the children's; each child and each parent is a block of the day, the parent's number
-- below the child's.
abbrev pub NumbersRise : ℕ → List Block → Type 0
NumbersRise last [] = Unit {0}
NumbersRise last (b ∷ l) = (last < b.number) × NumbersRise b.number l

abbrev pub ChildrenRise : ℕ → List Link → Type 0
ChildrenRise last [] = Unit {0}
ChildrenRise last (link ∷ l) = (last < link.child) × ChildrenRise link.child l

abbrev pub EachLink : (Link → Type 0) → List Link → Type 0
EachLink P [] = Unit {0}
EachLink P (link ∷ l) = P link × EachLink P l

pub record LinksStand (day : Day) : Type 0 where
  pub numbers : NumbersRise 0 day.blocks
  pub children : ChildrenRise 0 day.links
  pub child_in : EachLink (λ link. is_among day.blocks link.child ≡ true) day.links
  pub parent_in : EachLink (λ link. is_among day.blocks link.parent ≡ true) day.links
  pub parent_below : EachLink (λ link. link.parent < link.child) day.links
