-- SUMS OVER THE BLOCKS OF A SET: one block at a time; and what blocks trade in an hour, bounded: so many blocks of at most so much each. The bounds are
-- numbers, whatever edition sets them. Assumes nothing.
use Prim.Native.Nat.{ℕ, ◌+◌, ◌*◌, ◌≤◌}
use mathlib.Core.Bool.{Bool, true, false}
use mathlib.Core.List.{List, [], ◌∷◌}
use mathlib.Core.Path.{◌≡◌, refl}
use native.Mathlib.Omega.{arith}
use native.Mathlib.Nat.{suc-mul}
use lib.ListN.{length}
use Rattle.rules.specs.Orders.{Side, buy, sell, Block}
use Rattle.rules.specs.Hour.{by_side, when}
use Rattle.rules.specs.Day.{taken, over_blocks, sells, buys}
use Rattle.rules.specs.OutcomeRules.{EachBlock}
use Rattle.rules.proofs.CurveLaws.{when-le}

pub take-one : (f : Block → ℕ) (b : Block) (l : List Block) (t : Bool) (set : List Bool) →
    over_blocks f (taken (b ∷ l) (t ∷ set)) ≡ when t (f b) + over_blocks f (taken l set)
take-one f b l true set = refl
take-one f b l false set = omega arith

-- Each block trades at most so much in an hour.
abbrev pub EachAtMost : ℕ → List Block → Type 0
EachAtMost most = EachBlock (λ b. b.quantity ≤ most)

module _ (most h : ℕ) where
  -- a block trades on one side only
  trade-within : (b : Block) → b.quantity ≤ most → sells h b + buys h b ≤ most
  trade-within b k = at b.side (b.runs h)
    where
      at : (side : Side) (t : Bool) → when t (by_side side 0 b.quantity) + when t (by_side side b.quantity 0) ≤ most
      at buy t = omega (arith, when-le t 0, when-le t b.quantity, k)
      at sell t = omega (arith, when-le t 0, when-le t b.quantity, k)

  -- the blocks of a set, out of so many
  pub taken-within : (l : List Block) (set : List Bool) → EachAtMost most l →
      over_blocks (sells h) (taken l set) + over_blocks (buys h) (taken l set) ≤ length l * most
  taken-within [] set e = omega arith
  taken-within (b ∷ l) [] e = omega arith
  taken-within (b ∷ l) (true ∷ set) e = rw (suc-mul (length l) most) (omega (arith, trade-within b e.0, taken-within l set e.1))
  taken-within (b ∷ l) (false ∷ set) e = rw (suc-mul (length l) most) (omega (arith, taken-within l set e.1))
