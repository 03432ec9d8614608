-- BLOCKS BY THE COLUMNS THAT TRADES GO BY: they trade what the book's blocks trade, and no more than so many of so much each. Assumes nothing.
use Prim.Native.Nat.{ℕ, suc, ◌+◌, ◌*◌, ◌≤◌, ◌<◌}
use mathlib.Core.Path.{◌≡◌, refl}
use mathlib.Core.List.{List, [], ◌∷◌}
use mathlib.Core.Bool.{Bool, true, false}
use native.Mathlib.Omega.{arith}
use native.Mathlib.Nat.{le_trans, mul-le-mul_right}
use lib.ListN.{length, get_or}
use Rattle.records.specs.Records.{number, portfolio}
use Rattle.rules.specs.Orders.{Block}
use Rattle.rules.specs.Day.{taken, over_blocks, sells, buys}
use Rattle.rules.proofs.TradeBounds.{EachAtMost, taken-within}
use Rattle.orders.specs.Columns.{blocks_from, block_of}
use Rattle.pricing.specs.Curves.{traders_from}

-- a block's number and price play no part in what it sells or buys in an hour
pub traders-same : (f : Block → ℕ) → ((n m s x p q : ℕ) → f (block_of n m s x p q) ≡ f (block_of 0 0 s x 0 q)) →
    (b records sides hours prices quantities : List ℕ) → length sides ≡ length records → length hours ≡ length records → length prices ≡ length records →
    length quantities ≡ length records → (set : List Bool) →
    over_blocks f (taken (blocks_from b records sides hours prices quantities) set) ≡ over_blocks f (taken (traders_from sides hours quantities) set)
unfolding blocks_from traders_from
traders-same f e b [] [] hours prices quantities a c d g set = refl
traders-same f e b [] (s ∷ sides) hours prices quantities a c d g set = absurd (omega arith)
traders-same f e b (k ∷ records) [] hours prices quantities a c d g set = absurd (omega arith)
traders-same f e b (k ∷ records) (s ∷ sides) [] prices quantities a c d g set = absurd (omega arith)
traders-same f e b (k ∷ records) (s ∷ sides) (x ∷ hours) [] quantities a c d g set = absurd (omega arith)
traders-same f e b (k ∷ records) (s ∷ sides) (x ∷ hours) (p ∷ prices) [] a c d g set = absurd (omega arith)
traders-same f e b (k ∷ records) (s ∷ sides) (x ∷ hours) (p ∷ prices) (q ∷ quantities) a c d g [] = refl
traders-same f e b (k ∷ records) (s ∷ sides) (x ∷ hours) (p ∷ prices) (q ∷ quantities) a c d g (true ∷ set) =
    omega (
      arith,
      e (number b k) (portfolio b k) s x p q,
      traders-same f e b records sides hours prices quantities (omega arith) (omega arith) (omega arith) (omega arith) set,
    )
traders-same f e b (k ∷ records) (s ∷ sides) (x ∷ hours) (p ∷ prices) (q ∷ quantities) a c d g (false ∷ set) =
    traders-same f e b records sides hours prices quantities (omega arith) (omega arith) (omega arith) (omega arith) set

-- as many as the sides, each of the quantity in its column
few : (sides hours quantities : List ℕ) → length (traders_from sides hours quantities) ≤ length sides
unfolding traders_from
few [] hours quantities = omega arith
few (s ∷ sides) [] quantities = omega arith
few (s ∷ sides) (x ∷ hours) [] = omega arith
few (s ∷ sides) (x ∷ hours) (q ∷ quantities) = omega (arith, few sides hours quantities)

at_most : (most : ℕ) (sides hours quantities : List ℕ) → ((i : ℕ) → i < length sides → get_or quantities i 0 ≤ most) → EachAtMost most (traders_from sides hours quantities)
unfolding traders_from
at_most most [] hours quantities small = tt
at_most most (s ∷ sides) [] quantities small = tt
at_most most (s ∷ sides) (x ∷ hours) [] small = tt
at_most most (s ∷ sides) (x ∷ hours) (q ∷ quantities) small =
    (small 0 (omega arith), at_most most sides hours quantities (λ i k. small (suc i) (omega arith)))

pub traders-within : (most count h : ℕ) (sides hours quantities : List ℕ) (set : List Bool) → length sides ≤ count →
    ((i : ℕ) → i < length sides → get_or quantities i 0 ≤ most) →
    over_blocks (sells h) (taken (traders_from sides hours quantities) set) + over_blocks (buys h) (taken (traders_from sides hours quantities) set)
    ≤ count * most
traders-within most count h sides hours quantities set k small =
    le_trans (taken-within most h (traders_from sides hours quantities) set (at_most most sides hours quantities small))
    (mul-le-mul_right most (omega (arith, few sides hours quantities)))
