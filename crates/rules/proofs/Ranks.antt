-- The ranks of blocks by their numbers (the ties that they decide: TieLaws). Assumes nothing.
use Prim.Native.Nat.{ℕ, ◌-◌, ◌^◌, ◌≤◌}
use native.Mathlib.Omega.{arith}
use lib.Pow.{pow_mono}

-- THE RANK BY NUMBER, of at most 32 blocks that stand by number
unfoldable pub rank_of : ℕ → ℕ
rank_of i = 2 ^ (31 - i)

-- no rank is above the first
pub rank-small : (i : ℕ) → rank_of i ≤ 2 ^ 31
unfolding rank_of
rank-small i = pow_mono {i = 31 - i} {j = 31} (omega arith)
