-- THE DECISIONS that are made for certain: of a child, of twins, of a block whose other way loses too much, of one that is out. Definitions only. Assumes
-- nothing.
use Rattle.std.specs.Prelude.{ℕ, zero, suc, ◌+◌, ◌-◌, ◌/◌, ◌%◌, ◌^◌, ◌<◌, Bool, cond, not, ◌&&◌, ◌||◌, List, ◌≡◌, eqb, leb, ltb}
use Rattle.places.specs.Blocks.{side_at, hours_at, limit_at, against_at, gain_at, parent_at, ahead_at, behind_at, keeps_at}
use Rattle.places.specs.Reach.{is_out}
use Rattle.rules.specs.Hour.{when}

-- A column names a block by 1 and its number, none by 0. The block that is named is left out of a set.
unfoldable pub names_left : (name set : ℕ) → Bool
names_left name set = not (eqb name 0) && eqb (set / 2 ^ (name - 1) % 2) 0

-- It is gone from a branch whose first n blocks are decided: left out of the set, or one that is out.
unfoldable pub names_gone : (name n set out : ℕ) → Bool
names_gone name n set out = not (eqb name 0) && cond (ltb (name - 1) n) (eqb (set / 2 ^ (name - 1) % 2) 0) (is_out out (name - 1 - n))

-- Block i is not taken: its parent is left out, or a twin that is taken before it.
unfoldable pub is_barred : (blocks : List ℕ) (i set : ℕ) → Bool
is_barred blocks i set = names_left (parent_at blocks i) set || names_left (ahead_at blocks i) set

-- A twin that is taken after block i is taken: block i is taken too.
unfoldable pub is_due : (blocks : List ℕ) (i set : ℕ) → Bool
is_due blocks i set = not (eqb (behind_at blocks i) 0) && eqb (set / 2 ^ (behind_at blocks i - 1) % 2) 1

-- The last of the first n blocks is decided, and to decide it the other way would lose the limit or more.
unfoldable pub is_forced : (blocks : List ℕ) (n set loss limit : ℕ) → Bool
is_forced blocks n set loss limit =
    not (eqb n 0) && leb limit (loss + cond (eqb (set / 2 ^ (n - 1) % 2) 1) (gain_at blocks (n - 1)) (against_at blocks (n - 1)))

-- Undecided block i is out: it was before, its parent is gone, or it misses its limit at these prices.
unfoldable pub is_ruled_out : (blocks : List ℕ) (i : ℕ) (was gone : Bool) (high low : List ℕ) → Bool
is_ruled_out blocks i was gone high low = was || gone || not (keeps_at (side_at blocks i) (hours_at blocks i) (limit_at blocks i) high low)

-- What the first k undecided blocks, those from number n on, would gain, of them that are out: to leave these out loses so much.
unfoldable pub out_gains : (blocks : List ℕ) (n out : ℕ) → ℕ → ℕ
out_gains blocks n out zero = 0
out_gains blocks n out (suc k) = out_gains blocks n out k + when (is_out out k) (gain_at blocks (n + k))

-- The undecided blocks that are out, those from number n on: each bit by the definition, where the parent's own bit tells of an undecided one.
abbrev pub RuledOut : (blocks : List ℕ) (count n set out : ℕ) (high low : List ℕ) (r : ℕ) → Type 0
RuledOut blocks count n set out high low r =
    (k : ℕ) → k < count - n → is_out r k ≡ is_ruled_out blocks (n + k) (is_out out k) (names_gone (parent_at blocks (n + k)) n set r) high low
