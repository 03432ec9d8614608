-- SETS BY NUMBER: a set of places as the set of the blocks there. The bits put together from the last block down, and the decisions that they are.
-- Assumes nothing.
use Prim.Native.Nat.{ℕ, zero, suc, ◌+◌, ◌-◌, ◌*◌, ◌/◌, ◌%◌, ◌^◌, ◌≤◌, ◌<◌}
use mathlib.Core.Bool.{false}
use mathlib.Core.Path.{◌≡◌, sym, ap, ◌∙◌}
use mathlib.Core.List.{List}
use native.Mathlib.Omega.{arith}
use native.Mathlib.Nat.{div-one}
use lib.Dec.{eqb}
use lib.ListN.{get_or}
use lib.Pow.{shr-shr, pow_mono}
use Rattle.rules.specs.Day.{decisions}
use Rattle.rules.proofs.SetBits.{bits_at}
use Rattle.order.specs.Order.{EachBelow, IsOrderOf, ByNumber}

-- the number whose bits are those of the places of the n blocks from block i on
unfoldable pub numbered_from : (place : List ℕ) (set : ℕ) → ℕ → ℕ → ℕ
numbered_from place set zero i = 0
numbered_from place set (suc n) i = numbered_from place set n (suc i) * 2 + set / 2 ^ get_or place i 0 % 2

module _ (place : List ℕ) (set : ℕ) where
  pub none-numbered : (i : ℕ) → 0 ≡ numbered_from place set (i - i) i
  unfolding numbered_from
  none-numbered i = let e : i - i ≡ 0 = omega arith in rw e

  -- one block more in front
  pub numbered_next : (count i numbered : ℕ) → 0 < i → i ≤ count → numbered ≡ numbered_from place set (count - i) i →
      numbered * 2 + set / 2 ^ get_or place (i - 1) 0 % 2 ≡ numbered_from place set (count - (i - 1)) (i - 1)
  unfolding numbered_from
  numbered_next count i numbered some inside e =
      let more : count - (i - 1) ≡ suc (count - i) = omega arith in
      let here : suc (i - 1) ≡ i = omega arith in
      rw (more, here, e)

  -- it has that many bits
  fits : (n i : ℕ) → numbered_from place set n i < 2 ^ n
  unfolding numbered_from
  fits zero i = omega arith
  fits (suc n) i = omega (arith, fits n (suc i))

  -- so there is room for one more of 32
  pub numbered-room : (count i numbered : ℕ) → 0 < i → count ≤ 32 → numbered ≡ numbered_from place set (count - i) i → numbered < 2 ^ 31
  numbered-room count i numbered some few e =
      let less : count - i ≤ 31 = omega arith in
      omega (arith, fits (count - i) i, pow_mono less)

  -- bit k is that of the place of block i + k
  bits : (n i k : ℕ) → k < n → numbered_from place set n i / 2 ^ k % 2 ≡ set / 2 ^ get_or place (i + k) 0 % 2
  unfolding numbered_from
  bits zero i k less = absurd (omega arith)
  bits (suc n) i zero less =
      let e : i + 0 ≡ i = omega arith in
      rw (e, div-one (numbered_from place set n (suc i) * 2 + set / 2 ^ get_or place i 0 % 2)) (omega arith)
  bits (suc n) i (suc k) less =
      let one : 1 + k ≡ suc k = omega arith in
      let half : (numbered_from place set n (suc i) * 2 + set / 2 ^ get_or place i 0 % 2) / 2 ≡ numbered_from place set n (suc i) = omega arith in
      let at : i + suc k ≡ suc i + k = omega arith in
      let all = numbered_from place set n (suc i) * 2 + set / 2 ^ get_or place i 0 % 2 in
      rw (at, ← (rw one at (shr-shr all 1 k)), half) (bits n (suc i) k (omega arith))

  -- the whole number
  pub numbered-all : (count i numbered : ℕ) → i ≡ 0 → numbered ≡ numbered_from place set (count - i) i → ByNumber count place set numbered
  numbered-all count i numbered none e =
      let whole : count - 0 ≡ count = omega arith in
      let is : numbered ≡ numbered_from place set count 0 = rw (none, whole) at e in
      record {
        fits = rw is (fits count 0);
        bits = λ k less. let at : 0 + k ≡ k = omega arith in rw is (rw at at (bits count 0 k less));
      }

-- THE DECISIONS: that of a block is that of its place
pub decided-by-number : {count : ℕ} {place : List ℕ} {set numbered : ℕ} → ByNumber count place set numbered → EachBelow count count place →
    (i : ℕ) → i < count → get_or (decisions count numbered) i false ≡ get_or (decisions count set) (get_or place i 0) false
decided-by-number {count} {place} {set} {numbered} by inside i less =
    bits_at count numbered i less ∙ ap (λ b. eqb b 1) (by.bits i less) ∙ sym (bits_at count set (get_or place i 0) (inside i less))

-- and that of a place is that of the block there
pub decided-by-place : {blocks : List ℕ} {count : ℕ} {order place : List ℕ} {set numbered : ℕ} → IsOrderOf blocks count order place →
    ByNumber count place set numbered → (j : ℕ) → j < count →
    get_or (decisions count set) j false ≡ get_or (decisions count numbered) (get_or order j 0) false
decided-by-place {count = count} {order} {place} {set} {numbered} of by j less =
    sym (decided-by-number by of.place_in (get_or order j 0) (of.order_in j less) ∙ ap (λ k. get_or (decisions count set) k false) (of.there j less))
