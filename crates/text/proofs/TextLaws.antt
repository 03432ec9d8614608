-- Text put into a buffer, and how long numbers are in decimal. Assumes nothing.
use mathlib.Core.Path.{◌≡◌, refl, sym, ap, ◌∙◌}
use mathlib.Core.Bool.{cond}
use mathlib.Core.List.{List, [], ◌∷◌, ◌++◌}
use Prim.Native.Nat.{ℕ, zero, suc, ◌+◌, ◌*◌, ◌/◌, ◌^◌, ◌≤◌, ◌<◌, zero-le}
use native.Mathlib.Omega.{arith}
use native.Mathlib.Nat.{pow-suc}
use native.Mathlib.Numerals.{add-one}
use lib.ListN.{length, take, drop, set, get_or, length-append}
use lib.Seq.{length-take-le, take_at, take-suc, set_split}
use borrow.Author.Tests.{lt-ltb, le-ltb}
use Rattle.text.specs.Buffer.{splice}
use Rattle.text.proofs.BufferLaws.{length-splice, then}
use Rattle.rules.proofs.Tests.{by-lt}
use Rattle.text.specs.Text.{digit, decimal_in, decimal, HasRoom, Put}

-- ONE BYTE
pub splice-one : (l : List ℕ) (at x : ℕ) → at < length l → set l at x ≡ splice l at (x ∷ [])
unfolding splice
splice-one l at x h = rw add-one (set_split l at x h)

-- ROOM
pub room-is : (l : List ℕ) (at : ℕ) (bytes : List ℕ) → HasRoom l at bytes → at + length bytes ≤ length l
unfolding HasRoom
room-is l at bytes room = room

pub room-from : (l : List ℕ) (at : ℕ) (bytes : List ℕ) → at + length bytes ≤ length l → HasRoom l at bytes
unfolding HasRoom
room-from l at bytes room = room

-- BYTES AFTER BYTES
module _ (l : List ℕ) (at : ℕ) (a b : List ℕ) (room : HasRoom l at (a ++ b)) where
  room-both : at + length a + length b ≤ length l
  room-both = omega (arith, room-is l at (a ++ b) room, length-append a b)

  -- the first have room
  pub room-first : HasRoom l at a
  room-first = room-from l at a (omega (arith, room-both))

  module _ (m : List ℕ) (p : ℕ) (first : Put l at a m p) where
    -- the others have room behind them
    pub room-then : HasRoom m p b
    room-then =
        room-from m p b
        (rw (first.written, first.ends) (omega (arith, room-both, length-splice l at a (omega (arith, room-both)))))

    -- and both together are put
    pub put_then : (r : List ℕ) (q : ℕ) → Put m p b r q → Put l at (a ++ b) r q
    put_then r q second =
        record {
          written = then l m r at p a b room-both first.written first.ends second.written;
          ends = omega (arith, length-append a b, first.ends, second.ends);
        }

    -- so where the second is one byte
    pub room-byte : (x : ℕ) → b ≡ x ∷ [] → p < length m
    room-byte x e = omega (arith, ap length e, room-is m p b room-then)

    pub put_byte : (x : ℕ) → b ≡ x ∷ [] → Put l at (a ++ b) (set m p x) (p + 1)
    put_byte x e = put_then (set m p x) (p + 1) (record { written = splice-one m p x (room-byte x e) ∙ rw e; ends = omega (arith, ap length e) })

-- the same bytes told in another way
pub put_as : (l : List ℕ) (at : ℕ) (a b r : List ℕ) (q : ℕ) → a ≡ b → Put l at a r q → Put l at b r q
put_as l at a b r q e p = rw e at p

-- for a caller that lends the part of the buffer up to `end`
pub put-counts : (l : List ℕ) (at : ℕ) (bytes m : List ℕ) (p : ℕ) → Put l at bytes m p → p ≤ length l →
    (p ≤ length m) × (p ≡ length (take p m))
put-counts l at bytes m p put inside =
    let n : length m ≡ length l = rw put.written (length-splice l at bytes (omega (arith, put.ends))) in
    (omega arith, sym (length-take-le p m (omega arith)))

-- and for one that reads them
pub put_front : (l bytes m : List ℕ) (p : ℕ) → Put l 0 bytes m p → take p m ≡ bytes
unfolding splice
put_front l bytes m p put = rw put.written (take_at bytes (drop (0 + length bytes) l) p (omega (arith, put.ends)))

-- a turn of the loop that copies bytes
pub copied_more : (l m words : List ℕ) (at i : ℕ) → HasRoom l at words → i < length words → m ≡ splice l at (take i words) →
    set m (at + i) (get_or words i 0) ≡ splice l at (take (i + 1) words)
unfolding HasRoom
copied_more l m words at i room h e =
    let n : length (take i words) ≡ i = length-take-le i words (omega arith) in
    let all : take (i + 1) words ≡ take i words ++ (get_or words i 0 ∷ []) = rw add-one (take-suc words i 0 h) in
    (put_byte l at (take i words) (get_or words i 0 ∷ []) (omega (arith, length-append (take i words) (get_or words i 0 ∷ []))) m (at + i)
    (record { written = e; ends = omega arith }) (get_or words i 0) refl).written
    ∙ ap (splice l at) (sym all)

-- NUMBERS IN DECIMAL
one-digit : (n : ℕ) → n < 10 → decimal n ≡ digit n ∷ []
unfolding decimal decimal_in
one-digit n h = rw (lt-ltb n 10 h)

-- room for one digit more changes nothing where the number fits already
enough : (k n : ℕ) → n < 10 ^ suc k → decimal_in (suc (suc k)) n ≡ decimal_in (suc k) n
unfolding decimal_in
enough zero n h = rw (lt-ltb n 10 h)
enough (suc k) n h =
    let one = digit n ∷ [] in
    by-lt (λ t. cond t one (decimal_in (suc (suc k)) (n / 10) ++ one) ≡ cond t one (decimal_in (suc k) (n / 10) ++ one)) n 10 (λ g. refl)
    (λ g. let few : n < 10 ^ suc k * 10 = rw pow-suc at h in rw (enough k (n / 10) (omega arith)))

last-digit : (k n : ℕ) → 10 ≤ n → decimal_in (suc k) n ≡ decimal_in k (n / 10) ++ (digit n ∷ [])
unfolding decimal_in
last-digit k n g = rw (le-ltb n 10 g)

pub more-digits : (n : ℕ) → n < 2 ^ 64 → 10 ≤ n → decimal n ≡ decimal (n / 10) ++ (digit n ∷ [])
unfolding decimal
more-digits n h g = last-digit 19 n g ∙ ap (λ (d : List ℕ). d ++ (digit n ∷ [])) (sym (enough 18 (n / 10) (omega arith)))

-- a number below 10 ^ k has at most k digits
few-digits-in : (j k n : ℕ) → n < 10 ^ suc k → length (decimal_in j n) ≤ suc k
unfolding decimal_in
few-digits-in zero k n h = zero-le
few-digits-in (suc j) zero n h = rw (lt-ltb n 10 h) (omega arith)
few-digits-in (suc j) (suc k) n h =
    by-lt (λ t. length (cond t (digit n ∷ []) (decimal_in j (n / 10) ++ (digit n ∷ []))) ≤ suc (suc k)) n 10 (λ g. omega arith)
    (λ g.
    let few : n < 10 ^ suc k * 10 = rw pow-suc at h in
    omega (arith, length-append (decimal_in j (n / 10)) (digit n ∷ []), few-digits-in j k (n / 10) (omega arith)))

pub few-digits : (k n : ℕ) → n < 10 ^ suc k → length (decimal n) ≤ suc k
unfolding decimal
few-digits k n h = few-digits-in 20 k n h

-- and no number has more than 20
any-digits-in : (j n : ℕ) → length (decimal_in j n) ≤ j
unfolding decimal_in
any-digits-in zero n = zero-le
any-digits-in (suc j) n =
    by-lt (λ t. length (cond t (digit n ∷ []) (decimal_in j (n / 10) ++ (digit n ∷ []))) ≤ suc j) n 10 (λ g. omega arith)
    (λ g. omega (arith, length-append (decimal_in j (n / 10)) (digit n ∷ []), any-digits-in j (n / 10)))

pub any-digits : (n : ℕ) → length (decimal n) ≤ 20
unfolding decimal
any-digits n = any-digits-in 20 n

-- THE WRITER OF A NUMBER
-- one digit
module _ (l : List ℕ) (at n : ℕ) (h : n < 10) (room : HasRoom l at (decimal n)) where
  pub digit_room : at < length l
  unfolding HasRoom
  digit_room = omega (arith, ap length (one-digit n h))

  pub put-digit : Put l at (decimal n) (set l at (digit n)) (at + 1)
  put-digit = rw (one-digit n h) (record { written = splice-one l at (digit n) digit_room; ends = refl })

-- the last of several, behind the others
module _ (l : List ℕ) (at n : ℕ) (h : n < 2 ^ 64) (g : 10 ≤ n) (room : HasRoom l at (decimal n)) where
  digits-room : HasRoom l at (decimal (n / 10) ++ (digit n ∷ []))
  digits-room = rw (more-digits n h g) at room

  pub others-room : HasRoom l at (decimal (n / 10))
  others-room = room-first l at (decimal (n / 10)) (digit n ∷ []) digits-room

  module _ (m : List ℕ) (p : ℕ) (others : Put l at (decimal (n / 10)) m p) where
    pub last-room : p < length m
    last-room = room-byte l at (decimal (n / 10)) (digit n ∷ []) digits-room m p others (digit n) refl

    pub put_last : Put l at (decimal n) (set m p (digit n)) (p + 1)
    put_last = rw (more-digits n h g) (put_byte l at (decimal (n / 10)) (digit n ∷ []) digits-room m p others (digit n) refl)
