-- Numbers as bytes, and put into a buffer. Assumes nothing.
use mathlib.Core.Path.{◌≡◌, refl, sym, ap, ◌∙◌}
use mathlib.Core.List.{List, [], ◌∷◌, ◌++◌, append_assoc}
use Prim.Native.Nat.{ℕ, zero, suc, ◌+◌, ◌/◌, ◌%◌, ◌^◌, ◌≤◌}
use native.Mathlib.Omega.{arith}
use native.Mathlib.Nat.{zero-add, suc-add, add_comm, div-one, div-div-eq-div-mul}
use lib.Pow.{pow-add}
use lib.ListN.{length, take, drop, set}
use lib.Seq.{sets-eq}
use borrow.Rule.Slice.PartMut.{put_mid}
use lib.Seq.{drop-drop}
use Rattle.text.specs.Buffer.{splice}
use Rattle.std.specs.Int.{w32, w64, byte_at, bytes_high_first, to_be_bytes}
use Rattle.result.specs.Result.{bytes_of}

-- NUMBERS AS BYTES
pub length-bytes : (n x : ℕ) → length (bytes_of n x) ≡ n
unfolding bytes_of
length-bytes zero x = refl
length-bytes (suc n) x = ap suc (length-bytes n x)

-- n + m bytes are the n bytes of the high part and the m bytes of the number
pub bytes-append : (n m x : ℕ) → bytes_of (n + m) x ≡ bytes_of n (x / 256 ^ m) ++ bytes_of m x
unfolding bytes_of
bytes-append zero m x = rw zero-add
bytes-append (suc n) m x =
    rw (suc-add, bytes-append n m x, div-div-eq-div-mul, ← (pow-add 256 m n), add_comm m n)

-- four bytes by themselves, and of a number cut to four bytes
pub four_are : (x : ℕ) → bytes_of 4 x ≡ (x / 16777216 % 256) ∷ (x / 65536 % 256) ∷ (x / 256 % 256) ∷ (x % 256) ∷ []
unfolding bytes_of
four_are x = rw (div-one x)

pub four-cut : (x : ℕ) → bytes_of 4 (x % 4294967296) ≡ bytes_of 4 x
four-cut x =
    let a : x % 4294967296 / 16777216 % 256 ≡ x / 16777216 % 256 = omega arith in
    let b : x % 4294967296 / 65536 % 256 ≡ x / 65536 % 256 = omega arith in
    let c : x % 4294967296 / 256 % 256 ≡ x / 256 % 256 = omega arith in
    let d : x % 4294967296 % 256 ≡ x % 256 = omega arith in
    four_are (x % 4294967296) ∙ rw (a, b, c, d) (sym (four_are x))

-- as the library writes them
be_byte : (n x : ℕ) → byte_at n x ≡ x / 256 ^ n % 256
be_byte zero x = rw (div-one x)
be_byte (suc n) x = refl

pub be-bytes : (n x : ℕ) → bytes_high_first n x ≡ bytes_of n x
unfolding bytes_of
be-bytes zero x = refl
be-bytes (suc n) x = rw (be_byte n x, be-bytes n x)

pub be-four : (x : ℕ) → to_be_bytes w32 x ≡ bytes_of 4 x
be-four x = be-bytes 4 x

pub be-eight : (x : ℕ) → to_be_bytes w64 x ≡ bytes_of 8 x
be-eight x = be-bytes 8 x

-- a part of a buffer that was written whole
pub part-splice : (l bytes new : List ℕ) (at k : ℕ) → k ≡ length bytes → new ≡ bytes → put_mid at k l new ≡ splice l at bytes
unfolding splice
part-splice l bytes new at k n same = rw (n, same, drop-drop (length bytes) at l)
