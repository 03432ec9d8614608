-- TEXT AS BYTES: fixed words, numbers in decimal, and bytes put into a buffer. Definitions only. Assumes nothing.
use Rattle.std.specs.Prelude.{ℕ, zero, suc, ◌+◌, ◌/◌, ◌%◌, ◌≤◌, cond, List, [], ◌∷◌, ◌++◌, ◌≡◌, ltb, length}
use Prim.Native.Char.{code}
use Prim.Native.String as string
use Rattle.text.specs.Buffer.{splice}

-- The bytes of a text of ASCII characters.
unfoldable pub text : string.String → List ℕ
text string.[] = []
text (string.◌∷◌ c s) = code c ∷ text s

-- The last digit of n: `0` is byte 48.
abbrev pub digit : ℕ → ℕ
digit n = 48 + n % 10

-- The decimal digits of n, the highest first, at most k of them.
unfoldable pub decimal_in : ℕ → ℕ → List ℕ
decimal_in zero n = []
decimal_in (suc k) n = cond (ltb n 10) (digit n ∷ []) (decimal_in k (n / 10) ++ (digit n ∷ []))

-- A number in decimal, with no leading zero. The numbers of a sheet have no more than 20 digits.
unfoldable pub decimal : ℕ → List ℕ
decimal n = decimal_in 20 n

-- What ends a field: `;` within a line, a line feed at its end.
abbrev pub semicolon : ℕ
semicolon = 59

abbrev pub line_feed : ℕ
line_feed = 10

-- A number as a field of a line.
unfoldable pub field : ℕ → ℕ → List ℕ
field n end = decimal n ++ (end ∷ [])

-- The bytes have room in a buffer from `at` on.
unfoldable pub HasRoom : List ℕ → ℕ → List ℕ → Type 0
HasRoom buffer at bytes = at + length bytes ≤ length buffer

-- The bytes stand in the buffer from `at` up to `end`; the rest of it is as it was.
pub record Put (before : List ℕ) (at : ℕ) (bytes after : List ℕ) (end : ℕ) : Type 0 where
  pub written : after ≡ splice before at bytes
  pub ends : end ≡ at + length bytes
