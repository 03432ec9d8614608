-- The numbers in a book's bytes (document 01, "The book in bytes"): unsigned, high byte first.
-- A missing byte reads as 0, so each number below is there for every list of bytes. Assumes nothing.
use Rattle.std.specs.Prelude.{ℕ, zero, suc, ◌+◌, ◌*◌, List, Bool, false, not, ◌||◌, eqb, get_or}

-- Byte i
abbrev pub byte_at : List ℕ → ℕ → ℕ
byte_at b i = get_or b i 0

-- The number in the 2 bytes from i on
unfoldable pub u16_at : List ℕ → ℕ → ℕ
u16_at b i = byte_at b i * 256 + byte_at b (i + 1)

-- The number in the 3 bytes from i on
unfoldable pub u24_at : List ℕ → ℕ → ℕ
u24_at b i = byte_at b i * 65536 + byte_at b (i + 1) * 256 + byte_at b (i + 2)

-- The number in the 4 bytes from i on
unfoldable pub u32_at : List ℕ → ℕ → ℕ
u32_at b i = byte_at b i * 16777216 + byte_at b (i + 1) * 65536 + byte_at b (i + 2) * 256 + byte_at b (i + 3)

-- The n bytes from i on are not all 0
unfoldable pub nonzero : List ℕ → ℕ → ℕ → Bool
nonzero b i zero = false
nonzero b i (suc n) = not (eqb (byte_at b i) 0) || nonzero b (i + 1) n
