-- What the laws of the causes find out on the way to the reader's answer. No reader of the answer needs it. Definitions only. Assumes nothing.
use Rattle.std.specs.Prelude.{ℕ, Bool, cond, eqb}

-- One cause more, looked for after others: the number that they gave, else, where it holds, its own
unfoldable pub next_found : ℕ → Bool → ℕ → ℕ
next_found before holds number = cond (eqb before 0) (cond holds number 0) before
