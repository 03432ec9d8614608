-- A SET WHOSE SHIFT IS LOOKED FOR, as the code has it. Definitions only. Assumes nothing.
use Rattle.std.specs.Prelude.{ℕ, Bool}
use Rattle.std.proofs.Math.Option.{Option}
use Rattle.shift.specs.declared.sought.Sought.{Sought}
use Rattle.shift.specs.Columns.{side_kept_at, chosen_shift}

-- The blocks of a side that it holds keep their limits at a shift.
abbrev pub kept_at : Sought → (sells : Bool) → ℕ → Bool
kept_at s = side_kept_at s.tables.now.unit_prices.now s.tables.now.blocks.now s.tables.now.count s.set s.places s.often

-- The shift that is chosen.
abbrev pub shift_for : Sought → Option ℕ
shift_for s = chosen_shift s.tables.now.unit_prices.now s.tables.now.blocks.now s.tables.now.count s.set s.places s.often
