-- `clearing::clear_large` meets its contract: the large tables are zeros with room for the blocks. Assumes nothing.
use Prim.Native.Nat.{◌*◌}
use native.Mathlib.Omega.{arith}
use Rattle.orders.proofs.ColumnLaws.{zeros}
use Rattle.clearing.specs.Clear.{large_row}
use borrow.Author.Rules.{rules}
use Rattle.clearing.proofs.clear_large.Goals as goal

pub clear_within-requires : goal.clear_within-requires
clear_within-requires c =
    record { held = c.requires.0; tables = ((omega arith, omega arith), search rules, λ i. omega (arith, zeros (24 * large_row) i), c.requires.1) }
