-- the lines of the first i blocks are put
use Rattle.std.proofs.Common.{◌≡◌, length, take}
use Rattle.orders.specs.Columns.{block_records}
use Rattle.text.specs.Text.{Put}
use Rattle.sheet.specs.Lines.{block_lines_in}
use Rattle.sheet.proofs.lines.put_blocks.Given as goal

abbrev pub invariant-loop-i : goal.invariant-loop-i
invariant-loop-i l =
    (length l.out ≡ length l.initial.out) × Put l.initial.out l.fn.at (block_lines_in l.book l.res (take l.i (block_records l.book))) l.out l.end
