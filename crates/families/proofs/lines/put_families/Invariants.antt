use Rattle.std.proofs.Common.{◌≡◌, length}
use Rattle.text.specs.Text.{Put}
use Rattle.families.specs.Lines.{lines_to}
use Rattle.families.proofs.lines.put_families.Given as goal

abbrev pub invariant-loop-i : goal.invariant-loop-i
invariant-loop-i l = (length l.out ≡ length l.initial.out) × Put l.initial.out l.at (lines_to l.book l.records l.parents l.gains l.i) l.out l.end
