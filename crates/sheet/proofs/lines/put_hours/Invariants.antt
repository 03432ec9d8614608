-- the lines of the hours 1 to h are put
use Rattle.std.proofs.Common.{◌≡◌, length}
use Rattle.result.specs.Result.{price_in, traded_in}
use Rattle.text.specs.Text.{Put}
use Rattle.sheet.specs.Sheet.{hour_lines}
use Rattle.sheet.proofs.lines.put_hours.Given as goal

abbrev pub invariant-loop-h : goal.invariant-loop-h
invariant-loop-h l = (length l.out ≡ length l.initial.out) × Put l.initial.out l.fn.at (hour_lines l.h (price_in l.res) (traded_in l.res)) l.out l.end
