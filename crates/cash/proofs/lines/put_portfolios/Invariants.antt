-- the lines of the portfolios 1 to p are put
use Rattle.std.proofs.Common.{◌≡◌, length}
use Rattle.text.specs.Text.{Put}
use Rattle.cash.specs.Lines.{lines_up_to}
use Rattle.cash.proofs.lines.put_portfolios.Given as goal

abbrev pub invariant-loop-p : goal.invariant-loop-p
invariant-loop-p l = (length l.out ≡ length l.initial.out) × Put l.initial.out l.fn.at (lines_up_to l.accounts l.p) l.out l.end
